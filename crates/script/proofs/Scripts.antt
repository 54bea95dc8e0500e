-- An accepted script is the frames of a valid tree.
use Rattle.std.proofs.Common.{◌≡◌, ℕ, suc, T, eqb, ◌⊎◌, List, [], ◌∷◌, map, length, sym, refl, ap, ◌∙◌, subst, arith, eqb→eq}
use Rattle.std.specs.List.{AllByRecursion}
use Rattle.lattice.specs.Levels.{Levels}
use Rattle.script.specs.Code.{Code, Script}
use Rattle.script.specs.Code.Code.{done, skip, assign, put, branch, loop, lock}
use Rattle.codec.specs.Frames.{Head, Frame, Read}
use Rattle.codec.specs.Frames.Frame.{header, track, channel, thread, thread_end, if, else, end_if, while, end_while, with, end_with, last}
use Rattle.script.specs.Format.{nothing_seen, seen_after, head_in_range, read_lines, read_script, whole_line}
use Rattle.script.specs.Format.Phase.{start}
use Rattle.script.specs.Format.Verdict.{accepted}
use Rattle.codec.specs.Lines.{split}
use Rattle.script.specs.Trees.{flatten, thread_frames, store_frames, head_of, body_frames, script_frames, Valid, ValidScript}
use Rattle.script.specs.Grown.{script_of}
use Rattle.script.proofs.Unique.{script_of_frames}
use Rattle.script.proofs.Accepting.{Accepts, accepts}
use Rattle.script.proofs.Parsing.{and_left, Outside, from_outside}

-- How many frames there are goes by how many follow.

length_flatten : (c : Code) (r s : List Frame) → length r ≡ length s → length (flatten c r) ≡ length (flatten c s)
length_flatten done r s e = e
length_flatten (skip c) r s e = ap suc (length_flatten c r s e)
length_flatten (assign x v c) r s e = ap suc (length_flatten c r s e)
length_flatten (put h v c) r s e = ap suc (length_flatten c r s e)
length_flatten (branch v p q c) r s e = ap suc (length_flatten p _ _ (ap suc (length_flatten q _ _ (ap suc (length_flatten c r s e)))))
length_flatten (loop v b c) r s e = ap suc (length_flatten b _ _ (ap suc (length_flatten c r s e)))
length_flatten (lock m v b c) r s e = ap suc (length_flatten b _ _ (ap suc (length_flatten c r s e)))

length_threads : (i : ℕ) (cs : List Code) (r s : List Frame) → length r ≡ length s → length (thread_frames i cs r) ≡ length (thread_frames i cs s)
length_threads i [] r s e = e
length_threads i (c ∷ cs) r s e = ap suc (length_flatten c _ _ (ap suc (length_threads (suc i) cs r s e)))

length_stores : (f : ℕ → ℕ → ℕ → Frame) (i : ℕ) (ls zs : List ℕ) (r s : List Frame) → length r ≡ length s → length (store_frames f i ls zs r) ≡ length (store_frames f i ls zs s)
length_stores f i [] zs r s e = e
length_stores f i (l ∷ ls) [] r s e = e
length_stores f i (l ∷ ls) (z ∷ zs) r s e = ap suc (length_stores f (suc i) ls zs r s e)

pub length_body : (sc : Script) (r s : List Frame) → length r ≡ length s → length (body_frames sc r) ≡ length (body_frames sc s)
length_body sc r s e = ap suc (length_stores track 0 sc.track_levels sc.track_sizes _ _ (length_stores channel 0 sc.channel_levels sc.channel_sizes _ _ (length_threads 0 sc.codes r s e)))

-- The last frame's number is right if it is the number of frames.
pub script_frames_is : (sc : Script) (n : ℕ) → n ≡ length (body_frames sc (last n ∷ [])) → script_frames sc ≡ body_frames sc (last n ∷ [])
script_frames_is sc n e = ap (λ (m : ℕ). body_frames sc (last m ∷ [])) (length_body sc (last 0 ∷ []) (last n ∷ []) refl ∙ sym e)

module _ (kind : ℕ) (k : Levels) where
  pub record Tree (fs : List Frame) : Type 0 where
    pub script : Script
    pub is : script_frames script ≡ fs
    pub valid : ValidScript kind k script

  made : (h : Head) (fs : List Frame) → T (head_in_range kind h) → Outside k (seen_after nothing_seen (header h)) fs → Tree (header h ∷ fs)
  made h fs t o =
      record {
        script = sc;
        is = same;
        valid = record {
          head = subst (λ (x : Head). T (head_in_range kind x)) (sym heads) t;
          track_sizes = o.tracks.pairs;
          channel_sizes = o.channels.pairs;
          track_room = omega (arith, o.tracks.fits);
          channel_room = omega (arith, o.channels.fits);
          track_levels = o.tracks.has;
          channel_levels = o.channels.has;
          codes = subst (λ (x : Head). AllByRecursion (Valid x 0) o.later.codes) (sym heads) o.later.valid;
          frames = omega (arith, ap length same, o.counted, o.later.bounded);
        };
      }
    where
      sc : Script
      sc = record {
        kind = h.kind;
        variables = h.variables;
        locks = h.locks;
        track_levels = o.tracks.levels;
        track_sizes = o.tracks.sizes;
        channel_levels = o.channels.levels;
        channel_sizes = o.channels.sizes;
        codes = o.later.codes;
      }

      one : 1 ≡ h.version
      one = sym (eqb→eq h.version 1 (and_left (eqb h.version 1) _ t))

      tracks : length o.tracks.levels ≡ h.tracks
      tracks = omega (arith, o.tracks.long)

      channels : length o.channels.levels ≡ h.channels
      channels = omega (arith, o.channels.long)

      threads : length o.later.codes ≡ h.threads
      threads = omega (arith, o.later.threads)

      heads : head_of sc ≡ h
      heads = λ i. record { version = one i; kind = h.kind; threads = threads i; variables = h.variables; tracks = tracks i; channels = channels i; locks = h.locks }

      body : body_frames sc (last o.later.count ∷ []) ≡ header h ∷ fs
      body = λ i. header (heads i) ∷ sym o.is i

      same : script_frames sc ≡ header h ∷ fs
      same = script_frames_is sc o.later.count (omega (arith, o.counted, ap length body)) ∙ body

  tree : (fs : List Frame) → Accepts kind k start nothing_seen fs → Tree fs
  tree [] a = absurd a
  tree (header h ∷ fs) a = made h fs a.1.0 (from_outside kind k fs (seen_after nothing_seen (header h)) (record { tracks = omega arith; channels = omega arith }) a.3)
  tree (track i l z ∷ fs) a = absurd a.1.1.1.0
  tree (channel i l z ∷ fs) a = absurd a.1.1.1.0
  tree (thread i ∷ fs) a = absurd a.1.0
  tree (thread_end ∷ fs) a = absurd a.1.0
  tree (Frame.skip ∷ fs) a = absurd a.1.0
  tree (Frame.assign x e ∷ fs) a = absurd a.1.0
  tree (Frame.put h e ∷ fs) a = absurd a.1.0
  tree (if e ∷ fs) a = absurd a.1.0
  tree (else ∷ fs) a = absurd a.1.0
  tree (end_if ∷ fs) a = absurd a.1.0
  tree (while e ∷ fs) a = absurd a.1.0
  tree (end_while ∷ fs) a = absurd a.1.0
  tree (with m e ∷ fs) a = absurd a.1.0
  tree (end_with ∷ fs) a = absurd a.1.0
  tree (last m ∷ fs) a = absurd a.1.0

  -- Lines that are accepted are a valid script.
  pub lines_accepted : (ls : List (ℕ ⊎ Read)) (fs : List Frame) → read_lines kind k start nothing_seen ls ≡ accepted fs → Tree fs
  lines_accepted ls fs e = tree fs (accepts kind k ls start nothing_seen fs e)

  pub script_accepted : (bytes : List ℕ) (fs : List Frame) → read_script kind k bytes ≡ accepted fs → Tree fs
  unfolding read_script
  script_accepted bytes fs e = lines_accepted (map whole_line (split bytes)) fs e

  -- The script of accepted frames is the one that grows from them.
  pub script_of_accepted : (fs : List Frame) → Tree fs → (script_frames (script_of fs) ≡ fs) × ValidScript kind k (script_of fs)
  script_of_accepted fs t =
      let e : script_of fs ≡ t.script = ap script_of (sym t.is) ∙ script_of_frames t.script (record { tracks = t.valid.track_sizes; channels = t.valid.channel_sizes }) in
      (ap script_frames e ∙ t.is, subst (ValidScript kind k) (sym e) t.valid)
