-- The frames of a valid script are accepted.
use Rattle.std.proofs.Common.{◌≡◌, ℕ, suc, ◌+◌, ◌<◌, ◌≤◌, Bool, true, false, cond, ◌&&◌, T, ltb, ◌⊎◌, List, [], ◌∷◌, ◌++◌, length, sym, refl, subst, inr, arith, le→leb, lt→ltb}
use mathlib.Core.Option.{none, some}
use lib.Dec.{eqb_refl}
use Rattle.std.proofs.Math.Facts.{yes_eqb}
use Rattle.std.specs.List.{AllByRecursion}
use Rattle.lattice.specs.Levels.{Levels}
use Rattle.script.specs.Code.{Code, Script}
use Rattle.script.specs.Code.Code.{done, skip, assign, put, branch, loop, lock}
use Rattle.codec.specs.Frames.{Head, Frame, Read}
use Rattle.codec.specs.Frames.Frame.{header, track, channel, thread, thread_end, if, else, end_if, while, end_while, with, end_with, last}
use Rattle.script.specs.Format.{Block, Phase, Seen, Test, ◌asks◌, tests, first_fault, fault, phase_after, seen_after, nothing_seen, judged, read_lines}
use Rattle.script.specs.Format.Phase.{start, outside, inside}
use Rattle.script.specs.Format.Block.{before_else, behind_else, in_while, in_with}
use Rattle.script.specs.Format.Verdict.{accepted}
use Rattle.script.specs.Trees.{flatten, thread_frames, store_frames, head_of, body_frames, script_frames, Valid, total, ValidScript}
use Rattle.script.proofs.Accepting.{Passing}
use Rattle.script.proofs.Scripts.{length_body}

and_both : (a b : Bool) → T a → T b → T (a && b)
and_both true b s t = t
and_both false b s t = s

no_fault : (ts : List Test) (u : Test) → Passing ts → T u.passes → first_fault (ts ++ (u ∷ [])) ≡ none
no_fault [] u h t = go u.passes t
  where
    go : (b : Bool) → T b → cond b none (some u.number) ≡ none
    go true t = refl
    go false t = absurd t
no_fault (s ∷ ts) u h t = go s.passes h.0 (no_fault ts u h.1 t)
  where
    go : (b : Bool) → T b → first_fault (ts ++ (u ∷ [])) ≡ none → cond b (first_fault (ts ++ (u ∷ []))) (some s.number) ≡ none
    go true t e = e
    go false t e = absurd t

-- Frames as lines without a fault of their own.
abbrev pub whole_lines : List Frame → List (ℕ ⊎ Read)
whole_lines [] = []
whole_lines (f ∷ fs) = inr (record { frame = f; whole = true }) ∷ whole_lines fs

module _ (kind : ℕ) (k : Levels) where
  abbrev pub Reads : Phase → Seen → List Frame → Type 0
  Reads p n fs = read_lines kind k p n (whole_lines fs) ≡ accepted fs

  reads : (p : Phase) (n : Seen) (f : Frame) (fs : List Frame) → Passing (tests kind k p n f true) → n.frames < 512 → Reads (phase_after p f) (seen_after n f) fs → Reads p n (f ∷ fs)
  unfolding read_lines fault
  reads p n f fs h t e =
      let z : fault kind k p n (record { frame = f; whole = true }) ≡ none = no_fault (tests kind k p n f true) (8 asks ltb n.frames 512) h (lt→ltb n.frames 512 t) in
      (λ i. judged (suc n.frames) f (z i) (e i))

abbrev at : Seen → ℕ → Seen
at n j = record { head = n.head; tracks = n.tracks; channels = n.channels; threads = n.threads; track_room = n.track_room; channel_room = n.channel_room; frames = j }

module _ (kind : ℕ) (k : Levels) (m : ℕ) (small : m ≤ 512) (n : Seen) where
  -- The frames that follow are read, at their place in the m frames.
  abbrev Follow : Phase → List Frame → Type 0
  Follow p r = (j : ℕ) → j + length r ≡ m → Reads kind k p (at n j) r

  read_code : (c : Code) (bs : List Block) (r : List Frame) → Valid n.head (length bs) c → Follow (inside bs) r → Follow (inside bs) (flatten c r)
  read_code done bs r v h j e = h j e
  read_code (skip c) bs r v h j e =
      reads kind k (inside bs) (at n j) Frame.skip _ (tt, tt) (omega arith) (read_code c bs r v h (suc j) (omega arith))
  read_code (assign x o c) bs r v h j e =
      reads kind k (inside bs) (at n j) (Frame.assign x o) _ (tt, (and_both _ _ v.0 v.1.0, (v.1.1, tt))) (omega arith) (read_code c bs r v.2 h (suc j) (omega arith))
  read_code (put y o c) bs r v h j e =
      reads kind k (inside bs) (at n j) (Frame.put y o) _ (tt, (and_both _ _ v.0 v.1.0, (v.1.1, tt))) (omega arith) (read_code c bs r v.2 h (suc j) (omega arith))
  read_code (branch o p q c) bs r v h j e =
      let close : Follow (inside (behind_else ∷ bs)) (end_if ∷ flatten c r) = λ i z. reads kind k (inside (behind_else ∷ bs)) (at n i) end_if _ (tt, tt) (omega arith) (read_code c bs r v.4 h (suc i) (omega arith)) in
      let other : Follow (inside (before_else ∷ bs)) (else ∷ flatten q (end_if ∷ flatten c r)) = λ i z. reads kind k (inside (before_else ∷ bs)) (at n i) else _ (tt, tt) (omega arith) (read_code q (behind_else ∷ bs) _ v.3 close (suc i) (omega arith)) in
      reads kind k (inside bs) (at n j) (if o) _ (tt, (v.1.0, (v.1.1, (v.0, tt)))) (omega arith) (read_code p (before_else ∷ bs) _ v.2 other (suc j) (omega arith))
  read_code (loop o b c) bs r v h j e =
      let close : Follow (inside (in_while ∷ bs)) (end_while ∷ flatten c r) = λ i z. reads kind k (inside (in_while ∷ bs)) (at n i) end_while _ (tt, tt) (omega arith) (read_code c bs r v.3 h (suc i) (omega arith)) in
      reads kind k (inside bs) (at n j) (while o) _ (tt, (v.1.0, (v.1.1, (v.0, tt)))) (omega arith) (read_code b (in_while ∷ bs) _ v.2 close (suc j) (omega arith))
  read_code (lock y o b c) bs r v h j e =
      let close : Follow (inside (in_with ∷ bs)) (end_with ∷ flatten c r) = λ i z. reads kind k (inside (in_with ∷ bs)) (at n i) end_with _ (tt, tt) (omega arith) (read_code c bs r v.4 h (suc i) (omega arith)) in
      reads kind k (inside bs) (at n j) (with y o) _ (tt, (and_both _ _ v.1 v.2.0, (v.2.1, (v.0, tt)))) (omega arith) (read_code b (in_with ∷ bs) _ v.3 close (suc j) (omega arith))

-- Every state outside threads, by what was read.
abbrev seen : Head → ℕ → ℕ → ℕ → ℕ → ℕ → ℕ → Seen
seen h t c i tr cr j = record { head = h; tracks = t; channels = c; threads = i; track_room = tr; channel_room = cr; frames = j }

module _ (kind : ℕ) (k : Levels) (m : ℕ) (small : m ≤ 512) (h : Head) where
  read_threads : (cs : List Code) (i tr cr j : ℕ) → AllByRecursion (Valid h 0) cs → length cs + i ≡ h.threads → j + length (thread_frames i cs (last m ∷ [])) ≡ m
      → Reads kind k outside (seen h h.tracks h.channels i tr cr j) (thread_frames i cs (last m ∷ []))
  unfolding read_lines
  read_threads [] i tr cr j v e z =
      reads kind k outside (seen h h.tracks h.channels i tr cr j) (last m) []
      (and_both _ _ (and_both _ _ (and_both _ _ (eqb_refl h.tracks) (eqb_refl h.channels)) (yes_eqb {a = i} {b = h.threads} (omega arith))) (yes_eqb {a = m} {b = suc j} (omega arith)), tt)
      (omega arith) refl
  read_threads (c ∷ cs) i tr cr j v e z =
      let n = seen h h.tracks h.channels (suc i) tr cr j in
      let rest = thread_frames (suc i) cs (last m ∷ []) in
      let close : Follow kind k m small n (inside []) (thread_end ∷ rest) = λ a y. reads kind k (inside []) (at n a) thread_end rest (tt, tt) (omega arith) (read_threads cs (suc i) tr cr (suc a) v.1 (omega arith) (omega arith)) in
      reads kind k outside (seen h h.tracks h.channels i tr cr j) (thread i) _
      (and_both _ _ (and_both _ _ (eqb_refl h.tracks) (eqb_refl h.channels)) (and_both _ _ (eqb_refl i) (lt→ltb i h.threads (omega arith))), tt)
      (omega arith) (read_code kind k m small n c [] (thread_end ∷ rest) v.0 close (suc j) (omega arith))

  read_channels : (ls zs : List ℕ) (r : List Frame) (c tr cr j : ℕ) → length zs ≡ length ls → length ls + c ≡ h.channels → cr + total zs ≤ 512 → AllByRecursion (λ l. T (k.has l)) ls
      → j + length (store_frames channel c ls zs r) ≡ m
      → ((tr cr j : ℕ) → j + length r ≡ m → Reads kind k outside (seen h h.tracks h.channels 0 tr cr j) r)
      → Reads kind k outside (seen h h.tracks c 0 tr cr j) (store_frames channel c ls zs r)
  read_channels [] [] r c tr cr j p e room has z f = subst (λ (x : ℕ). Reads kind k outside (seen h h.tracks x 0 tr cr j) r) (sym {a = c} (omega arith)) (f tr cr j z)
  read_channels [] (y ∷ zs) r c tr cr j p e room has z f = absurd (omega arith)
  read_channels (l ∷ ls) [] r c tr cr j p e room has z f = absurd (omega arith)
  read_channels (l ∷ ls) (y ∷ zs) r c tr cr j p e room has z f =
      reads kind k outside (seen h h.tracks c 0 tr cr j) (channel c l y) _
      (le→leb (cr + y) 512 (omega arith), (has.0, (and_both _ _ (eqb_refl h.tracks) (and_both _ _ (eqb_refl c) (lt→ltb c h.channels (omega arith))), tt)))
      (omega arith) (read_channels ls zs r (suc c) tr (cr + y) (suc j) (omega arith) (omega arith) (omega arith) has.1 (omega arith) f)

  read_tracks : (ls zs : List ℕ) (r : List Frame) (t tr j : ℕ) → length zs ≡ length ls → length ls + t ≡ h.tracks → tr + total zs ≤ 2048 → AllByRecursion (λ l. T (k.has l)) ls
      → j + length (store_frames track t ls zs r) ≡ m
      → ((tr j : ℕ) → j + length r ≡ m → Reads kind k outside (seen h h.tracks 0 0 tr 0 j) r)
      → Reads kind k outside (seen h t 0 0 tr 0 j) (store_frames track t ls zs r)
  read_tracks [] [] r t tr j p e room has z f = subst (λ (x : ℕ). Reads kind k outside (seen h x 0 0 tr 0 j) r) (sym {a = t} (omega arith)) (f tr j z)
  read_tracks [] (y ∷ zs) r t tr j p e room has z f = absurd (omega arith)
  read_tracks (l ∷ ls) [] r t tr j p e room has z f = absurd (omega arith)
  read_tracks (l ∷ ls) (y ∷ zs) r t tr j p e room has z f =
      reads kind k outside (seen h t 0 0 tr 0 j) (track t l y) _
      (le→leb (tr + y) 2048 (omega arith), (has.0, (and_both _ _ (eqb_refl t) (lt→ltb t h.tracks (omega arith)), tt)))
      (omega arith) (read_tracks ls zs r (suc t) (tr + y) (suc j) (omega arith) (omega arith) (omega arith) has.1 (omega arith) f)

pub valid_read : (kind : ℕ) (k : Levels) (sc : Script) → ValidScript kind k sc → Reads kind k start nothing_seen (script_frames sc)
valid_read kind k sc v =
    let h = head_of sc in
    let m = length (body_frames sc (last 0 ∷ [])) in
    let long : length (script_frames sc) ≡ m = length_body sc (last m ∷ []) (last 0 ∷ []) refl in
    let small : m ≤ 512 = omega (arith, v.frames) in
    reads kind k start nothing_seen (header h) _ (v.head, (tt, tt)) (omega arith)
    (read_tracks kind k m small h sc.track_levels sc.track_sizes _ 0 0 1 v.track_sizes (omega arith) (omega (arith, v.track_room)) v.track_levels (omega arith)
    (λ tr j e. read_channels kind k m small h sc.channel_levels sc.channel_sizes _ 0 tr 0 j v.channel_sizes (omega arith) (omega (arith, v.channel_room)) v.channel_levels e
    (λ tr cr j e. read_threads kind k m small h sc.codes 0 tr cr j v.codes (omega arith) e)))
