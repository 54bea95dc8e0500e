-- What an accepting reading leaves: from every state on, the frames are those of a valid rest of a script.
use Rattle.std.proofs.Common.{◌≡◌, ℕ, suc, ◌+◌, ◌^◌, ◌<◌, ◌≤◌, Bool, true, false, ◌&&◌, T, eqb, ltb, List, [], ◌∷◌, length, refl, ap, ◌∙◌, arith, eqb→eq, ltb→lt, leb→le}
use Rattle.std.specs.List.{AllByRecursion}
use Rattle.lattice.specs.Levels.{Levels}
use Rattle.codec.specs.Expressions.{Expr}
use Rattle.script.specs.Code.{Code}
use Rattle.script.specs.Code.Code.{done, skip, assign, put, branch, loop, lock}
use Rattle.codec.specs.Frames.{Head, Frame}
use Rattle.codec.specs.Frames.Frame.{header, track, channel, thread, thread_end, if, else, end_if, while, end_while, with, end_with, last}
use Rattle.script.specs.Format.{Block, Seen, one_more_frame, seen_after, is_next, all_tracks, all_channels, all_threads}
use Rattle.script.specs.Format.Phase.{outside, inside, ended}
use Rattle.script.specs.Format.Block.{before_else, behind_else, in_while, in_with}
use Rattle.script.specs.Trees.{flatten, thread_frames, store_frames, Sound, Valid, total}
use Rattle.script.proofs.Accepting.{Accepts}

-- The code that open blocks still have to come, innermost first.
abbrev pub Endings : List Block → Type 0
Endings [] = Unit {0}
Endings (before_else ∷ bs) = Code × Code × Endings bs
Endings (behind_else ∷ bs) = Code × Endings bs
Endings (in_while ∷ bs) = Code × Endings bs
Endings (in_with ∷ bs) = Code × Endings bs

abbrev pub endings : (bs : List Block) → Endings bs → List Frame → List Frame
endings [] es r = thread_end ∷ r
endings (before_else ∷ bs) es r = else ∷ flatten es.0 (end_if ∷ flatten es.1 (endings bs es.2 r))
endings (behind_else ∷ bs) es r = end_if ∷ flatten es.0 (endings bs es.1 r)
endings (in_while ∷ bs) es r = end_while ∷ flatten es.0 (endings bs es.1 r)
endings (in_with ∷ bs) es r = end_with ∷ flatten es.0 (endings bs es.1 r)

abbrev pub ValidEndings : Head → (bs : List Block) → Endings bs → Type 0
ValidEndings h [] es = Unit {0}
ValidEndings h (before_else ∷ bs) es = Valid h (suc (length bs)) es.0 × Valid h (length bs) es.1 × ValidEndings h bs es.2
ValidEndings h (behind_else ∷ bs) es = Valid h (length bs) es.0 × ValidEndings h bs es.1
ValidEndings h (in_while ∷ bs) es = Valid h (length bs) es.0 × ValidEndings h bs es.1
ValidEndings h (in_with ∷ bs) es = Valid h (length bs) es.0 × ValidEndings h bs es.1

-- Tests taken apart.
pub and_left : (a b : Bool) → T (a && b) → T a
and_left true b h = tt
and_left false b h = h

pub and_right : (a b : Bool) → T (a && b) → T b
and_right true b h = h
and_right false b h = absurd h

-- The threads to come, and the number of frames.
pub record Threads (h : Head) (i : ℕ) : Type 0 where
  pub codes : List Code
  pub count : ℕ
  pub threads : length codes + i ≡ h.threads
  pub valid : AllByRecursion (Valid h 0) codes
  pub bounded : count ≤ 512

abbrev pub threads_left : {h : Head} {i : ℕ} → Threads h i → List Frame
threads_left {i} t = thread_frames i t.codes (last t.count ∷ [])

pub record Inside (n : Seen) (bs : List Block) (fs : List Frame) : Type 0 where
  pub code : Code
  pub ends : Endings bs
  pub later : Threads n.head n.threads
  pub is : fs ≡ flatten code (endings bs ends (threads_left later))
  pub valid : Valid n.head (length bs) code
  pub ends_valid : ValidEndings n.head bs ends
  pub counted : later.count ≡ n.frames + length fs

module _ (k : Levels) where
  pub record Stores (room : ℕ) (capacity : ℕ) (seen declared : ℕ) : Type 0 where
    pub levels : List ℕ
    pub sizes : List ℕ
    pub long : length levels + seen ≡ declared
    pub pairs : length sizes ≡ length levels
    pub fits : room + total sizes ≤ capacity
    pub has : AllByRecursion (λ l. T (k.has l)) levels

  pub record Outside (n : Seen) (fs : List Frame) : Type 0 where
    pub tracks : Stores n.track_room 2048 n.tracks n.head.tracks
    pub channels : Stores n.channel_room 512 n.channels n.head.channels
    pub later : Threads n.head n.threads
    pub is : fs ≡ store_frames track n.tracks tracks.levels tracks.sizes (store_frames channel n.channels channels.levels channels.sizes (threads_left later))
    pub counted : later.count ≡ n.frames + length fs

-- The capacities so far are within their bounds.
pub record Fits (n : Seen) : Type 0 where
  pub tracks : n.track_room ≤ 2048
  pub channels : n.channel_room ≤ 512

pub record Full (n : Seen) : Type 0 where
  pub tracks : n.tracks ≡ n.head.tracks
  pub channels : n.channels ≡ n.head.channels

same_fits : (n : Seen) → Fits n → Fits (one_more_frame n)
same_fits n ok = record { tracks = ok.tracks; channels = ok.channels }

same_full : (n : Seen) → Full n → Full (one_more_frame n)
same_full n full = record { tracks = full.tracks; channels = full.channels }

full_from : (n : Seen) → T (all_channels outside n) → Full n
full_from n t = record { tracks = eqb→eq _ _ (and_left (all_tracks outside n) _ t); channels = eqb→eq _ _ (and_right (all_tracks outside n) _ t) }

-- One more frame in front, inside a thread.

front : (f : Frame) {gs hs : List Frame} → gs ≡ hs → (f ∷ gs) ≡ (f ∷ hs)
front f e = ap (λ (r : List Frame). f ∷ r) e

module _ (n : Seen) (bs : List Block) (fs : List Frame) where
  in_skip : Inside (one_more_frame n) bs fs → Inside n bs (Frame.skip ∷ fs)
  in_skip r = record { code = skip r.code; ends = r.ends; later = r.later; is = front Frame.skip r.is; valid = r.valid; ends_valid = r.ends_valid; counted = omega arith }

  in_assign : (x : ℕ) (e : Expr) → T (ltb x n.head.variables) → Sound n.head e → Inside (one_more_frame n) bs fs → Inside n bs (Frame.assign x e ∷ fs)
  in_assign x e t s r = record { code = assign x e r.code; ends = r.ends; later = r.later; is = front (Frame.assign x e) r.is; valid = (t, s, r.valid); ends_valid = r.ends_valid; counted = omega arith }

  in_put : (h : ℕ) (e : Expr) → T (ltb h n.head.channels) → Sound n.head e → Inside (one_more_frame n) bs fs → Inside n bs (Frame.put h e ∷ fs)
  in_put h e t s r = record { code = put h e r.code; ends = r.ends; later = r.later; is = front (Frame.put h e) r.is; valid = (t, s, r.valid); ends_valid = r.ends_valid; counted = omega arith }

  in_if : (e : Expr) → T (ltb (length bs) 16) → Sound n.head e → Inside (one_more_frame n) (before_else ∷ bs) fs → Inside n bs (if e ∷ fs)
  in_if e t s r = record { code = branch e r.code r.ends.0 r.ends.1; ends = r.ends.2; later = r.later; is = front (if e) r.is; valid = (t, s, r.valid, r.ends_valid.0, r.ends_valid.1); ends_valid = r.ends_valid.2; counted = omega arith }

  in_else : Inside (one_more_frame n) (behind_else ∷ bs) fs → Inside n (before_else ∷ bs) (else ∷ fs)
  in_else r = record { code = done; ends = (r.code, r.ends.0, r.ends.1); later = r.later; is = front else r.is; valid = tt; ends_valid = (r.valid, r.ends_valid.0, r.ends_valid.1); counted = omega arith }

  in_end_if : Inside (one_more_frame n) bs fs → Inside n (behind_else ∷ bs) (end_if ∷ fs)
  in_end_if r = record { code = done; ends = (r.code, r.ends); later = r.later; is = front end_if r.is; valid = tt; ends_valid = (r.valid, r.ends_valid); counted = omega arith }

  in_loop : (e : Expr) → T (ltb (length bs) 16) → Sound n.head e → Inside (one_more_frame n) (in_while ∷ bs) fs → Inside n bs (while e ∷ fs)
  in_loop e t s r = record { code = loop e r.code r.ends.0; ends = r.ends.1; later = r.later; is = front (while e) r.is; valid = (t, s, r.valid, r.ends_valid.0); ends_valid = r.ends_valid.1; counted = omega arith }

  in_end_while : Inside (one_more_frame n) bs fs → Inside n (in_while ∷ bs) (end_while ∷ fs)
  in_end_while r = record { code = done; ends = (r.code, r.ends); later = r.later; is = front end_while r.is; valid = tt; ends_valid = (r.valid, r.ends_valid); counted = omega arith }

  in_lock : (m : ℕ) (e : Expr) → T (ltb (length bs) 16) → T (ltb m (2 ^ n.head.locks)) → Sound n.head e → Inside (one_more_frame n) (in_with ∷ bs) fs → Inside n bs (with m e ∷ fs)
  in_lock m e t u s r = record { code = lock m e r.code r.ends.0; ends = r.ends.1; later = r.later; is = front (with m e) r.is; valid = (t, u, s, r.valid, r.ends_valid.0); ends_valid = r.ends_valid.1; counted = omega arith }

  in_end_with : Inside (one_more_frame n) bs fs → Inside n (in_with ∷ bs) (end_with ∷ fs)
  in_end_with r = record { code = done; ends = (r.code, r.ends); later = r.later; is = front end_with r.is; valid = tt; ends_valid = (r.valid, r.ends_valid); counted = omega arith }

-- One more frame in front, outside a thread.

no_stores : (k : Levels) (f : ℕ → ℕ → ℕ → Frame) {room capacity seen declared : ℕ} (s : Stores k room capacity seen declared) → seen ≡ declared → (i : ℕ) (r : List Frame) → store_frames f i s.levels s.sizes r ≡ r
no_stores k f {seen} {declared} s e i r = go s.levels s.long
  where
    go : (ls : List ℕ) → length ls + seen ≡ declared → store_frames f i ls s.sizes r ≡ r
    go [] h = refl
    go (l ∷ ls) h = absurd (omega arith)

abbrev no_more : (k : Levels) (room capacity seen declared : ℕ) → room ≤ capacity → seen ≡ declared → Stores k room capacity seen declared
no_more k room capacity seen declared h e = record { levels = []; sizes = []; long = omega arith; pairs = refl; fits = omega arith; has = tt }

abbrev one_more_store : (k : Levels) (room capacity seen declared l z : ℕ) → T (k.has l) → Stores k (room + z) capacity (suc seen) declared → Stores k room capacity seen declared
one_more_store k room capacity seen declared l z t s = record { levels = l ∷ s.levels; sizes = z ∷ s.sizes; long = omega arith; pairs = ap suc s.pairs; fits = omega arith; has = (t, s.has) }

module _ (k : Levels) (n : Seen) (fs : List Frame) where
  out_track : (i l z : ℕ) → i ≡ n.tracks → T (k.has l) → Outside k (seen_after n (track i l z)) fs → Outside k n (track i l z ∷ fs)
  out_track i l z e t r = record {
    tracks = one_more_store k _ _ _ _ l z t r.tracks;
    channels = r.channels;
    later = r.later;
    is = ap (λ (j : ℕ). track j l z ∷ fs) e ∙ front (track n.tracks l z) r.is;
    counted = omega arith;
  }

  out_channel : (i l z : ℕ) → i ≡ n.channels → n.tracks ≡ n.head.tracks → n.track_room ≤ 2048 → T (k.has l) → Outside k (seen_after n (channel i l z)) fs → Outside k n (channel i l z ∷ fs)
  out_channel i l z e full fits t r = record {
    tracks = no_more k _ _ _ _ fits full;
    channels = one_more_store k _ _ _ _ l z t r.channels;
    later = r.later;
    is = ap (λ (j : ℕ). channel j l z ∷ fs) e ∙ front (channel n.channels l z) (r.is ∙ no_stores k track r.tracks full _ _);
    counted = omega arith;
  }

  out_thread : (i : ℕ) → i ≡ n.threads → Full n → Fits n → Inside (seen_after n (thread i)) [] fs → Outside k n (thread i ∷ fs)
  out_thread i e full fits r = record {
    tracks = no_more k _ _ _ _ fits.tracks full.tracks;
    channels = no_more k _ _ _ _ fits.channels full.channels;
    later = record { codes = r.code ∷ r.later.codes; count = r.later.count; threads = omega arith; valid = (r.valid, r.later.valid); bounded = r.later.bounded };
    is = ap (λ (j : ℕ). thread j ∷ fs) e ∙ front (thread n.threads) r.is;
    counted = omega arith;
  }

  out_last : (m : ℕ) → m ≡ suc n.frames → n.frames < 512 → Full n → n.threads ≡ n.head.threads → Fits n → fs ≡ [] → Outside k n (last m ∷ fs)
  out_last m e h full same fits z = record {
    tracks = no_more k _ _ _ _ fits.tracks full.tracks;
    channels = no_more k _ _ _ _ fits.channels full.channels;
    later = record { codes = []; count = m; threads = omega arith; valid = tt; bounded = omega arith };
    is = front (last m) z;
    counted = omega (arith, ap length z);
  }

  in_thread_end : Full n → Outside k (one_more_frame n) fs → Inside n [] (thread_end ∷ fs)
  in_thread_end full r = record {
    code = done;
    ends = tt;
    later = r.later;
    is = front thread_end (r.is ∙ no_stores k track r.tracks full.tracks _ _ ∙ no_stores k channel r.channels full.channels _ _);
    valid = tt;
    ends_valid = tt;
    counted = omega arith;
  }

module _ (kind : ℕ) (k : Levels) where
  ending : (fs : List Frame) (n : Seen) → Accepts kind k ended n fs → fs ≡ []
  ending [] n a = refl
  ending (header h ∷ fs) n a = absurd a.1.1.0
  ending (track i l z ∷ fs) n a = absurd a.1.1.1.0
  ending (channel i l z ∷ fs) n a = absurd a.1.1.1.0
  ending (thread i ∷ fs) n a = absurd a.1.0
  ending (thread_end ∷ fs) n a = absurd a.1.0
  ending (Frame.skip ∷ fs) n a = absurd a.1.0
  ending (Frame.assign x e ∷ fs) n a = absurd a.1.0
  ending (Frame.put h e ∷ fs) n a = absurd a.1.0
  ending (if e ∷ fs) n a = absurd a.1.0
  ending (else ∷ fs) n a = absurd a.1.0
  ending (end_if ∷ fs) n a = absurd a.1.0
  ending (while e ∷ fs) n a = absurd a.1.0
  ending (end_while ∷ fs) n a = absurd a.1.0
  ending (with m e ∷ fs) n a = absurd a.1.0
  ending (end_with ∷ fs) n a = absurd a.1.0
  ending (last m ∷ fs) n a = absurd a.1.0

  mutual
    pub from_outside : (fs : List Frame) (n : Seen) → Fits n → Accepts kind k outside n fs → Outside k n fs
    from_outside [] n ok a = absurd a
    from_outside (header h ∷ fs) n ok a = absurd a.1.1.0
    from_outside (track i l z ∷ fs) n ok a =
        let t : T (is_next i n.tracks n.head.tracks) = a.1.1.1.0 in
        out_track k n fs i l z (eqb→eq _ _ (and_left _ _ t)) a.1.1.0 (from_outside fs (seen_after n (track i l z)) (record { tracks = leb→le _ _ a.1.0; channels = ok.channels }) a.3)
    from_outside (channel i l z ∷ fs) n ok a =
        let t : T (all_tracks outside n && is_next i n.channels n.head.channels) = a.1.1.1.0 in
        let u : T (is_next i n.channels n.head.channels) = and_right (all_tracks outside n) _ t in
        out_channel k n fs i l z (eqb→eq _ _ (and_left _ _ u)) (eqb→eq _ _ (and_left (all_tracks outside n) _ t)) ok.tracks a.1.1.0 (from_outside fs (seen_after n (channel i l z)) (record { tracks = ok.tracks; channels = leb→le _ _ a.1.0 }) a.3)
    from_outside (thread i ∷ fs) n ok a =
        let t : T (all_channels outside n && is_next i n.threads n.head.threads) = a.1.0 in
        let u : T (is_next i n.threads n.head.threads) = and_right (all_channels outside n) _ t in
        let full = full_from n (and_left (all_channels outside n) _ t) in
        out_thread k n fs i (eqb→eq _ _ (and_left _ _ u)) full ok (from-inside fs (seen_after n (thread i)) [] (record { tracks = ok.tracks; channels = ok.channels }) (record { tracks = full.tracks; channels = full.channels }) a.3)
    from_outside (thread_end ∷ fs) n ok a = absurd a.1.0
    from_outside (Frame.skip ∷ fs) n ok a = absurd a.1.0
    from_outside (Frame.assign x e ∷ fs) n ok a = absurd a.1.0
    from_outside (Frame.put h e ∷ fs) n ok a = absurd a.1.0
    from_outside (if e ∷ fs) n ok a = absurd a.1.0
    from_outside (else ∷ fs) n ok a = absurd a.1.0
    from_outside (end_if ∷ fs) n ok a = absurd a.1.0
    from_outside (while e ∷ fs) n ok a = absurd a.1.0
    from_outside (end_while ∷ fs) n ok a = absurd a.1.0
    from_outside (with m e ∷ fs) n ok a = absurd a.1.0
    from_outside (end_with ∷ fs) n ok a = absurd a.1.0
    from_outside (last m ∷ fs) n ok a =
        let t : T (all_threads outside n && eqb m (suc n.frames)) = a.1.0 in
        let u : T (all_threads outside n) = and_left (all_threads outside n) _ t in
        out_last k n fs m (eqb→eq _ _ (and_right (all_threads outside n) _ t)) (ltb→lt _ _ a.2) (full_from n (and_left (all_channels outside n) _ u)) (eqb→eq _ _ (and_right (all_channels outside n) _ u)) ok (ending fs (one_more_frame n) a.3)

    from-inside : (fs : List Frame) (n : Seen) (bs : List Block) → Fits n → Full n → Accepts kind k (inside bs) n fs → Inside n bs fs
    from-inside [] n bs ok full a = absurd a
    from-inside (header h ∷ fs) n bs ok full a = absurd a.1.1.0
    from-inside (track i l z ∷ fs) n bs ok full a = absurd a.1.1.1.0
    from-inside (channel i l z ∷ fs) n bs ok full a = absurd a.1.1.1.0
    from-inside (thread i ∷ fs) n bs ok full a = absurd a.1.0
    from-inside (thread_end ∷ fs) n [] ok full a = in_thread_end k n fs full (from_outside fs (one_more_frame n) (same_fits n ok) a.3)
    from-inside (thread_end ∷ fs) n (b ∷ bs) ok full a = absurd a.1.0
    from-inside (Frame.skip ∷ fs) n bs ok full a = in_skip n bs fs (from-inside fs (one_more_frame n) bs (same_fits n ok) (same_full n full) a.3)
    from-inside (Frame.assign x e ∷ fs) n bs ok full a = in_assign n bs fs x e (and_left _ _ a.1.1.0) (and_right _ _ a.1.1.0, and_right a.0 _ a.1.1.1.0) (from-inside fs (one_more_frame n) bs (same_fits n ok) (same_full n full) a.3)
    from-inside (Frame.put h e ∷ fs) n bs ok full a = in_put n bs fs h e (and_left _ _ a.1.1.0) (and_right _ _ a.1.1.0, and_right a.0 _ a.1.1.1.0) (from-inside fs (one_more_frame n) bs (same_fits n ok) (same_full n full) a.3)
    from-inside (if e ∷ fs) n bs ok full a = in_if n bs fs e a.1.1.1.1.0 (a.1.1.0, and_right a.0 _ a.1.1.1.0) (from-inside fs (one_more_frame n) (before_else ∷ bs) (same_fits n ok) (same_full n full) a.3)
    from-inside (else ∷ fs) n [] ok full a = absurd a.1.0
    from-inside (else ∷ fs) n (before_else ∷ bs) ok full a = in_else n bs fs (from-inside fs (one_more_frame n) (behind_else ∷ bs) (same_fits n ok) (same_full n full) a.3)
    from-inside (else ∷ fs) n (behind_else ∷ bs) ok full a = absurd a.1.0
    from-inside (else ∷ fs) n (in_while ∷ bs) ok full a = absurd a.1.0
    from-inside (else ∷ fs) n (in_with ∷ bs) ok full a = absurd a.1.0
    from-inside (end_if ∷ fs) n [] ok full a = absurd a.1.0
    from-inside (end_if ∷ fs) n (before_else ∷ bs) ok full a = absurd a.1.0
    from-inside (end_if ∷ fs) n (behind_else ∷ bs) ok full a = in_end_if n bs fs (from-inside fs (one_more_frame n) bs (same_fits n ok) (same_full n full) a.3)
    from-inside (end_if ∷ fs) n (in_while ∷ bs) ok full a = absurd a.1.0
    from-inside (end_if ∷ fs) n (in_with ∷ bs) ok full a = absurd a.1.0
    from-inside (while e ∷ fs) n bs ok full a = in_loop n bs fs e a.1.1.1.1.0 (a.1.1.0, and_right a.0 _ a.1.1.1.0) (from-inside fs (one_more_frame n) (in_while ∷ bs) (same_fits n ok) (same_full n full) a.3)
    from-inside (end_while ∷ fs) n [] ok full a = absurd a.1.0
    from-inside (end_while ∷ fs) n (before_else ∷ bs) ok full a = absurd a.1.0
    from-inside (end_while ∷ fs) n (behind_else ∷ bs) ok full a = absurd a.1.0
    from-inside (end_while ∷ fs) n (in_while ∷ bs) ok full a = in_end_while n bs fs (from-inside fs (one_more_frame n) bs (same_fits n ok) (same_full n full) a.3)
    from-inside (end_while ∷ fs) n (in_with ∷ bs) ok full a = absurd a.1.0
    from-inside (with m e ∷ fs) n bs ok full a = in_lock n bs fs m e a.1.1.1.1.0 (and_left _ _ a.1.1.0) (and_right _ _ a.1.1.0, and_right a.0 _ a.1.1.1.0) (from-inside fs (one_more_frame n) (in_with ∷ bs) (same_fits n ok) (same_full n full) a.3)
    from-inside (end_with ∷ fs) n [] ok full a = absurd a.1.0
    from-inside (end_with ∷ fs) n (before_else ∷ bs) ok full a = absurd a.1.0
    from-inside (end_with ∷ fs) n (behind_else ∷ bs) ok full a = absurd a.1.0
    from-inside (end_with ∷ fs) n (in_while ∷ bs) ok full a = absurd a.1.0
    from-inside (end_with ∷ fs) n (in_with ∷ bs) ok full a = in_end_with n bs fs (from-inside fs (one_more_frame n) bs (same_fits n ok) (same_full n full) a.3)
    from-inside (last m ∷ fs) n bs ok full a = absurd a.1.0
