-- A walk over a valid script has at most 16 blocks open.
use Rattle.std.proofs.Common.{ℕ, zero, suc, ◌≤◌, T, ltb, List, [], ◌∷◌, length, drop, arith, rules}
use Rattle.std.specs.List.{AllByRecursion}
use Rattle.lattice.specs.Levels.{Levels}
use Rattle.script.specs.Code.{Code, Script}
use Rattle.script.specs.Code.Code.{done, skip, assign, put, branch, loop, lock}
use Rattle.codec.specs.Frames.{Head, Frame}
use Rattle.codec.specs.Frames.Frame.{header, track, channel, thread, thread_end, if, else, end_if, while, end_while, with, end_with, last}
use Rattle.script.specs.Trees.{flatten, thread_frames, store_frames, script_frames, head_of, Valid, ValidScript}
use Rattle.model.specs.Places.{later_openers}
use Rattle.model.specs.Fitting.{Walk, stride, frame_at, around}

-- One block fewer.
abbrev less : ℕ → ℕ
less zero = zero
less (suc d) = d

-- From d open blocks on, these frames open no more than 16.
abbrev Low : ℕ → List Frame → Type 0
Low d [] = Unit {0}
Low d (header h ∷ fs) = Low d fs
Low d (track i l z ∷ fs) = Low d fs
Low d (channel i l z ∷ fs) = Low d fs
Low d (thread i ∷ fs) = Low d fs
Low d (thread_end ∷ fs) = Low d fs
Low d (Frame.skip ∷ fs) = Low d fs
Low d (Frame.assign x e ∷ fs) = Low d fs
Low d (Frame.put h e ∷ fs) = Low d fs
Low d (if e ∷ fs) = T (ltb d 16) × Low (suc d) fs
Low d (else ∷ fs) = Low d fs
Low d (end_if ∷ fs) = Low (less d) fs
Low d (while e ∷ fs) = T (ltb d 16) × Low (suc d) fs
Low d (end_while ∷ fs) = Low (less d) fs
Low d (with m e ∷ fs) = T (ltb d 16) × Low (suc d) fs
Low d (end_with ∷ fs) = Low (less d) fs
Low d (last m ∷ fs) = Low d fs

module _ (h : Head) where
  low_code : (c : Code) (d : ℕ) (r : List Frame) → Valid h d c → Low d r → Low d (flatten c r)
  low_code done d r v l = l
  low_code (skip c) d r v l = low_code c d r v l
  low_code (assign x e c) d r v l = low_code c d r v.2 l
  low_code (put x e c) d r v l = low_code c d r v.2 l
  low_code (branch e p q c) d r v l = (v.0, low_code p (suc d) _ v.2 (low_code q (suc d) _ v.3 (low_code c d r v.4 l)))
  low_code (loop e b c) d r v l = (v.0, low_code b (suc d) _ v.2 (low_code c d r v.3 l))
  low_code (lock m e b c) d r v l = (v.0, low_code b (suc d) _ v.3 (low_code c d r v.4 l))

  low_threads : (cs : List Code) (i : ℕ) (r : List Frame) → AllByRecursion (Valid h 0) cs → Low 0 r → Low 0 (thread_frames i cs r)
  low_threads [] i r v l = l
  low_threads (c ∷ cs) i r v l = low_code c 0 _ v.0 (low_threads cs (suc i) r v.1 l)

low_tracks : (ls zs : List ℕ) (i : ℕ) (r : List Frame) → Low 0 r → Low 0 (store_frames track i ls zs r)
low_tracks [] zs i r l = l
low_tracks (x ∷ ls) [] i r l = l
low_tracks (x ∷ ls) (z ∷ zs) i r l = low_tracks ls zs (suc i) r l

low_channels : (ls zs : List ℕ) (i : ℕ) (r : List Frame) → Low 0 r → Low 0 (store_frames channel i ls zs r)
low_channels [] zs i r l = l
low_channels (x ∷ ls) [] i r l = l
low_channels (x ∷ ls) (z ∷ zs) i r l = low_channels ls zs (suc i) r l

low_script : (kind : ℕ) (k : Levels) (sc : Script) → ValidScript kind k sc → Low 0 (script_frames sc)
low_script kind k sc v =
    low_tracks sc.track_levels sc.track_sizes 0 _ (low_channels sc.channel_levels sc.channel_sizes 0 _ (low_threads (head_of sc) sc.codes 0 _ v.codes tt))

-- Where a walk has got: not too deep, and the frames to come are low.
record Fine (w : Walk) (gs : List Frame) : Type 0 where
  deep : length w.openers ≤ 16
  low : Low (length w.openers) gs

less_length : (ps : List ℕ) (gs : List Frame) → length ps ≤ 16 → Low (less (length ps)) gs → (length (later_openers ps) ≤ 16) × Low (length (later_openers ps)) gs
less_length [] gs d l = (d, l)
less_length (p ∷ ps) gs d l = (omega arith, l)

fine_over : (p : ℕ) (f : Frame) (gs : List Frame) (w : Walk) → Fine w (f ∷ gs) → Fine (stride p f w) gs
fine_over p f gs w n = search rules

-- The frames at a place: the one there, and those from the next place on.
drop_split : (p q : ℕ) (fs : List Frame) (w : Walk) → Fine w (drop p fs) → Fine (stride q (frame_at fs p) w) (drop (suc p) fs)
drop_split zero q [] w n = record { deep = n.deep; low = tt }
drop_split zero q (f ∷ fs) w n = fine_over q f fs w n
drop_split (suc p) q [] w n = record { deep = n.deep; low = tt }
drop_split (suc p) q (f ∷ fs) w n = drop_split p q fs w n

fine : (fs : List Frame) → Low 0 fs → (p : ℕ) → Fine (around fs p) (drop p fs)
unfolding around
fine fs l zero = record { deep = omega arith; low = l }
fine fs l (suc p) = drop_split p p fs (around fs p) (fine fs l p)

pub shallow : (kind : ℕ) (k : Levels) (sc : Script) → ValidScript kind k sc → (p : ℕ) → length (around (script_frames sc) p).openers ≤ 16
shallow kind k sc v p = (fine (script_frames sc) (low_script kind k sc v) p).deep
