-- Skipping over blocks of frames, and the place behind a frame.
use Rattle.std.proofs.Common.{◌≡◌, ℕ, zero, suc, ◌+◌, ◌<◌, List, [], ◌∷◌, length, get_or, drop, sym, ap, ◌∙◌, arith}
use Rattle.script.specs.Code.{Code}
use Rattle.script.specs.Code.Code.{done, skip, assign, put, branch, loop, lock}
use Rattle.codec.specs.Frames.{Frame}
use Rattle.codec.specs.Frames.Frame.{else, end_if, end_while, end_with}
use Rattle.script.specs.Trees.{flatten}
use Rattle.model.specs.Places.{skip_inside, skip_block, past}

-- How many frames a stretch has.
abbrev pub size : Code → ℕ
size done = 0
size (skip c) = suc (size c)
size (assign x e c) = suc (size c)
size (put h e c) = suc (size c)
size (branch e p q c) = suc (size p + suc (size q + suc (size c)))
size (loop e b c) = suc (size b + suc (size c))
size (lock m e b c) = suc (size b + suc (size c))

pub skip_flatten : (c : Code) (d : ℕ) (r : List Frame) → skip_inside d (flatten c r) ≡ size c + skip_inside d r
skip_flatten done d r = omega arith
skip_flatten (skip c) d r = omega (arith, skip_flatten c d r)
skip_flatten (assign x e c) d r = omega (arith, skip_flatten c d r)
skip_flatten (put h e c) d r = omega (arith, skip_flatten c d r)
skip_flatten (branch e p q c) d r = omega (arith, skip_flatten p (suc d) (else ∷ flatten q (end_if ∷ flatten c r)), skip_flatten q (suc d) (end_if ∷ flatten c r), skip_flatten c d r)
skip_flatten (loop e b c) d r = omega (arith, skip_flatten b (suc d) (end_while ∷ flatten c r), skip_flatten c d r)
skip_flatten (lock m e b c) d r = omega (arith, skip_flatten b (suc d) (end_with ∷ flatten c r), skip_flatten c d r)

-- The frame at a place, and those behind it.
pub drop_next : (p : ℕ) (fs : List Frame) {f : Frame} {gs : List Frame} → drop p fs ≡ f ∷ gs → drop (suc p) fs ≡ gs
drop_next zero [] e = absurd cc
drop_next zero (g ∷ fs) e = cc
drop_next (suc p) [] e = absurd cc
drop_next (suc p) (g ∷ fs) e = drop_next p fs e

-- The same place under another name.
same_place : (fs r : List Frame) (m n : ℕ) → m ≡ n → drop m fs ≡ r → drop n fs ≡ r
same_place fs r m n e h = ap (λ (i : ℕ). drop i fs) (sym e) ∙ h

pub drop_flatten : (c : Code) (p : ℕ) (fs r : List Frame) → drop p fs ≡ flatten c r → drop (p + size c) fs ≡ r
drop_flatten done p fs r e = same_place fs r p (p + 0) (omega arith) e
drop_flatten (skip c) p fs r e = same_place fs r (suc p + size c) (p + suc (size c)) (omega arith) (drop_flatten c (suc p) fs r (drop_next p fs e))
drop_flatten (assign x v c) p fs r e = same_place fs r (suc p + size c) (p + suc (size c)) (omega arith) (drop_flatten c (suc p) fs r (drop_next p fs e))
drop_flatten (put h v c) p fs r e = same_place fs r (suc p + size c) (p + suc (size c)) (omega arith) (drop_flatten c (suc p) fs r (drop_next p fs e))
drop_flatten (branch v c d n) p fs r e =
    let a = drop_flatten c (suc p) fs (else ∷ flatten d (end_if ∷ flatten n r)) (drop_next p fs e) in
    let b = drop_flatten d (suc (suc p + size c)) fs (end_if ∷ flatten n r) (drop_next (suc p + size c) fs a) in
    let to = suc (suc (suc p + size c) + size d) in
    same_place fs r (to + size n) (p + size (branch v c d n)) (omega arith) (drop_flatten n to fs r (drop_next (suc (suc p + size c) + size d) fs b))
drop_flatten (loop v c n) p fs r e =
    let a = drop_flatten c (suc p) fs (end_while ∷ flatten n r) (drop_next p fs e) in
    let to = suc (suc p + size c) in
    same_place fs r (to + size n) (p + size (loop v c n)) (omega arith) (drop_flatten n to fs r (drop_next (suc p + size c) fs a))
drop_flatten (lock m v c n) p fs r e =
    let a = drop_flatten c (suc p) fs (end_with ∷ flatten n r) (drop_next p fs e) in
    let to = suc (suc p + size c) in
    same_place fs r (to + size n) (p + size (lock m v c n)) (omega arith) (drop_flatten n to fs r (drop_next (suc p + size c) fs a))

-- Past a block: behind its end, or behind its else.
pub past_lands : (p : ℕ) (fs : List Frame) (f x : Frame) (c : Code) (r : List Frame) → skip_block (x ∷ r) ≡ 0 → drop p fs ≡ f ∷ flatten c (x ∷ r) → drop (past p (flatten c (x ∷ r))) fs ≡ r
past_lands p fs f x c r z e =
    let a = drop_flatten c (suc p) fs (x ∷ r) (drop_next p fs e) in
    same_place fs r (suc (suc p + size c)) (past p (flatten c (x ∷ r))) (omega (arith, skip_flatten c 0 (x ∷ r))) (drop_next (suc p + size c) fs a)

-- The frame at a place, by its number.
pub frame_here : (p : ℕ) (fs : List Frame) (d : Frame) {f : Frame} {gs : List Frame} → drop p fs ≡ f ∷ gs → (get_or fs p d ≡ f) × (p < length fs)
frame_here zero [] d e = absurd cc
frame_here zero (g ∷ fs) d e = (cc, omega arith)
frame_here (suc p) [] d e = absurd cc
frame_here (suc p) (g ∷ fs) d e = let t = frame_here p fs d e in (t.0, omega (arith, t.1))
