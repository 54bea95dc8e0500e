-- The frame of bytes, as the code asks for it: by kind, length and places.
use Rattle.std.proofs.Common.{◌≡◌, ℕ, suc, ◌+◌, ◌-◌, ◌*◌, Bool, true, false, cond, eqb, leb, List, [], ◌∷◌, length, get_or, drop, sym, refl, ap, ◌∙◌, arith, ne_eqb, le-leb}
use mathlib.Core.Option.{Option, none, some}
use Rattle.codec.specs.Expressions.{Expr}
use Rattle.codec.specs.Frames.{Frame, Read, header_of, store_of, frame_of, with_nothing, with_byte, with_two, with_seven, field_then, mask_then, with_expression}
use Rattle.codec.specs.Frames.Frame.{track, channel, thread, thread_end, skip, assign, put, if, else, end_if, while, end_while, with, end_with, last}
use Rattle.codec.specs.Shapes.{fitting, decoded, whole}
use Rattle.codec.proofs.Rows.{miss}

abbrev two_at : List ℕ → ℕ → ℕ
two_at bs i = get_or bs i 0 * 256 + get_or bs (i + 1) 0

abbrev four_at : List ℕ → ℕ
four_at bs = get_or bs 2 0 * 16777216 + get_or bs 3 0 * 65536 + get_or bs 4 0 * 256 + get_or bs 5 0

abbrev if_long : List ℕ → ℕ → Frame → Option Read
if_long bs n f = cond (eqb (length bs) n) (some (whole f)) none

abbrev if_fits : List ℕ → ℕ → (Expr → Frame) → Option Read
if_fits bs n f = cond (leb n (length bs)) (cond (fitting (length bs - n)) (some (decoded f (drop n bs))) none) none

abbrev pub frame_at : List ℕ → Option Read
frame_at bs =
    cond (eqb (length bs) 0) none
    (cond (eqb (get_or bs 0 0) 0x01) (if_long bs 8 (header_of (get_or bs 1 0) (get_or bs 2 0) (get_or bs 3 0) (get_or bs 4 0) (get_or bs 5 0) (get_or bs 6 0) (get_or bs 7 0)))
    (cond (eqb (get_or bs 0 0) 0x02) (if_long bs 8 (track (get_or bs 1 0) (four_at bs) (two_at bs 6)))
    (cond (eqb (get_or bs 0 0) 0x03) (if_long bs 8 (channel (get_or bs 1 0) (four_at bs) (two_at bs 6)))
    (cond (eqb (get_or bs 0 0) 0x20) (if_long bs 2 (thread (get_or bs 1 0)))
    (cond (eqb (get_or bs 0 0) 0x21) (if_long bs 1 thread_end)
    (cond (eqb (get_or bs 0 0) 0x30) (if_long bs 1 skip)
    (cond (eqb (get_or bs 0 0) 0x31) (if_fits bs 2 (assign (get_or bs 1 0)))
    (cond (eqb (get_or bs 0 0) 0x32) (if_fits bs 2 (put (get_or bs 1 0)))
    (cond (eqb (get_or bs 0 0) 0x40) (if_fits bs 1 if)
    (cond (eqb (get_or bs 0 0) 0x41) (if_long bs 1 else)
    (cond (eqb (get_or bs 0 0) 0x42) (if_long bs 1 end_if)
    (cond (eqb (get_or bs 0 0) 0x43) (if_fits bs 1 while)
    (cond (eqb (get_or bs 0 0) 0x44) (if_long bs 1 end_while)
    (cond (eqb (get_or bs 0 0) 0x45) (if_fits bs 3 (with (two_at bs 1)))
    (cond (eqb (get_or bs 0 0) 0x46) (if_long bs 1 end_with)
    (cond (eqb (get_or bs 0 0) 0x7F) (if_long bs 3 (last (two_at bs 1)))
    none))))))))))))))))

nothing_is : (k : ℕ) (f : Frame) (bs : List ℕ) → if_long (k ∷ bs) 1 f ≡ with_nothing f bs
nothing_is k f [] = refl
nothing_is k f (b ∷ bs) = rw (ne_eqb (suc (suc (length bs))) 1 (omega arith))

byte_is : (k : ℕ) (f : ℕ → Frame) (bs : List ℕ) → if_long (k ∷ bs) 2 (f (get_or bs 0 0)) ≡ with_byte f bs
byte_is k f [] = refl
byte_is k f (a ∷ []) = refl
byte_is k f (a ∷ b ∷ bs) = rw (ne_eqb (suc (suc (suc (length bs)))) 2 (omega arith))

two_is : (k : ℕ) (f : ℕ → Frame) (bs : List ℕ) → if_long (k ∷ bs) 3 (f (get_or bs 0 0 * 256 + get_or bs 1 0)) ≡ with_two f bs
two_is k f [] = refl
two_is k f (a ∷ []) = refl
two_is k f (a ∷ b ∷ []) = refl
two_is k f (a ∷ b ∷ c ∷ bs) = rw (ne_eqb (suc (suc (suc (suc (length bs))))) 3 (omega arith))

seven_is : (k : ℕ) (f : ℕ → ℕ → ℕ → ℕ → ℕ → ℕ → ℕ → Frame) (bs : List ℕ)
    → if_long (k ∷ bs) 8 (f (get_or bs 0 0) (get_or bs 1 0) (get_or bs 2 0) (get_or bs 3 0) (get_or bs 4 0) (get_or bs 5 0) (get_or bs 6 0)) ≡ with_seven f bs
seven_is k f [] = refl
seven_is k f (a ∷ []) = refl
seven_is k f (a ∷ b ∷ []) = refl
seven_is k f (a ∷ b ∷ c ∷ []) = refl
seven_is k f (a ∷ b ∷ c ∷ d ∷ []) = refl
seven_is k f (a ∷ b ∷ c ∷ d ∷ e ∷ []) = refl
seven_is k f (a ∷ b ∷ c ∷ d ∷ e ∷ g ∷ []) = refl
seven_is k f (a ∷ b ∷ c ∷ d ∷ e ∷ g ∷ h ∷ []) = refl
seven_is k f (a ∷ b ∷ c ∷ d ∷ e ∷ g ∷ h ∷ i ∷ bs) = rw (ne_eqb (suc (suc (suc (suc (suc (suc (suc (suc (suc (length bs)))))))))) 8 (omega arith))

store_is : (k : ℕ) (f : ℕ → ℕ → ℕ → Frame) (bs : List ℕ)
    → if_long (k ∷ bs) 8 (f (get_or bs 0 0) (get_or bs 1 0 * 16777216 + get_or bs 2 0 * 65536 + get_or bs 3 0 * 256 + get_or bs 4 0) (get_or bs 5 0 * 256 + get_or bs 6 0)) ≡ with_seven (store_of f) bs
store_is k f bs =
    ap (λ l. if_long (k ∷ bs) 8 (f (get_or bs 0 0) l (get_or bs 5 0 * 256 + get_or bs 6 0))) (omega arith)
    ∙ seven_is k (store_of f) bs

fits_is : (bs rest : List ℕ) (n : ℕ) (f : Expr → Frame) → length bs ≡ length rest + n → drop n bs ≡ rest → if_fits bs n f ≡ with_expression f rest
fits_is bs rest n f l d =
    let e : length bs - n ≡ length rest = omega arith in
    rw (le-leb n (length bs) (omega arith)) (λ i. cond (fitting (e i)) (some (decoded f (d i))) none)

expression_is : (k : ℕ) (f : Expr → Frame) (bs : List ℕ) → if_fits (k ∷ bs) 1 f ≡ with_expression f bs
expression_is k f bs = fits_is (k ∷ bs) bs 1 f (omega arith) refl

field_is : (k : ℕ) (f : ℕ → Expr → Frame) (bs : List ℕ) → if_fits (k ∷ bs) 2 (f (get_or bs 0 0)) ≡ field_then f bs
field_is k f [] = refl
field_is k f (a ∷ bs) = fits_is (k ∷ a ∷ bs) bs 2 (f a) (omega arith) refl

mask_is : (k : ℕ) (f : ℕ → Expr → Frame) (bs : List ℕ) → if_fits (k ∷ bs) 3 (f (get_or bs 0 0 * 256 + get_or bs 1 0)) ≡ mask_then f bs
mask_is k f [] = refl
mask_is k f (a ∷ []) = refl
mask_is k f (a ∷ b ∷ bs) = fits_is (k ∷ a ∷ b ∷ bs) bs 3 (f (a * 256 + b)) (omega arith) refl

pub frame_is : (bs : List ℕ) → frame_at bs ≡ frame_of bs
unfolding frame_of
frame_is [] = refl
frame_is (k ∷ bs) =
    rw (ne_eqb (suc (length bs)) 0 (omega arith))
    (λ i.
    cond (eqb k 0x01) (seven_is k header_of bs i)
    (cond (eqb k 0x02) (store_is k track bs i)
    (cond (eqb k 0x03) (store_is k channel bs i)
    (cond (eqb k 0x20) (byte_is k thread bs i)
    (cond (eqb k 0x21) (nothing_is k thread_end bs i)
    (cond (eqb k 0x30) (nothing_is k skip bs i)
    (cond (eqb k 0x31) (field_is k assign bs i)
    (cond (eqb k 0x32) (field_is k put bs i)
    (cond (eqb k 0x40) (expression_is k if bs i)
    (cond (eqb k 0x41) (nothing_is k else bs i)
    (cond (eqb k 0x42) (nothing_is k end_if bs i)
    (cond (eqb k 0x43) (expression_is k while bs i)
    (cond (eqb k 0x44) (nothing_is k end_while bs i)
    (cond (eqb k 0x45) (mask_is k with bs i)
    (cond (eqb k 0x46) (nothing_is k end_with bs i)
    (cond (eqb k 0x7F) (two_is k last bs i)
    none))))))))))))))))

pub via : (x : Option Read) (bs : List ℕ) → x ≡ frame_at bs → x ≡ frame_of bs
via x bs e = e ∙ frame_is bs

long_none : (n m : ℕ) (f : Frame) → (n ≡ m → ⊥) → cond (eqb n m) (some (whole f)) none ≡ none
long_none n m f h = rw (ne_eqb n m h)

fits_none : (b c : Bool) (r : Read) → (b ≡ true → c ≡ true → ⊥) → cond b (cond c (some r) none) none ≡ none
fits_none true true r h = absurd (h refl refl)
fits_none true false r h = refl
fits_none false c r h = refl

either_none : (t : Bool) (x : Option Read) → x ≡ none → cond t none x ≡ none
either_none true x e = refl
either_none false x e = e

-- No frame: no kind that the bytes may have has their length.
pub record Missed (bs : List ℕ) : Type 0 where
  pub not_1 : get_or bs 0 0 ≡ 0x01 → length bs ≡ 8 → ⊥
  pub not_2 : get_or bs 0 0 ≡ 0x02 → length bs ≡ 8 → ⊥
  pub not_3 : get_or bs 0 0 ≡ 0x03 → length bs ≡ 8 → ⊥
  pub not_32 : get_or bs 0 0 ≡ 0x20 → length bs ≡ 2 → ⊥
  pub not_33 : get_or bs 0 0 ≡ 0x21 → length bs ≡ 1 → ⊥
  pub not_48 : get_or bs 0 0 ≡ 0x30 → length bs ≡ 1 → ⊥
  pub not_49 : get_or bs 0 0 ≡ 0x31 → leb 2 (length bs) ≡ true → fitting (length bs - 2) ≡ true → ⊥
  pub not_50 : get_or bs 0 0 ≡ 0x32 → leb 2 (length bs) ≡ true → fitting (length bs - 2) ≡ true → ⊥
  pub not_64 : get_or bs 0 0 ≡ 0x40 → leb 1 (length bs) ≡ true → fitting (length bs - 1) ≡ true → ⊥
  pub not_65 : get_or bs 0 0 ≡ 0x41 → length bs ≡ 1 → ⊥
  pub not_66 : get_or bs 0 0 ≡ 0x42 → length bs ≡ 1 → ⊥
  pub not_67 : get_or bs 0 0 ≡ 0x43 → leb 1 (length bs) ≡ true → fitting (length bs - 1) ≡ true → ⊥
  pub not_68 : get_or bs 0 0 ≡ 0x44 → length bs ≡ 1 → ⊥
  pub not_69 : get_or bs 0 0 ≡ 0x45 → leb 3 (length bs) ≡ true → fitting (length bs - 3) ≡ true → ⊥
  pub not_70 : get_or bs 0 0 ≡ 0x46 → length bs ≡ 1 → ⊥
  pub not_127 : get_or bs 0 0 ≡ 0x7F → length bs ≡ 3 → ⊥

pub missed : (x : Option Read) (bs : List ℕ) → x ≡ none → Missed bs → x ≡ frame_of bs
missed x bs e h = e ∙ sym (either_none (eqb (length bs) 0) _
    (miss (get_or bs 0 0) 0x01 _ _ (λ z. long_none (length bs) 8 _ (h.not_1 z))
    (miss (get_or bs 0 0) 0x02 _ _ (λ z. long_none (length bs) 8 _ (h.not_2 z))
    (miss (get_or bs 0 0) 0x03 _ _ (λ z. long_none (length bs) 8 _ (h.not_3 z))
    (miss (get_or bs 0 0) 0x20 _ _ (λ z. long_none (length bs) 2 _ (h.not_32 z))
    (miss (get_or bs 0 0) 0x21 _ _ (λ z. long_none (length bs) 1 _ (h.not_33 z))
    (miss (get_or bs 0 0) 0x30 _ _ (λ z. long_none (length bs) 1 _ (h.not_48 z))
    (miss (get_or bs 0 0) 0x31 _ _ (λ z. fits_none (leb 2 (length bs)) (fitting (length bs - 2)) _ (h.not_49 z))
    (miss (get_or bs 0 0) 0x32 _ _ (λ z. fits_none (leb 2 (length bs)) (fitting (length bs - 2)) _ (h.not_50 z))
    (miss (get_or bs 0 0) 0x40 _ _ (λ z. fits_none (leb 1 (length bs)) (fitting (length bs - 1)) _ (h.not_64 z))
    (miss (get_or bs 0 0) 0x41 _ _ (λ z. long_none (length bs) 1 _ (h.not_65 z))
    (miss (get_or bs 0 0) 0x42 _ _ (λ z. long_none (length bs) 1 _ (h.not_66 z))
    (miss (get_or bs 0 0) 0x43 _ _ (λ z. fits_none (leb 1 (length bs)) (fitting (length bs - 1)) _ (h.not_67 z))
    (miss (get_or bs 0 0) 0x44 _ _ (λ z. long_none (length bs) 1 _ (h.not_68 z))
    (miss (get_or bs 0 0) 0x45 _ _ (λ z. fits_none (leb 3 (length bs)) (fitting (length bs - 3)) _ (h.not_69 z))
    (miss (get_or bs 0 0) 0x46 _ _ (λ z. long_none (length bs) 1 _ (h.not_70 z))
    (miss (get_or bs 0 0) 0x7F _ _ (λ z. long_none (length bs) 3 _ (h.not_127 z))
    refl))))))))))))))))) ∙ frame_is bs
