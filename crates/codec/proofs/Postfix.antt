-- The first operation of a code, and what it leaves to the rest.
use Rattle.std.proofs.Common.{◌≡◌, ℕ, zero, suc, ◌+◌, ◌-◌, ◌*◌, ◌<◌, ◌≤◌, cond, eqb, List, [], ◌∷◌, length, get_or, take, drop, sym, refl, ap, ◌∙◌, arith, length-drop, w32, to_z, ne_eqb}
use mathlib.Core.Option.{Option, none, some}
use Rattle.std.proofs.lemmas.List.{take_rest}
use Rattle.codec.specs.Expressions.{Op, Decoded, Taken, takes, with_four, with_one, operation, and_then, decode}
use Rattle.codec.specs.Expressions.Op.{constant, variable, sample, held}
use Rattle.codec.specs.Operations.{First, joined, plain_at, stopped}
use Rattle.codec.proofs.Rows.{miss}

skipped : (n : ℕ) (bs : List ℕ) → decode n bs ≡ decode 0 (drop n bs)
unfolding decode
skipped zero [] = refl
skipped zero (b ∷ bs) = refl
skipped (suc n) [] = refl
skipped (suc n) (b ∷ bs) = skipped n bs

first_drop : (code : List ℕ) (o : Op) (w : ℕ) → w < length code → operation (get_or code 0 0) (drop 1 code) ≡ takes o w → First code o (drop (suc w) code)
unfolding decode
first_drop [] o w l e = absurd (omega arith)
first_drop (k ∷ bs) o w l e = record { is = ap (λ t. and_then t (λ n. decode n bs)) e ∙ ap (joined o) (skipped w bs); shorter = simp length-drop (omega arith) }

pub first_is : (code : List ℕ) (o : Op) (w : ℕ) → w < length code → operation (get_or code 0 0) (drop 1 code) ≡ takes o w → First code o (take (length code - suc w) (drop (suc w) code))
first_is code o w l e = rw (take_rest code (suc w)) (first_drop code o w l e)

pub none_is : (code : List ℕ) → 0 < length code → operation (get_or code 0 0) (drop 1 code) ≡ none → decode 0 code ≡ stopped
unfolding decode
none_is [] l e = absurd (omega arith)
none_is (k ∷ bs) l e = ap (λ t. and_then t (λ n. decode n bs)) e

-- The operation of a code

operation_is : (k : ℕ) (bs : List ℕ) → operation k bs ≡ cond (eqb k 1) (with_four bs) (cond (eqb k 2) (with_one variable bs) (cond (eqb k 3) (with_one sample bs) (cond (eqb k 4) (with_one held bs) (plain_at k))))
unfolding operation
operation_is k bs = refl

pub constant_is : (code : List ℕ) → get_or code 0 0 ≡ 1 → 5 ≤ length code → operation (get_or code 0 0) (drop 1 code) ≡ takes (constant (to_z w32 (get_or code 1 0 * 16777216 + get_or code 2 0 * 65536 + get_or code 3 0 * 256 + get_or code 4 0))) 4
unfolding operation
constant_is code e h = ap (λ k. operation k (drop 1 code)) e ∙ fours code h
  where
    fours : (code : List ℕ) → 5 ≤ length code → with_four (drop 1 code) ≡ takes (constant (to_z w32 (get_or code 1 0 * 16777216 + get_or code 2 0 * 65536 + get_or code 3 0 * 256 + get_or code 4 0))) 4
    fours [] h = absurd (omega arith)
    fours (k ∷ []) h = absurd (omega arith)
    fours (k ∷ a ∷ []) h = absurd (omega arith)
    fours (k ∷ a ∷ b ∷ []) h = absurd (omega arith)
    fours (k ∷ a ∷ b ∷ c ∷ []) h = absurd (omega arith)
    fours (k ∷ a ∷ b ∷ c ∷ d ∷ bs) h = ap (λ n. takes (constant (to_z w32 n)) 4) (omega arith)

ones : (f : ℕ → Op) (code : List ℕ) → 2 ≤ length code → with_one f (drop 1 code) ≡ takes (f (get_or code 1 0)) 1
ones f [] h = absurd (omega arith)
ones f (k ∷ []) h = absurd (omega arith)
ones f (k ∷ a ∷ bs) h = refl

pub operand_is : (f : ℕ → Op) (m : ℕ) (code : List ℕ) → ((bs : List ℕ) → operation m bs ≡ with_one f bs) → get_or code 0 0 ≡ m → 2 ≤ length code
    → operation (get_or code 0 0) (drop 1 code) ≡ takes (f (get_or code 1 0)) 1
operand_is f m code reads e h = ap (λ k. operation k (drop 1 code)) e ∙ reads (drop 1 code) ∙ ones f code h

-- a code without operand bytes is none of those that have some
passed : (k m : ℕ) (t : Taken) (x z : Option Taken) → plain_at m ≡ none → some t ≡ plain_at k → cond (eqb k m) x z ≡ z
passed k m t x z no_plain e = rw (ne_eqb k m (λ h. let none_is_some = e ∙ ap plain_at h ∙ no_plain in cc))

pub plain_is : (k : ℕ) (bs : List ℕ) (o : Op) → takes o 0 ≡ plain_at k → operation k bs ≡ takes o 0
plain_is k bs o e =
    operation_is k bs
    ∙ passed k 1 _ _ _ refl e ∙ passed k 2 _ _ _ refl e ∙ passed k 3 _ _ _ refl e ∙ passed k 4 _ _ _ refl e ∙ sym e

few_four : (code : List ℕ) → (5 ≤ length code → ⊥) → with_four (drop 1 code) ≡ none
few_four [] h = refl
few_four (k ∷ []) h = refl
few_four (k ∷ a ∷ []) h = refl
few_four (k ∷ a ∷ b ∷ []) h = refl
few_four (k ∷ a ∷ b ∷ c ∷ []) h = refl
few_four (k ∷ a ∷ b ∷ c ∷ d ∷ bs) h = absurd (h (omega arith))

few_one : (f : ℕ → Op) (code : List ℕ) → (2 ≤ length code → ⊥) → with_one f (drop 1 code) ≡ none
few_one f [] h = refl
few_one f (k ∷ []) h = refl
few_one f (k ∷ a ∷ bs) h = absurd (h (omega arith))

pub cut_is : (code : List ℕ) → none ≡ plain_at (get_or code 0 0)
    → (get_or code 0 0 ≡ 1 → 5 ≤ length code → ⊥) → (get_or code 0 0 ≡ 2 → 2 ≤ length code → ⊥) → (get_or code 0 0 ≡ 3 → 2 ≤ length code → ⊥) → (get_or code 0 0 ≡ 4 → 2 ≤ length code → ⊥)
    → operation (get_or code 0 0) (drop 1 code) ≡ none
cut_is code e h₁ h₂ h₃ h₄ =
    operation_is (get_or code 0 0) (drop 1 code)
    ∙ miss (get_or code 0 0) 1 _ _ (λ z. few_four code (h₁ z))
    (miss (get_or code 0 0) 2 _ _ (λ z. few_one variable code (h₂ z))
    (miss (get_or code 0 0) 3 _ _ (λ z. few_one sample code (h₃ z))
    (miss (get_or code 0 0) 4 _ _ (λ z. few_one held code (h₄ z)) (sym e))))

-- What is declared

-- A code of which no operation can be read.
pub none_read : (code : List ℕ) → (0 < length code → decode 0 code ≡ stopped) → (decode 0 code).ops ≡ []
unfolding decode
none_read [] h = refl
none_read (k ∷ bs) h = ap (λ (d : Decoded). d.ops) (h (omega arith))
