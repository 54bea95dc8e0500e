-- Bits of masks.
use Rattle.std.proofs.Common.{◌≡◌, ℕ, ◌<◌, ◌≤◌, ◌^◌, Bool, false, cond, ◌||◌, eqb, sym, ap, ◌∙◌, ⊎_elim, arith, le-ltb, lt-ltb, ne_eqb}
use lib.Bits.{bit_or}
use Rattle.std.specs.Int.{bit_at}
use Rattle.std.proofs.lemmas.Bool.{cases_lt, cases_eq}
use Rattle.std.proofs.lemmas.Bool.Decides.{nat_tests}
use Rattle.std.proofs.lemmas.Nat.Bits.{bit_at-pow_other, bit_at-pow_same}
use Rattle.model.proofs.Published.Masks.{test, test_or, test_zero}
use Rattle.survey.specs.Bits.{bit}
use Rattle.survey.specs.Stretches.{has_bit}

pub has_bit-bit_or : (a b x : ℕ) → has_bit (bit_or a b) x ≡ has_bit a x || has_bit b x
unfolding test
has_bit-bit_or a b x = test_or x a b

pub bit_none : (x : ℕ) → has_bit 0 x ≡ false
unfolding test
bit_none x = test_zero x

pub bit_alone : (x y : ℕ) → x < 64 → has_bit (bit y) x ≡ eqb x y
bit_alone x y h = ⊎_elim inside past (cases_lt y 64)
  where
    one : has_bit (2 ^ y) x ≡ eqb x y
    one =
        ⊎_elim
        (λ (e : x ≡ y). ap (λ (n : ℕ). eqb n 1) (ap (bit_at (2 ^ y)) e ∙ bit_at-pow_same y) ∙ grind (arith, nat_tests))
        (λ n. ap (λ (n : ℕ). eqb n 1) (bit_at-pow_other y x n) ∙ sym (ne_eqb x y n))
        (cases_eq x y)

    inside : y < 64 → has_bit (bit y) x ≡ eqb x y
    inside l = ap (λ (b : Bool). has_bit (cond b (2 ^ y) 0) x) (lt-ltb y 64 l) ∙ one

    past : 64 ≤ y → has_bit (bit y) x ≡ eqb x y
    past l = ap (λ (b : Bool). has_bit (cond b (2 ^ y) 0) x) (le-ltb y 64 l) ∙ bit_none x ∙ sym (ne_eqb x y (λ (e : x ≡ y). omega arith))
