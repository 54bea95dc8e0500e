-- What `wrapping_div` gives is the quotient of the model.
use Rattle.std.proofs.Common.{◌≡◌, ℕ, zero, suc, ◌/◌, ◌^◌, ◌<◌, ◌≤◌, ℤ, pos, negsuc, neg_ℤ, sym, refl, ap, ◌∙◌, mod-eq_of_lt, div-le_self, arith, w32, SFits, to_z, of_z}
use lib.Signed.{mag, quot_z}
use Rattle.std.specs.Int.{int_wrap}
use Rattle.model.specs.Values.{toward_zero}

bits_wrapped : (z : ℤ) → mag z < 2 ^ 32 → to_z w32 (of_z w32 z) ≡ int_wrap w32 z
unfolding int_wrap
bits_wrapped (pos a) h = ap (to_z w32) (sym (mod-eq_of_lt h))
bits_wrapped (negsuc a) h = let e = mod-eq_of_lt h in ap (to_z w32) (omega arith)

negated : (n : ℕ) → mag (neg_ℤ (pos n)) ≤ n
negated zero = omega arith
negated (suc n) = omega arith

small : (a b : ℤ) → SFits w32 a → mag (quot_z a b) < 2 ^ 32
small (pos a) (pos b) f = omega (arith, f.sfits, div-le_self a b)
small (pos a) (negsuc b) f = omega (arith, f.sfits, div-le_self a (suc b), negated (a / suc b))
small (negsuc a) (pos b) f = omega (arith, f.sfits, div-le_self (suc a) b, negated (suc a / b))
small (negsuc a) (negsuc b) f = omega (arith, f.sfits, div-le_self (suc a) (suc b))

toward : (a b : ℤ) → 0 < of_z w32 b → quot_z a b ≡ toward_zero a b
toward (pos a) (pos zero) h = absurd (omega arith)
toward (negsuc a) (pos zero) h = absurd (omega arith)
toward (pos a) (pos (suc b)) h = refl
toward (negsuc a) (pos (suc b)) h = refl
toward (pos a) (negsuc b) h = refl
toward (negsuc a) (negsuc b) h = refl

pub quotient_is : (a b : ℤ) → SFits w32 a → 0 < of_z w32 b → to_z w32 (of_z w32 (quot_z a b)) ≡ int_wrap w32 (toward_zero a b)
quotient_is a b f h = bits_wrapped (quot_z a b) (small a b f) ∙ ap (int_wrap w32) (toward a b h)
