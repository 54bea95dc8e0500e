use Rattle.std.proofs.Common.{◌≡◌, ℕ, ◌/◌, ◌%◌, ◌^◌, ◌<◌, ◌≤◌, Bool, false, eqb, None, Some, Option, MatchOption, sym, ap, ◌∙◌, arith, rules}
use Rattle.std.specs.Option.{SomeIff}
use Rattle.std.proofs.Math.Nat.{div-eq_of_lt}
use Rattle.std.proofs.Math.Pow.{pow_mono}
use Rattle.survey.specs.Stretches.{has_bit}
use Rattle.runs.proofs.blocks.bit.Goals as goal

-- Past the bits of the mask what is left of it is 0.
shifted : (mask x : ℕ) (o : Option ℕ) (b : Bool) → mask < 2 ^ 64 → SomeIff o (x < 64) (mask / 2 ^ x) → MatchOption o (b ≡ false) (λ r. b ≡ eqb (r % 2) 1) → b ≡ has_bit mask x
shifted mask x (Some r) b small is test = test ∙ ap (λ (n : ℕ). eqb (n % 2) 1) is.1
shifted mask x None b small past test =
    let far : 64 ≤ x = omega (arith, past) in
    let wide = pow_mono far in
    test ∙ sym (ap (λ (n : ℕ). eqb (n % 2) 1) (div-eq_of_lt {n = mask} {m = 2 ^ x} (omega arith)))

pub returns : goal.returns
returns c = shifted c.args.mask c.args.x c.checked_shr.result c.is_some_and.result (search rules) (rw c.from.ensures at c.checked_shr.ensures) (search rules)
