use Rattle.std.proofs.Common.{ℕ, ltb, unwrap_or, ap, ◌∙◌, rules}
use Rattle.std.specs.Bool.{then_some}
use Rattle.codec.specs.Lines.{worth}
use Rattle.codec.proofs.Worths.{rule}
use Rattle.codec.proofs.digits.digit_worth.Goals as goal

abbrev told : ℕ → ℕ
told x = unwrap_or (then_some (ltb x 16) x) 255

pub returns-clause-table : goal.returns-clause-table
unfolding worth
returns-clause-table c = ap (λ o. unwrap_or o 255) c.then_some.ensures ∙ search (rules, rule told)
