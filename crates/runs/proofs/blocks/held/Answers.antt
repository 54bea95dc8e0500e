use Rattle.std.proofs.Common.{rules, ℕ, cond, ap, ◌∙◌, ◌==◌, bit_or}
use Rattle.survey.specs.declared.table.Step.{Step}
use Rattle.runs.specs.declared.stack.Stack.{Stack}
use Rattle.runs.specs.Flat.{first_mark}
use Rattle.runs.specs.Statuses.{locks_of, reserved_one, reserved_marks}
use Rattle.runs.proofs.Loops.{locks_both, locks_unless}
use Rattle.runs.proofs.blocks.held.Goals as goal

pub returns : goal.returns
returns c =
    let table = c.args.table.now in
    let marks = c.args.marks.now in
    let itself = c.args.j == c.args.i in
    let own : Step → ℕ → ℕ → ℕ = (λ s o i. cond itself 0 s.mask) in
    let given : Step → ℕ → ℕ → ℕ = (λ s o i. bit_or (own s o i) (reserved_one s o i)) in
    c.locks.ensures given (search rules)
    ∙ ap (λ (blocks : Stack). locks_of table marks given blocks.base blocks.held) c.open_blocks.ensures
    ∙ locks_both table marks own reserved_one (first_mark c.args.j) c.args.p.depth
    ∙ ap (λ (x : ℕ). bit_or x (reserved_marks table marks (first_mark c.args.j) c.args.p.depth)) (locks_unless table marks itself (first_mark c.args.j) c.args.p.depth)
