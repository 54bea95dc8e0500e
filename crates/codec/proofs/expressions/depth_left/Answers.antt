use Rattle.std.proofs.Common.{sym, ap, ◌∙◌, true-eqb}
use Rattle.std.proofs.lemmas.List.{nil_from_length}
use Rattle.codec.specs.Expressions.{decode}
use Rattle.codec.specs.Sound.{sound}
use Rattle.codec.proofs.expressions.depth_left.Goals as goal

pub returns : goal.returns
unfolding decode
returns c =
    let none = nil_from_length c.loop-rest.rest.now (true-eqb _ 0 c.loop-rest-test.ensures) in
    sym c.loop-rest.invariant ∙ ap (λ r. sound c.loop-rest.depth (decode 0 r)) none
