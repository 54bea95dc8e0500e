use Rattle.std.proofs.Common.{length, ◌∙◌, arith, rules}
use Rattle.std.proofs.lemmas.Iterator.{YieldsList-from_map}
use Rattle.std.proofs.lemmas.Iterator.Consumers.{YieldsList-at, YieldsList-from_first, sum_by_from_yields_List, fits_by_from_yields_list}
use Rattle.codec.specs.Expressions.{Expr, Op, decode, op_bytes}
use Rattle.codec.specs.Operations.{left, op_of}
use Rattle.script.proofs.SlotLengths.{decode_few, expr_short, expr_sum}
use Rattle.script.proofs.finding.code_length.Goals as goal

pub sum-requires-clause-fits : goal.sum-requires-clause-fits
sum-requires-clause-fits c =
    let e : Expr = (decode 0 c.args.code.now).ops in
    fits_by_from_yields_list (λ (o : Op). length (op_bytes o)) e c.map.result _
    (YieldsList-from_map _ (λ (o : Op). length (op_bytes o)) (YieldsList-at c.map.ensures.source (YieldsList-from_first op_of left e c.new.ensures)) c.map.ensures.closure (λ x r q k. search rules))
    (omega (arith, expr_sum e, expr_short e, decode_few 0 c.args.code.now, c.requires))

pub returns : goal.returns
returns c =
    let e : Expr = (decode 0 c.args.code.now).ops in
    let n =
    sum_by_from_yields_List (λ (o : Op). length (op_bytes o)) e c.map.result c.sum.result c.sum.ensures.ran
    (YieldsList-from_map _ (λ (o : Op). length (op_bytes o)) (YieldsList-at c.map.ensures.source (YieldsList-from_first op_of left e c.new.ensures)) c.map.ensures.closure (λ x r q k. search rules))
    ∙ expr_sum e in
    record { length = n; short = omega (arith, expr_short e, decode_few 0 c.args.code.now) }
