use Rattle.std.proofs.Common.{◌≡◌, ◌≤◌, length, take, sum_by, sym, ◌∙◌, arith, rules}
use Rattle.runs.specs.declared.Port.{Port}
use Rattle.runs.proofs.Stored.{room_is}
use Rattle.runs.proofs.finding.room_of.Goals as goal

pub sum-requires-clause-fits : goal.sum-requires-clause-fits
sum-requires-clause-fits c =
    let long : length c.args.ports.now ≡ 8 = search rules in
    let few : sum_by (λ (p : Port). p.size) (take c.args.n c.args.ports.now) ≤ 2048 = omega (arith, room_is c.args.ports.now c.args.n (omega arith)) in
    search rules

pub returns : goal.returns
returns c =
    let long : length c.args.ports.now ≡ 8 = search rules in
    let e : c.sum.result ≡ sum_by (λ (p : Port). p.size) (take c.args.n c.args.ports.now) = search rules in
    e ∙ sym (room_is c.args.ports.now c.args.n (omega arith))
