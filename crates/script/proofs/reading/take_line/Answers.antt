use Rattle.std.proofs.Common.{◌≡◌, ◌+◌, Ok, MatchResult, sym, rules}
use Rattle.std.proofs.Math.Option.{some}
use Rattle.std.specs.Result.{IsErrAnd}
use Rattle.std.proofs.lemmas.Result.{MatchResult-at_ok, MatchResult-at_err, err_from_is_err_and}
use Rattle.codec.specs.Lines.{line_bytes}
use Rattle.script.specs.Format.{whole_line}
use Rattle.script.specs.Takings.{Refuses, Took}
use Rattle.script.specs.declared.faults.ScriptFault.TheVariants.{InFrame}
use Rattle.script.proofs.LineTakings.{told}
use Rattle.script.proofs.reading.take_line.Given.{Over}
use Rattle.script.proofs.reading.take_line.Goals as goal
use Rattle.script.proofs.reading.take_line.Goals.{After-map_err}

by_frame : (g : Over) (c : After-map_err g)
    → MatchResult c.map_err.result (λ t. Took g.K.Lattice.kind g.K.Lattice.order c.args.state (whole_line (line_bytes (some c.args.line.now))) t c.in_ok-slot.slot)
    (Refuses g.K.Lattice.kind g.K.Lattice.order c.args.state (whole_line (line_bytes (some c.args.line.now))))
by_frame g c =
    let h = rw c.in_ok-slot.ensures.ok_part at c.read_line.ensures.bytes in
    let z = rw c.in_ok-slot.ensures.ok_part at c.read_line.ensures.slot in
    let k : MatchResult c.take.result (λ t. c.map_err.result ≡ Ok t) (λ c'. IsErrAnd c.map_err.result (λ e. e ≡ InFrame c' (c.args.state.frames + 1))) = search rules in
    told g.K.Lattice.kind g.K.Lattice.order c.args.state c.args.line.now c.in_ok-slot.slot c.take.result c.map_err.result (sym h) z c.take.ensures k

pub returns : goal.returns
returns g c = MatchResult-at_ok _ _ _ c.in_ok-next.was (by_frame g (goal.at.returns g c).After-map_err)

pub returns-in_err-next : goal.returns-in_err-next
returns-in_err-next g c =
    let p = err_from_is_err_and c.from_residual-in_err-next.result c.from_residual-in_err-next.ensures.1 in
    rw (p.1, p.2) (MatchResult-at_err _ _ _ c.in_err-next.was (by_frame g (goal.at.returns-in_err-next g c).After-map_err))
