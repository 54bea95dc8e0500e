use Rattle.std.proofs.Common.{◌≡◌, Err, refl, sym, ap, ◌∙◌, rules}
use Rattle.std.specs.Result.{result_ok}
use Rattle.std.proofs.lemmas.Option.{MatchOption-at_none, MatchOption-at_some}
use Rattle.script.specs.declared.faults.RunFault.TheVariants.{NoState}
use Rattle.runs.proofs.Making.{begins_coded, begins_keeps, made, made_not}
use Rattle.runs.proofs.run.Run.make.Goals as goal

pub returns-in_err-declared : goal.returns-in_err-declared
returns-in_err-declared g c =
    let none = MatchOption-at_none _ _ (c.ok_or.ensures.ok_part ∙ ap result_ok c.in_err-declared.was) c.declarations.ensures in
    let fault : c.from_residual.result ≡ Err NoState = search rules in
    rw fault (record { is = refl; lacks = λ sc v h enough. none sc (record { valid = v; holds = h }); same_samples = refl; same_entries = refl; same_marks = refl })

pub beginning-core-requires : goal.beginning-core-requires
beginning-core-requires g c = MatchOption-at_some _ _ c.in_ok-declared.declared (c.ok_or.ensures.ok_part ∙ ap result_ok c.in_ok-declared.was) c.declarations.ensures

pub long_enough-requires : goal.long_enough-requires
long_enough-requires g c =
    let shown = MatchOption-at_some _ _ c.in_ok-declared.declared (c.ok_or.ensures.ok_part ∙ ap result_ok c.in_ok-declared.was) c.declarations.ensures in
    (begins_keeps g.K.Lattice.kind g.K.Lattice.order g.met.K.Lattice.lawful c.args.script.now c.in_ok-declared.declared shown c.beginning-core.result c.beginning-core.ensures).small

pub returns-then-not-long_enough : goal.returns-then-not-long_enough
returns-then-not-long_enough g c =
    let shown = MatchOption-at_some _ _ c.in_ok-declared.declared (c.ok_or.ensures.ok_part ∙ ap result_ok c.in_ok-declared.was) c.declarations.ensures in
    made_not g.K.Lattice.kind g.K.Lattice.order g.met.K.Lattice.lawful c.args.script.now c.in_ok-declared.declared shown c.beginning-core.result c.beginning-core.ensures c.args.samples.now c.args.entries.now c.args.marks.now (sym c.if-not-long_enough.ensures)

pub invariant_of-result : goal.invariant_of-result
invariant_of-result g c =
    let shown = MatchOption-at_some _ _ c.in_ok-declared.declared (c.ok_or.ensures.ok_part ∙ ap result_ok c.in_ok-declared.was) c.declarations.ensures in
    let k = begins_keeps g.K.Lattice.kind g.K.Lattice.order g.met.K.Lattice.lawful c.args.script.now c.in_ok-declared.declared shown c.beginning-core.result c.beginning-core.ensures in
    record { small = k.small; tracks = k.tracks; fed = k.fed; channels = k.channels; put = k.put; missed = k.missed; coded = begins_coded g.K.Lattice.kind g.K.Lattice.order g.met.K.Lattice.lawful c.args.script.now c.in_ok-declared.declared shown c.beginning-core.result c.beginning-core.ensures }

pub returns : goal.returns
returns g c =
    let shown = MatchOption-at_some _ _ c.in_ok-declared.declared (c.ok_or.ensures.ok_part ∙ ap result_ok c.in_ok-declared.was) c.declarations.ensures in
    made g.K.Lattice.kind g.K.Lattice.order g.met.K.Lattice.lawful c.args.script.now c.in_ok-declared.declared shown c.beginning-core.result c.beginning-core.ensures c.args.samples.now c.args.entries.now c.args.marks.now c.args.scheduler _ _ _
    (sym c.if-not-long_enough.ensures) (search rules) (search rules) (search rules)
