use Rattle.std.proofs.Common.{◌≡◌, ℕ, ◌<◌, length, Ok, Err, Result, refl, ap, ◌∙◌, subst, rules}
use Rattle.std.specs.Result.{result_ok}
use Rattle.std.proofs.lemmas.Option.{MatchOption-at_none, MatchOption-at_some}
use Rattle.script.specs.declared.faults.RunFault.{RunFault}
use Rattle.script.specs.declared.faults.RunFault.TheVariants.{NoState}
use Rattle.runs.specs.Calls.{Advances}
use Rattle.runs.specs.Memory.{memory}
use Rattle.runs.proofs.Viewing.{Keeps}
use Rattle.runs.proofs.Advanced.{advances_none, advances_out, advances_ran, advances_short, may_run, still_keeps}
use Rattle.runs.proofs.run.Run.advance_with.Goals as goal

pub returns-in_err-work : goal.returns-in_err-work
returns-in_err-work g c =
    let run = c.args.self.now in
    let m = memory run.core c.args.script.now c.args.samples.now c.args.entries.now c.args.marks.now in
    let short : length c.args.work.now < 16 = MatchOption-at_none _ _ (c.ok_or.ensures.ok_part ∙ ap result_ok c.in_err-work.was) c.first_chunk_mut.ensures.cases in
    let fault : ◌≡◌ {A = Result _ RunFault} (Err NoState) c.from_residual.result = search rules in
    subst (Advances g.K.Lattice.kind g.K.Lattice.order g.S.Scheduler.meaning c.args.turns m run.scheduler (length c.args.work.now) m run.scheduler) fault
    (advances_short g.K.Lattice.kind g.K.Lattice.order g.S.Scheduler.meaning c.args.turns m run.scheduler _ short)

pub returns-in_err-steps : goal.returns-in_err-steps
returns-in_err-steps g c =
    let run = c.args.self.now in
    let m = memory run.core c.args.script.now c.args.samples.now c.args.entries.now c.args.marks.now in
    let none = MatchOption-at_none _ _ (c.ok_or-2.ensures.ok_part ∙ ap result_ok c.in_err-steps.was) c.state_in.ensures in
    let fault : ◌≡◌ {A = Result _ RunFault} (Err NoState) c.from_residual-in_err-steps.result = search rules in
    subst (Advances g.K.Lattice.kind g.K.Lattice.order g.S.Scheduler.meaning c.args.turns m run.scheduler (length c.args.work.now) m run.scheduler) fault
    (advances_none g.K.Lattice.kind g.K.Lattice.order g.S.Scheduler.meaning c.args.turns m run.scheduler _ none)

pub returns-then-self-eq-MOST_TURNS : goal.returns-then-self-eq-MOST_TURNS
returns-then-self-eq-MOST_TURNS g c =
    let run = c.args.self.now in
    let m = memory run.core c.args.script.now c.args.samples.now c.args.entries.now c.args.marks.now in
    let enough = (MatchOption-at_some _ _ c.in_ok-work.work (c.ok_or.ensures.ok_part ∙ ap result_ok c.in_ok-work.was) c.first_chunk_mut.ensures.cases).enough in
    let found = MatchOption-at_some _ _ c.in_ok-steps.steps (c.ok_or-2.ensures.ok_part ∙ ap result_ok c.in_ok-steps.was) c.state_in.ensures in
    advances_out g.K.Lattice.kind g.K.Lattice.order g.S.Scheduler.meaning c.args.turns m run.scheduler _ c.in_ok-steps.steps.now found enough c.if-self-eq-MOST_TURNS.true

pub advance-given-requires : goal.advance-given-requires
advance-given-requires g c =
    let run = c.args.self.now in
    let m = memory run.core c.args.script.now c.args.samples.now c.args.entries.now c.args.marks.now in
    let found = MatchOption-at_some _ _ c.in_ok-steps.steps (c.ok_or-2.ensures.ok_part ∙ ap result_ok c.in_ok-steps.was) c.state_in.ensures in
    let keeps : Keeps run.core = record { small = run.small; tracks = run.tracks; fed = run.fed; channels = run.channels; put = run.put; missed = run.missed; whole = (search rules, search rules, search rules, search rules) } in
    record { runs = may_run g.K.Lattice.kind g.K.Lattice.order g.met.K.Lattice.lawful g.S.Scheduler.meaning 0 m m run.scheduler run.scheduler 0 c.in_ok-steps.steps.now found keeps }

pub invariant_of-self : goal.invariant_of-self
invariant_of-self g c =
    let run = c.args.self.now in
    let m = memory run.core c.args.script.now c.args.samples.now c.args.entries.now c.args.marks.now in
    let n = memory c.advance-given.new.self c.args.script.now c.args.samples.now c.advance-given.new.entries c.advance-given.new.marks in
    let found = MatchOption-at_some _ _ c.in_ok-steps.steps (c.ok_or-2.ensures.ok_part ∙ ap result_ok c.in_ok-steps.was) c.state_in.ensures in
    let keeps : Keeps run.core = record { small = run.small; tracks = run.tracks; fed = run.fed; channels = run.channels; put = run.put; missed = run.missed; whole = (search rules, search rules, search rules, search rules) } in
    let still = still_keeps g.K.Lattice.kind g.K.Lattice.order g.met.K.Lattice.lawful g.S.Scheduler.meaning c.from.result m n run.scheduler c.advance-given.new.scheduler c.advance-given.result c.in_ok-steps.steps.now found keeps
    c.advance-given.ensures.runs refl refl c.advance-given.ensures.leaves in
    let k = still.0 in
    record { small = k.small; tracks = k.tracks; fed = k.fed; channels = k.channels; put = k.put; missed = k.missed; coded = still.1 }

pub returns : goal.returns
returns g c =
    let run = c.args.self.now in
    let m = memory run.core c.args.script.now c.args.samples.now c.args.entries.now c.args.marks.now in
    let n = memory c.advance-given.new.self c.args.script.now c.args.samples.now c.advance-given.new.entries c.advance-given.new.marks in
    let enough = (MatchOption-at_some _ _ c.in_ok-work.work (c.ok_or.ensures.ok_part ∙ ap result_ok c.in_ok-work.was) c.first_chunk_mut.ensures.cases).enough in
    let found = MatchOption-at_some _ _ c.in_ok-steps.steps (c.ok_or-2.ensures.ok_part ∙ ap result_ok c.in_ok-steps.was) c.state_in.ensures in
    let keeps : Keeps run.core = record { small = run.small; tracks = run.tracks; fed = run.fed; channels = run.channels; put = run.put; missed = run.missed; whole = (search rules, search rules, search rules, search rules) } in
    subst (λ (t : ℕ). Advances g.K.Lattice.kind g.K.Lattice.order g.S.Scheduler.meaning t m run.scheduler (length c.args.work.now) n c.advance-given.new.scheduler (Ok c.advance-given.result)) c.from.ensures
    (advances_ran g.K.Lattice.kind g.K.Lattice.order g.met.K.Lattice.lawful g.S.Scheduler.meaning c.from.result m n run.scheduler c.advance-given.new.scheduler c.advance-given.result c.in_ok-steps.steps.now found keeps
    c.advance-given.ensures.runs refl refl c.advance-given.ensures.leaves _ enough c.if-self-eq-MOST_TURNS.false)
