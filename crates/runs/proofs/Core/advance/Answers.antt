use Rattle.std.proofs.Common.{◌≡◌, ℕ, subst, arith}
use Rattle.runs.specs.Flat.{mem}
use Rattle.runs.proofs.Advancing.{Gone, all_fit, below_limit, gone_none, gone_more, gone_all, gone_stop}
use Rattle.runs.proofs.Leaving.{leaves_none, leaves_on}
use Rattle.runs.proofs.Core.advance.Goals as goal

pub loop-given-init : goal.loop-given-init
loop-given-init g c = record {
  leaves = leaves_none _;
  runs = λ sc after s runs. gone_none g.K.Lattice.order g.S.Scheduler.meaning c.args.inputs.table.now c.args.inputs.code.now c.args.inputs.samples.now c.args.n _ c.args.scheduler.now sc after s runs;
}

pub survey-survey-requires : goal.survey-survey-requires
survey-survey-requires g c =
    let r = c.requires.runs in
    let gone = c.loop-given.invariant.runs r.0 r.1 r.2 r.3 in
    record {
      fit = all_fit g.K.Lattice.order c.args.inputs.table.now c.args.inputs.code.now c.args.inputs.samples.now c.loop-given.self c.loop-given.marks c.loop-given.entries (r.0, r.1, gone.state, gone.runs);
      tracks = gone.runs.fed;
    }

pub returns-then-stops : goal.returns-then-stops
returns-then-stops g c = record {
  leaves = c.loop-given.invariant.leaves;
  few = omega (arith, c.loop-given-test.true);
  runs = λ sc after s runs.
      gone_stop g.K.Lattice.order g.S.Scheduler.meaning c.args.inputs.table.now c.args.inputs.code.now c.args.inputs.samples.now c.args.n c.loop-given.given c.loop-given.self c.loop-given.marks c.loop-given.entries c.args.scheduler.now c.loop-given.scheduler
      c.survey-survey.result.over sc after s c.loop-given-test.true c.survey-survey.ensures.over c.if-stops.ensures (c.loop-given.invariant.runs sc after s runs);
}

pub turn-requires : goal.turn-requires
turn-requires g c =
    let r = c.requires.runs in
    let gone = c.loop-given.invariant.runs r.0 r.1 r.2 r.3 in
    record {
      runs = (r.0, r.1, gone.state, gone.runs);
      ready = c.survey-survey.ensures.ready;
      turns = below_limit g.K.Lattice.order c.args.inputs.table.now c.args.inputs.code.now c.args.inputs.samples.now c.loop-given.self c.loop-given.marks c.loop-given.entries c.survey-survey.result.over (r.0, r.1, gone.state, gone.runs) c.if-stops.ensures;
    }

pub loop-given-preserved : goal.loop-given-preserved
loop-given-preserved g c = record {
  leaves = leaves_on _ _ _ c.loop-given.invariant.leaves c.turn.ensures.leaves;
  runs = λ sc after s runs.
      gone_more g.K.Lattice.order g.S.Scheduler.meaning c.args.inputs.table.now c.args.inputs.code.now c.args.inputs.samples.now c.args.n c.loop-given.given c.loop-given.self c.loop-given.marks c.loop-given.entries _ c.args.scheduler.now c.loop-given.scheduler _
      c.survey-survey.result.over sc after s c.loop-given-test.true c.survey-survey.ensures.over c.if-stops.ensures c.turn.ensures.runs (c.loop-given.invariant.runs sc after s runs);
}

pub returns : goal.returns
returns g c =
    let done : c.loop-given.given ≡ c.args.n = omega (arith, c.loop-given-test.false) in
    record {
      leaves = c.loop-given.invariant.leaves;
      few = omega arith;
      runs = λ sc after s runs.
          gone_all g.K.Lattice.order g.S.Scheduler.meaning c.args.inputs.table.now c.args.inputs.code.now c.args.inputs.samples.now c.args.n _ c.args.scheduler.now c.loop-given.scheduler sc after s
          (subst (λ (i : ℕ). Gone g.K.Lattice.order g.S.Scheduler.meaning c.args.inputs.table.now c.args.inputs.code.now c.args.inputs.samples.now c.args.n i (mem c.loop-given.self c.loop-given.marks c.loop-given.entries) c.args.scheduler.now c.loop-given.scheduler sc after s) done (c.loop-given.invariant.runs sc after s runs));
    }
