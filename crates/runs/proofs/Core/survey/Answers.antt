use Rattle.std.proofs.Common.{◌<◌, ◌&&◌, length, sym, ap, ◌∙◌, arith, length-set, length-take-le}
use Rattle.model.specs.Machine.{status_is_ready, status_is_finished}
use Rattle.runs.proofs.Advancing.{answers_more, all_none, all_more}
use Rattle.runs.proofs.Core.survey.Goals as goal

pub loop-i-init : goal.loop-i-init
loop-i-init g c = (λ j lt. absurd (omega arith), length-take-le c.args.self.now.head.threads _ c.args.self.now.few.0, sym (all_none _))

pub loop-i-preserved : goal.loop-i-preserved
loop-i-preserved g c =
    let long = c.loop-i.invariant.1 in
    let lt : c.loop-i.i < length c.loop-i.threads = omega arith in (
      answers_more _ c.loop-i.threads c.loop-i.i c.is_ready.result lt c.loop-i.invariant.0 (c.is_ready.ensures ∙ ap status_is_ready c.status-status.ensures),
      length-set c.loop-i.threads c.loop-i.i c.is_ready.result ∙ long,
      (λ j. c.loop-i.invariant.2 j && (c.is_finished-over.ensures ∙ ap status_is_finished c.status-status.ensures) j) ∙ sym (all_more _ c.loop-i.i),
    )
