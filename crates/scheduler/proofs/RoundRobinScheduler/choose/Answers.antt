use Rattle.std.proofs.Common.{ℕ, ap, ◌∙◌}
use Rattle.scheduler.specs.Schedulers.{chosen_or}
use Rattle.scheduler.proofs.Scans.{chosen_is}
use Rattle.scheduler.proofs.RoundRobinScheduler.choose.Goals as goal

pub returns-clause-next : goal.returns-clause-next
returns-clause-next c =
    let last = c.args.self.now.last in
    ap (λ (n : ℕ). record { last = n }) (c.unwrap_or-self.ensures ∙ chosen_is last c.first_ready-next.result ∙ ap (chosen_or last) c.first_ready-next.ensures)
