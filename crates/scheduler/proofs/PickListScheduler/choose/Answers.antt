use Rattle.std.proofs.Common.{ℕ, List, sym, ap, ◌∙◌}
use Rattle.scheduler.specs.Turns.{answered}
use Rattle.scheduler.specs.Schedulers.{pick_list, place_after}
use Rattle.scheduler.proofs.Picks.{none_left, one_left}
use Rattle.scheduler.proofs.PickListScheduler.choose.Goals as goal

pub returns-in_err-pick : goal.returns-in_err-pick
returns-in_err-pick c =
    let s = c.args.self.now in
    let e = sym (none_left s.picks.now c.min.result s.at c.min.ensures c.in_err-pick.ensures.lookup.3) in
    record {
      answer = ap answered c.from_residual.ensures ∙ ap (λ (l : List ℕ). (pick_list l c.args.ready.now).0) e;
      next = ap (λ (l : List ℕ). record { picks = s.picks; at = place_after l s.at }) e;
    }

pub returns : goal.returns
returns c =
    let s = c.args.self.now in
    let e = sym (one_left s.picks.now c.min.result s.at _ c.min.ensures c.in_ok-pick.ensures.lookup.3.0 (c.in_ok-pick.ensures.lookup.3.1 0)) in
    record {
      answer = c.ready_pick.ensures ∙ ap (λ (l : List ℕ). (pick_list l c.args.ready.now).0) e;
      next = ap (λ (l : List ℕ). record { picks = s.picks; at = place_after l s.at }) e;
    }
