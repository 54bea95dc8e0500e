use Rattle.std.proofs.Common.{◌+◌, ◌%◌, false, get_or, rules, refl, sym, ap, ◌∙◌, arith}
use borrow.Author.Tests.{tests}
use Rattle.std.proofs.lemmas.Iterator.{YieldsList-from_range, YieldsList-from_map}
use Rattle.std.proofs.lemmas.Iterator.Adapters.{option_map_id}
use Rattle.std.proofs.lemmas.Iterator.Search.{find_from_yields_List}
use Rattle.scheduler.specs.Turns.{answered}
use Rattle.scheduler.proofs.Scans.{first_found}
use Rattle.scheduler.proofs.first_ready.Goals as goal

pub returns : goal.returns
returns c =
    ap answered
    (sym (option_map_id c.find.result)
    ∙ find_from_yields_List (λ t. get_or c.args.ready.now t false) _ _ c.find.result c.find.ensures.ran
    (YieldsList-from_map _ (λ n. (c.args.thread + n) % 8) (YieldsList-from_range 1 9 8 (search rules) refl) c.map.ensures.closure (λ x r q k. search (rules, tests)))
    (λ x b q k. search (rules, tests)))
    ∙ first_found c.args.ready.now 8 1 c.args.thread c.args.thread (omega arith)
