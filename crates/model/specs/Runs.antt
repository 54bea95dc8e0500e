-- Under two levels, the states that calls on a run lead to are those that turns of ready threads, rests and feeds lead to.
use Rattle.std.specs.Prelude.{List}
use Rattle.lattice.specs.Orders.{two_point}
use Rattle.script.specs.Code.{Script}
use Rattle.scheduler.specs.Turns.{Meaning}
use Rattle.model.specs.Calls.{Call, begin, after}
use Rattle.model.specs.Follows.{Reached}

-- Whatever calls are made, with this scheduler, the run is in such a state.
abbrev pub CallsReach : {S : Type 0} → Meaning S → Type 0
CallsReach {S} schedule = (sc : Script) (cs : List Call) (g : S) → Reached sc (after two_point sc schedule cs (begin sc) g).0
