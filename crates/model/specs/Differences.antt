-- Where the machine bars what the automaton would let through to its end: closed ifs that take no fixed time and yet do not stop.
use Rattle.std.specs.Prelude.{◌≡◌, Bool, true, false, [], ◌∷◌, pos}
use Rattle.script.specs.Code.{Code, Script}
use Rattle.codec.specs.Expressions.Op.{constant, variable}
use Rattle.script.specs.Code.Code.{done, branch, loop, lock}
use Rattle.model.specs.Machine.{status}
use Rattle.model.specs.Machine.Status.{barred}
use Rattle.model.specs.Calls.{begin}
use Rattle.model.specs.Automaton.Input.{at_branch, at_merge}
use Rattle.lattice.specs.Orders.{two_point}
use Rattle.model.specs.Follows.{first}
use Rattle.model.specs.Together.{hears, is_some}
use Rattle.model.specs.Small.{small, secret, one}

-- The script of one thread.
abbrev pub alone : Code → Script
alone c = small (c ∷ [])

-- A closed if of which one way is c and the other empty: the machine bars it; the automaton lets the empty way on, and to its end or not.
pub record Treated (c : Code) (at-its-end : Bool) : Type 0 where
  pub here : status two_point (alone (branch secret c done done)) (begin (alone (branch secret c done done))) 0 ≡ barred
  pub begins : is_some (hears (first (alone (branch secret c done done))) 0 (at_branch 0 secret done c ∷ [])) ≡ true
  pub ends : is_some (hears (first (alone (branch secret c done done))) 0 (at_branch 0 secret done c ∷ at_merge done c ∷ [])) ≡ at-its-end

-- A while on literal nought.
abbrev pub while_nought : Code
while_nought = loop (constant (pos 0) ∷ []) done done

-- A while on a variable.
abbrev pub while_x : Code
while_x = loop (variable 0 ∷ []) done done

-- A with of literal one around a while.
abbrev pub with_one : Code
with_one = lock 1 one while_x done

-- A with on a variable.
abbrev pub with_x : Code
with_x = lock 1 (variable 0 ∷ []) done done

-- The departure as it is listed: the automaton stops at the end what the machine bars at the start.
-- And two that it does not list, which the automaton never stops: a loop whose condition is literal nought, and whatever takes no fixed time inside a with of literal one.
pub record Differs : Type 0 where
  pub loops : Treated while_x false
  pub waits : Treated with_x false
  pub nought : Treated while_nought true
  pub inside : Treated with_one true
