-- Open blocks of a thread, as a stack of marks.
use Rattle.std.specs.Prelude.{ℕ, ◌+◌, ◌<◌, ◌≤◌, List, length, get_or}
use Rattle.survey.specs.declared.table.Step.{Step}
use Rattle.runs.specs.declared.Mark.{Mark}
use Rattle.runs.specs.declared.stack.Stack.{Stack}
use Rattle.runs.specs.Flat.{nil_mark}

-- Their marks lie in the slab, and the steps that opened them in the table.
pub record Lie (table : List Step) (ms : List Mark) (s : Stack) : Type 0 where
  pub room : s.base + s.held ≤ length ms
  pub openers : (d : ℕ) → d < s.held → (get_or ms (s.base + d) nil_mark).opener < length table
