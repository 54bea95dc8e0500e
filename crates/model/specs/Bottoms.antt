-- How many ⊥ a word has is never read: the published semantics leaves those of a while's turns until the while ends, and here each is taken off at its turn's end.
use Rattle.std.specs.Prelude.{◌≡◌, Bool, true, false, List, [], ◌∷◌}
use Rattle.std.proofs.Math.Option.{Option, none, some}
use Rattle.script.specs.Code.{Code}
use Rattle.model.specs.Automaton.{Q, Input, Output, all_bottom, with_w, react}
use Rattle.model.specs.Automaton.Input.{at_branch, at_merge, at_sync, at_skip, at_assign, at_output}
use Rattle.model.specs.Automaton.Output.{ok}

-- Whether an input is a merge.
abbrev pub is_merge : Input → Bool
is_merge (at_branch m e pe pu) = false
is_merge (at_merge pe pu) = true
is_merge (at_sync m e) = false
is_merge at_skip = false
is_merge (at_assign x e) = false
is_merge (at_output e) = false

-- An answer and the next state but for its word.
abbrev pub wordless : Option (Output × Q) → Option (Output × Q)
wordless none = none
wordless (some r) = some (r.0, with_w r.1 [])

-- No answer depends on how many ⊥ a word has.
pub record BottomsAreNotRead : Type 0 where
  -- Any other input than a merge is answered by whether the word has a ⊤.
  pub others : (q : Q) (u : List Bool) (x : Input) → is_merge x ≡ false → all_bottom q.w ≡ all_bottom u → wordless (react q x) ≡ wordless (react (with_w q u) x)
  -- A merge takes a last ⊥ off, whatever was merged, and does no more.
  pub merges : (q : Q) (u : List Bool) (pe pu : Code) → react (with_w q (false ∷ u)) (at_merge pe pu) ≡ some (ok, with_w q u)
