-- The publication's example of a run of the automaton: its inputs, answers and new states, as the automaton of this crate gives them.
use Rattle.std.specs.Prelude.{◌≡◌, ℕ, Bool, true, false, List, [], ◌∷◌, pos}
use Rattle.std.proofs.Math.Option.{Option, none, some}
use Rattle.codec.specs.Expressions.{Expr}
use Rattle.script.specs.Code.{Code}
use Rattle.codec.specs.Expressions.Binary.{sum}
use Rattle.codec.specs.Expressions.Op.{constant, variable, sample, binary}
use Rattle.script.specs.Code.Code.{done, assign, put, lock}
use Rattle.model.specs.Automaton.{Q, Pool, Input, Output, react, extract, update}
use Rattle.model.specs.Automaton.Input.{at_branch, at_merge, at_sync, at_assign, at_output}
use Rattle.model.specs.Automaton.Output.{ok, no, default}

-- Variables v, b and x are 0, 1 and 2; the private input h is a sample of track 0; the lock of v is bit 0.
abbrev pub h : Expr
h = constant (pos 0) ∷ sample 0 ∷ []

-- v + 1.
abbrev pub v_and_one : Expr
v_and_one = variable 0 ∷ constant (pos 1) ∷ binary sum ∷ []

-- The ways of the first thread's conditional.
abbrev pub p_true : Code
p_true = assign 2 (constant (pos 1) ∷ []) (put 0 (constant (pos 97) ∷ []) done)

-- The way of the first thread that takes the lock of v.
abbrev pub p_false : Code
p_false = lock 1 (constant (pos 1) ∷ []) (assign 0 v_and_one done) done

-- The start state: the private input is secret, and nothing else.
abbrev pub beginning : Pool
beginning = record { V = λ x. false; secret = λ t. true; W = λ x. 0; L = 0; w = λ i. [] }

-- What a row shows: the answer, V and W at v, b and x, L, and the words of the two threads.
abbrev pub Row : Type 0
Row = Output × List Bool × List ℕ × ℕ × List Bool × List Bool

-- The row of an answer and a state.
abbrev pub row : Output → Pool → Row
row o p = (o, p.V 0 ∷ p.V 1 ∷ p.V 2 ∷ [], p.W 0 ∷ p.W 1 ∷ p.W 2 ∷ [], p.L, p.w 1, p.w 2)

-- The rows from an answer on.
abbrev pub follow : Pool → ℕ → Option (Output × Q) → (Pool → List Row) → List Row
follow p i none k = []
follow p i (some r) k = row r.0 (update p i r.1) ∷ k (update p i r.1)

-- The rows of a list of inputs, each with its thread.
abbrev pub rows : Pool → List (ℕ × Input) → List Row
rows p [] = []
rows p (x ∷ xs) = follow p x.0 (react (extract p x.0) x.1) (λ r. rows r xs)

-- The inputs of the example, each with its thread.
abbrev pub inputs : List (ℕ × Input)
inputs =
    (2, at_sync 1 (variable 1 ∷ []))
    ∷ (2, at_assign 0 v_and_one)
    ∷ (1, at_branch 0 h p_true p_false)
    ∷ (2, at_output (variable 2 ∷ []))
    ∷ (1, at_assign 2 (constant (pos 1) ∷ []))
    ∷ (1, at_output (constant (pos 97) ∷ []))
    ∷ (1, at_merge p_true p_false)
    ∷ (1, at_assign 2 (constant (pos 0) ∷ []))
    ∷ (2, at_output (variable 2 ∷ [])) ∷ []

-- The table.
abbrev pub shown : List Row
shown =
    (ok, false ∷ false ∷ false ∷ [], 0 ∷ 0 ∷ 0 ∷ [], 0, [], [])
    ∷ (ok, false ∷ false ∷ false ∷ [], 0 ∷ 0 ∷ 0 ∷ [], 0, [], [])
    ∷ (ok, true ∷ false ∷ true ∷ [], 1 ∷ 0 ∷ 1 ∷ [], 1, true ∷ [], [])
    ∷ (default, true ∷ false ∷ true ∷ [], 1 ∷ 0 ∷ 1 ∷ [], 1, true ∷ [], [])
    ∷ (ok, true ∷ false ∷ true ∷ [], 1 ∷ 0 ∷ 1 ∷ [], 1, true ∷ [], [])
    ∷ (no, true ∷ false ∷ true ∷ [], 1 ∷ 0 ∷ 1 ∷ [], 1, true ∷ [], [])
    ∷ (ok, true ∷ false ∷ true ∷ [], 0 ∷ 0 ∷ 0 ∷ [], 0, [], [])
    ∷ (ok, true ∷ false ∷ false ∷ [], 0 ∷ 0 ∷ 0 ∷ [], 0, [], [])
    ∷ (ok, true ∷ false ∷ false ∷ [], 0 ∷ 0 ∷ 0 ∷ [], 0, [], []) ∷ []

-- And while the second thread owns the lock of v, the first is held back.
pub record AsShown : Type 0 where
  pub table : rows beginning inputs ≡ shown
  pub held_back : react (extract beginning 1) (at_branch 1 h p_true p_false) ≡ none
