-- Schedulers: who gets the next turn.
use Rattle.std.specs.Prelude.{◌≡◌, ℕ, Bool, false, T, List, Some, None, Option, slice_index_or}
use Rattle.std.proofs.Math.Option.{Option as Perhaps, none, some}

-- A scheduler by its meaning: from its state and the set of ready threads alone, a thread or a rest, and its next state.
abbrev pub Meaning : Type 0 → Type 0
Meaning S = S → List Bool → Perhaps ℕ × S

-- Where no thread is ready it rests.
abbrev pub Rests : {S : Type 0} → Meaning S → Type 0
Rests {S} schedule = (g : S) (rs : List Bool) → ((i : ℕ) → slice_index_or rs i false ≡ false) → (schedule g rs).0 ≡ none

-- The laws of schedulers: the thread that one answers is ready, and where none is it rests.
pub record Obedient {S : Type 0} (schedule : Meaning S) : Type 0 where
  pub picks_ready : (g : S) (rs : List Bool) (i : ℕ) → (schedule g rs).0 ≡ some i → T (slice_index_or rs i false)
  pub rests : Rests schedule

-- What an answer stands for: a thread's number, or a rest.
abbrev pub answered : Option ℕ → Perhaps ℕ
answered None = none
answered (Some i) = some i
