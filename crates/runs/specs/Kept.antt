-- What every run keeps, from when it is made on: where the parts of its tracks and channels lie, and how much they hold.
use Rattle.std.specs.Prelude.{◌≡◌, ℕ, zero, suc, ◌+◌, ◌<◌, ◌≤◌, ◌⊎◌, true, List, slice_index_or}
use Rattle.lattice.specs.Levels.{Levels}
use Rattle.script.specs.declared.faults.RunFault.{RunFault}
use Rattle.script.specs.declared.faults.RunFault.TheVariants.{NoState, NoSuch}
use Rattle.runs.specs.declared.Port.{Port}
use Rattle.runs.specs.declared.Core.{Core}
use Rattle.runs.specs.Flat.{nil_cell, nil_port}

-- How many samples or entries the first n tracks or channels hold together.
unfoldable pub room : List Port → ℕ → ℕ
room ps zero = 0
room ps (suc n) = room ps n + (slice_index_or ps n nil_port).size

-- The samples that a run's tracks may hold.
abbrev pub samples_needed : Core → ℕ
samples_needed c = room c.tracks c.head.tracks

-- The entries that a run's channels may hold.
abbrev pub entries_needed : Core → ℕ
entries_needed c = room c.channels c.head.channels

-- The part of each lies behind the parts of those before it.
abbrev pub Laid : List Port → ℕ → Type 0
Laid ps n = (h : ℕ) → h < n → (slice_index_or ps h nil_port).start ≡ room ps h

-- None holds more than its part.
abbrev pub Held : List Port → ℕ → Type 0
Held ps n = (h : ℕ) → h < n → (slice_index_or ps h nil_port).count ≤ (slice_index_or ps h nil_port).size

-- Track or channel h, of n whose parts lie in a slab of so many slots.
pub record PortIn (ps : List Port) (n slots h : ℕ) (p : Port) : Type 0 where
  pub enough : room ps n ≤ slots
  pub below : h < n
  pub is : p ≡ slice_index_or ps h nil_port

-- Why there is none: NoState where the slab is too short for their parts, else NoSuch.
abbrev pub NoPort : List Port → ℕ → ℕ → ℕ → RunFault → Type 0
NoPort ps n slots h e = ((slots < room ps n) × (e ≡ NoState)) ⊎ ((room ps n ≤ slots) × (n ≤ h) × (e ≡ NoSuch))

-- The level of every variable that the script declares is a code of the kind.
abbrev pub CodedLevels : Levels → Core → Type 0
CodedLevels k c = (x : ℕ) → x < c.head.variables → k.has (slice_index_or c.cells x nil_cell).level ≡ true

-- The bounds of what tracks and channels hold together, and of turns.
abbrev pub Small : Core → Type 0
Small c = (samples_needed c ≤ 2048) × (entries_needed c ≤ 512) × (c.turns ≤ 1000000)

-- A channel has missed at most one entry a turn.
abbrev pub Missed : Core → Type 0
Missed c = (h : ℕ) → h < c.head.channels → (slice_index_or c.channels h nil_port).missed ≤ c.turns
