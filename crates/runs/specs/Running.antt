-- Turns over the inputs that they read.
use Rattle.std.specs.Prelude.{ℕ, List}
use Rattle.lattice.specs.Levels.{Levels}
use Rattle.codec.specs.Frames.{Frame}
use Rattle.script.specs.Code.{Script}
use Rattle.model.specs.Machine.{State}
use Rattle.scheduler.specs.Turns.{Meaning}
use Rattle.runs.specs.declared.Inputs.{Inputs}
use Rattle.runs.specs.Flat.{Mem}
use Rattle.runs.specs.Turns.{Turned, Advanced}
use Rattle.runs.specs.Views.{Runs, RunningMem}

-- Memory stands for the state s of the script sc, between turns.
abbrev pub RunsOn : Inputs → Mem → Script → (ℕ → List Frame) → State → Type 0
RunsOn i x sc after s = Runs sc after i.table.now i.code.now i.samples.now x s

-- It stands for some state of some script.
abbrev pub RunningOn : Inputs → Mem → Type 0
RunningOn i x = RunningMem i.table.now i.code.now i.samples.now x

-- A turn as the model gives it, to the state and to the scheduler.
abbrev pub TurnedOn : {G : Type 0} → Levels → Meaning G → Inputs → Mem → Mem → G → G → Script → (ℕ → List Frame) → State → Type 0
TurnedOn k schedule i x y g h sc after s = Turned k schedule i.table.now i.code.now i.samples.now x y g h sc after s

-- n turns or fewer: how many, and what then stands.
abbrev pub AdvancedOn : {G : Type 0} → Levels → Meaning G → Inputs → ℕ → ℕ → Mem → G → G → Script → (ℕ → List Frame) → State → Type 0
AdvancedOn k schedule i n r y g h sc after s = Advanced k schedule i.table.now i.code.now i.samples.now n r y g h sc after s
