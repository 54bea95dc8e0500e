use Rattle.std.proofs.Common.{◌≡◌, ℕ, length}
use Rattle.lattice.specs.Levels.{Levels}
use Rattle.script.specs.Code.{Script}
use Rattle.runs.specs.Declaring.{InSlab}
use Rattle.runs.specs.Starting.{BeginsAt, PlacesAt}
use Rattle.runs.proofs.starting.places.Given as goal

abbrev pub invariant-loop-place : goal.invariant-loop-place
invariant-loop-place l =
    (length l.threads ≡ l.n) × PlacesAt l.script l.first l.place-index l.threads
    × ((kind : ℕ) (k : Levels) (sc : Script) → InSlab kind k l.script sc → BeginsAt sc 0 l.first → BeginsAt sc l.place-index l.at)
