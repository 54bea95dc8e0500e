-- A header's bounds have one proof, so that a run is the same whichever proof it has of them.
use Rattle.std.proofs.Common.{◌≡◌}
use Rattle.std.proofs.Math.Bridge.{le_prop}
use Rattle.codec.specs.declared.frames.Head.{Head}
use Rattle.runs.specs.declared.Core.{Core}
use Rattle.runs.specs.Headers.{Few}

few_one : (h : Head) (f g : Few h) → f ≡ g
few_one h f g = λ i. (le_prop f.0 g.0 i, le_prop f.1 g.1 i, le_prop f.2 g.2 i, le_prop f.3 g.3 i)

abbrev pub with_few : (c : Core) → Few c.head → Core
with_few c f = record { head = c.head; cells = c.cells; threads = c.threads; tracks = c.tracks; channels = c.channels; turns = c.turns; few = f }

pub same_run : (c : Core) (f : Few c.head) → with_few c f ≡ c
same_run c f = λ i. record { head = c.head; cells = c.cells; threads = c.threads; tracks = c.tracks; channels = c.channels; turns = c.turns; few = few_one c.head f c.few i }
