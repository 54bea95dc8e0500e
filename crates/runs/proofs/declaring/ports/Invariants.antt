use Rattle.std.proofs.Common.{◌≡◌, ◌*◌, ◌≤◌, length}
use Rattle.runs.specs.Kept.{room}
use Rattle.runs.specs.Declaring.{PortsAt}
use Rattle.runs.proofs.declaring.ports.Given as goal

abbrev pub invariant-loop-h : goal.invariant-loop-h
invariant-loop-h l = (l.start ≡ room l.declared l.h) × (l.start ≤ 65535 * l.h) × (length l.declared ≡ l.n) × PortsAt l.script l.first l.h l.declared
