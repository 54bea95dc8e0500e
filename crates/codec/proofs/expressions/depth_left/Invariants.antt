use Rattle.std.proofs.Common.{◌≡◌, length}
use Rattle.codec.specs.Expressions.{decode}
use Rattle.codec.specs.Sound.{sound}
use Rattle.codec.proofs.expressions.depth_left.Given as goal

abbrev pub invariant-loop-rest : goal.invariant-loop-rest
invariant-loop-rest l = sound l.depth (decode 0 l.rest) ≡ sound 0 (decode 0 l.code)

abbrev pub decreases-loop-rest : goal.decreases-loop-rest
decreases-loop-rest l = length l.rest
