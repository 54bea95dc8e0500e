use Rattle.std.proofs.Common.{◌≡◌, ◌-◌, ◌*◌, ◌++◌, length, take, drop, replicate}
use mathlib.Core.Option.{map}
use Rattle.codec.specs.Lines.{pairs}
use Rattle.codec.proofs.lines.read_pairs.Given as goal

abbrev pub invariant-loop-i : goal.invariant-loop-i
invariant-loop-i l = record {
  long : length l.bytes ≡ 51;
  bytes : map (λ bs. take l.i l.bytes ++ bs) (pairs (drop (2 * l.i) l.fn.line)) ≡ pairs l.fn.line;
  zeros : drop l.i l.bytes ≡ replicate (51 - l.i) 0;
}
