use Rattle.std.proofs.Common.{◌≡◌, ◌++◌, take, vec_items}
use Rattle.codec.specs.Lines.{digits}
use Rattle.protocol.proofs.replies.put_line.Given as goal

abbrev pub invariant-loop-byte : goal.invariant-loop-byte
invariant-loop-byte l = vec_items l.out ≡ vec_items l.initial.out ++ digits (take l.byte-index l.bytes)
