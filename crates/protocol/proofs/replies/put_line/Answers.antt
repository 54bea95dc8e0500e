use Rattle.std.proofs.Common.{[], ◌∷◌, vec_items, append_assoc}
use Rattle.std.proofs.Common.{take}
use Rattle.codec.specs.Lines.{digits}
use Rattle.protocol.proofs.Writing.{digits_at}
use Rattle.protocol.proofs.replies.put_line.Goals as goal

pub loop-byte-preserved : goal.loop-byte-preserved
loop-byte-preserved c =
    let i = c.loop-byte.byte-index in
    let more = digits_at c.args.bytes.now i c.loop-byte-test.true in
    let both = append_assoc (vec_items c.loop-byte.out) (c.digits_of-high.result.0 ∷ []) (c.digits_of-high.result.1 ∷ []) in
    let far = append_assoc (vec_items c.args.out.now) (digits (take i c.args.bytes.now)) (c.digits_of-high.result.0 ∷ c.digits_of-high.result.1 ∷ []) in
    cc (c.in_ok-push.ensures.items, c.in_ok-push-2.ensures.items, both, c.loop-byte.invariant, c.digits_of-high.ensures.high, c.digits_of-high.ensures.low)
