use Rattle.std.proofs.Common.{◌≡◌, ◌*◌, eqb, length, drop, sym, ap, ◌∙◌, inl, inr, arith, length-drop, length-set}
use Rattle.codec.specs.Slots.{front, perhaps}
use Rattle.codec.proofs.LineSteps.{pair_at, digits_again, digits_none, digits_over, zeros_again}
use Rattle.codec.proofs.lines.read_pairs.Goals as goal

pub returns-in_err-digit_worth-clause-bytes : goal.returns-in_err-digit_worth-clause-bytes
returns-in_err-digit_worth-clause-bytes c =
    let pair = pair_at _ c.args.line.now c.loop-i.i c.as_chunks.ensures.front c.as_chunks.ensures.front_len c.loop-i-test.true in
    ap (perhaps front) c.from_residual.ensures
    ∙ digits_none c.loop-i.bytes _ c.loop-i.i _ pair.two (inl (omega (arith, c.in_err-digit_worth.ensures.table))) c.loop-i.invariant.bytes

pub returns-in_err-bytes-clause-bytes : goal.returns-in_err-bytes-clause-bytes
returns-in_err-bytes-clause-bytes c =
    let pair = pair_at _ c.args.line.now c.loop-i.i c.as_chunks.ensures.front c.as_chunks.ensures.front_len c.loop-i-test.true in
    ap (perhaps front) c.from_residual-in_err-bytes.ensures
    ∙ digits_none c.loop-i.bytes _ c.loop-i.i _ pair.two (inr (omega (arith, c.in_err-bytes.ensures.table))) c.loop-i.invariant.bytes

pub loop-i-preserved : goal.loop-i-preserved
loop-i-preserved c =
    let pair = pair_at _ c.args.line.now c.loop-i.i c.as_chunks.ensures.front c.as_chunks.ensures.front_len c.loop-i-test.true in
    record {
      long = simp length-set c.loop-i.invariant.long;
      bytes = digits_again c.loop-i.bytes c.args.line.now c.loop-i.i _ _ _ (omega (arith, c.as_chunks.ensures.front_len)) pair.two
          (c.in_ok-digit_worth.ensures.table ∙ pair.high) (c.in_ok-bytes.ensures.table ∙ pair.low) c.in_ok-digit_worth.ensures.digit c.in_ok-bytes.ensures.digit c.loop-i.invariant.bytes;
      zeros = zeros_again c.loop-i.bytes c.loop-i.i _ c.loop-i.invariant.zeros;
    }

pub returns-clause-bytes : goal.returns-clause-bytes
returns-clause-bytes c =
    let all : c.loop-i.i ≡ length c.as_chunks.result.0.now = omega arith in
    let left : length (drop (2 * c.loop-i.i) c.args.line.now) ≡ length c.as_chunks.result.1.now = simp length-drop (omega (arith, c.as_chunks.ensures.front_len, c.as_chunks.ensures.back_len)) in
    ap (perhaps front) c.then_some.ensures
    ∙ digits_over c.loop-i.bytes (drop (2 * c.loop-i.i) c.args.line.now) c.loop-i.i _ _ _ all (omega (arith, c.as_chunks.ensures.back_len)) (c.is_empty.ensures ∙ ap (λ n. eqb n 0) (sym left)) c.loop-i.invariant.bytes
