use Rattle.protocol.proofs.Reading.{within_limit}
use Rattle.report.proofs.input.read_input.Goals as goal

pub returns : goal.returns
returns g c =
    within_limit g.R.Read.remaining c.args.source c.take.result.inner 16385 c.take.result.limit c.new-input.result.items c.read_to_end.new.buf.items c.take.ensures.inner c.take.ensures.limit c.new-input.ensures.items c.in_ok-read_to_end.ensures.bytes
