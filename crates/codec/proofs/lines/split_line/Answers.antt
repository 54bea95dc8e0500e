use Rattle.std.proofs.Common.{rules}
use Rattle.codec.proofs.LineSteps.{line_found}
use Rattle.codec.proofs.lines.split_line.Goals as goal

pub returns : goal.returns
returns c = line_found c.args.text.now c.in_ok-end.end (search rules) (search rules) (λ k h. search rules)
