use Rattle.std.proofs.Common.{[], ◌∷◌, ap, ◌∙◌}
use mathlib.Core.Option.{some}
use Rattle.codec.specs.Slots.{front}
use Rattle.script.specs.Format.{first_kind, or_fault_2}
use Rattle.script.proofs.Naming.{named_line}
use Rattle.script.proofs.reading.kind_named.Goals as goal

pub returns : goal.returns
returns c =
    named_line c.args.lines.now c.in_ok-line.line.now c.in_ok-line.field-0-1.now (some (front c.in_ok-slot.slot)) c.header_kind.result c.in_ok-line.ensures c.in_ok-slot.ensures.bytes
    (c.header_kind.ensures ∙ ap (λ o. first_kind (or_fault_2 o ∷ [])) c.in_ok-read_frame.ensures)
