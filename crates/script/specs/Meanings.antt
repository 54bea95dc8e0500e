-- What each fault means, in plain words.
use Rattle.std.specs.Prelude.{ℕ, List, codes}
use Rattle.script.specs.declared.faults.Layer.{Layer}
use Rattle.script.specs.declared.faults.Layer.TheVariants.{Line, Script, Run}
use Rattle.script.specs.declared.faults.Cause.{Cause}
use Rattle.script.specs.declared.faults.Cause.TheVariants.{Shape, Range, Level, Order, Undeclared, Expression, Limit}
use Rattle.script.specs.declared.faults.LineFault.{LineFault}
use Rattle.script.specs.declared.faults.ScriptFault.{ScriptFault}
use Rattle.script.specs.declared.faults.ScriptFault.TheVariants.{InLine, InFrame}
use Rattle.script.specs.declared.faults.RunFault.{RunFault}
use Rattle.script.specs.declared.faults.RunFault.TheVariants.{InScript, NoState, NoSuch, TrackFull, OutOfTurns}

-- The layer that refused.
abbrev pub layer_name : Layer → List ℕ
layer_name Line = codes "line"
layer_name Script = codes "script"
layer_name Run = codes "run"

-- A line that is no frame.
abbrev pub line_meaning : LineFault → List ℕ
line_meaning f = codes "the line is empty, has an odd number of digits or more than 102, has a byte that is no digit 0-9 or A-F, or does not end in a newline"

-- What a frame is refused for.
abbrev pub cause_meaning : Cause → List ℕ
cause_meaning Shape = codes "the frame's kind is unknown here, or its length is not the kind's"
cause_meaning Range = codes "a field of the header is outside its range, or a capacity exceeds 2,048 samples or 512 entries in all"
cause_meaning Level = codes "a level is not one of the header's kind of levels"
cause_meaning Order = codes "the frame is out of order, a block is unmatched, a count is wrong, or lines are missing or left over"
cause_meaning Undeclared = codes "a variable, track, channel or lock is not declared"
cause_meaning Expression = codes "an expression has an unknown or cut code, finds its stack empty, holds more than 16 numbers, or does not leave one"
cause_meaning Limit = codes "blocks nest more than 16 deep, there are more than 512 frames, or the input has more than 16,384 bytes"

-- Why lines are no script.
abbrev pub script_meaning : ScriptFault → List ℕ
script_meaning (InLine f) = line_meaning f
script_meaning (InFrame c l) = cause_meaning c

-- Why a call did nothing.
abbrev pub run_meaning : RunFault → List ℕ
run_meaning (InScript f) = script_meaning f
run_meaning NoState = codes "the memory lent is too short, or holds no script"
run_meaning NoSuch = codes "there is no such track, channel, thread or entry"
run_meaning TrackFull = codes "the track is full"
run_meaning OutOfTurns = codes "the last turn that a run may have was given"
