-- What each refusal tells: its number, its line where it has one, and the layer that refused.
use Rattle.std.specs.Prelude.{ℕ, cond, Some, None, ◌==◌}
use Rattle.script.specs.declared.faults.Refusal.{Refusal}
use Rattle.script.specs.declared.faults.Layer.TheVariants.{Line, Script, Run}
use Rattle.script.specs.declared.faults.LineFault.{LineFault}
use Rattle.script.specs.declared.faults.Cause.{Cause}
use Rattle.script.specs.declared.faults.Cause.TheVariants.{Shape, Range, Level, Order, Undeclared, Expression, Limit}
use Rattle.script.specs.declared.faults.ScriptFault.{ScriptFault}
use Rattle.script.specs.declared.faults.ScriptFault.TheVariants.{InLine, InFrame}
use Rattle.script.specs.declared.faults.RunFault.{RunFault}
use Rattle.script.specs.declared.faults.RunFault.TheVariants.{InScript, NoState, NoSuch, TrackFull, OutOfTurns}

-- The number of what a frame is refused for.
abbrev pub cause_number : Cause → ℕ
cause_number Shape = 2
cause_number Range = 3
cause_number Level = 4
cause_number Order = 5
cause_number Undeclared = 6
cause_number Expression = 7
cause_number Limit = 8

-- A line's fault is 1.
abbrev pub line_refusal : LineFault → Refusal
line_refusal f = record { number = 1; line = Some f.line; layer = Line }

-- A script's fault is a line's, as the line tells it, or a frame's.
abbrev pub script_refusal : ScriptFault → Refusal
script_refusal (InLine f) = line_refusal f
script_refusal (InFrame c l) = record { number = cause_number c; line = Some l; layer = Script }

-- The refusal of a call, at no line.
abbrev pub at_run : ℕ → Refusal
at_run n = record { number = n; line = None; layer = Run }

-- A run's fault is a script's, as the script tells it, or a call's.
abbrev pub run_refusal : RunFault → Refusal
run_refusal (InScript f) = script_refusal f
run_refusal NoState = record { number = 9; line = None; layer = Run }
run_refusal NoSuch = at_run 10
run_refusal TrackFull = at_run 11
run_refusal OutOfTurns = at_run 12

-- The refusal of a script with number n at line l: the layer is the line's for 1, else the script's.
abbrev pub refusal : ℕ → ℕ → Refusal
refusal n l = record { number = n; line = Some l; layer = cond (n == 1) Line Script }
