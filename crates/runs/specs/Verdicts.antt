-- What the monitor decides of a turn: what it leaves on a channel.
use Rattle.std.specs.Prelude.{ℕ, Bool, true, false, cond, ◌&&◌, ◌==◌, nat_le}
use Rattle.survey.specs.declared.table.Kind.{Kind}
use Rattle.survey.specs.declared.table.Kind.TheVariants.{Other, Begin, End, Skip, Assign, Put, If, Else, EndIf, While, EndWhile, With, EndWith}
use Rattle.runs.specs.declared.verdicts.Verdict.{Verdict}
use Rattle.runs.specs.declared.verdicts.Verdict.TheVariants.{Drop, Mark, Value, Silent, Closing}

-- The number of a kind in the format; 0 for those that no thread stands at.
abbrev pub code_of : Kind → ℕ
code_of Other = 0x00
code_of Begin = 0x20
code_of End = 0x21
code_of Skip = 0x30
code_of Assign = 0x31
code_of Put = 0x32
code_of If = 0x40
code_of Else = 0x41
code_of EndIf = 0x42
code_of While = 0x43
code_of EndWhile = 0x44
code_of With = 0x45
code_of EndWith = 0x46

-- What each verdict leaves on a channel: whether anything, and whether that is a mark in the value's place.
pub record Left : Type 0 where
  pub one : Bool
  pub mark : Bool

-- By its cases: nothing, a mark, or the value.
abbrev pub left_by : Verdict → Left
left_by Drop = record { one = false; mark = true }
left_by Mark = record { one = true; mark = true }
left_by Value = record { one = true; mark = false }
left_by Silent = record { one = false; mark = true }
left_by Closing = record { one = false; mark = true }

-- A put: dropped where the context may not flow to the channel, a mark where the expression may not, else the value.
abbrev pub putting : Bool → Bool → Verdict
putting false level = Drop
putting true false = Mark
putting true true = Value

-- A number from one to another.
abbrev pub from_to : ℕ → ℕ → ℕ → Bool
from_to low high n = nat_le low n && nat_le n high

-- The decision at a frame of this kind: a put's, or that of a command that puts nothing, or of the end of a block or thread.
abbrev pub decided : ℕ → Bool → Bool → Verdict
decided kind context level =
    cond (kind == 0x32) (putting context level)
    (cond (from_to 0x30 0x31 kind) Silent
    (cond (kind == 0x40) Silent
    (cond (kind == 0x43) Silent
    (cond (kind == 0x45) Silent Closing))))
