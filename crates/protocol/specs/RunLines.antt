-- Run lines: what the bytes of one say, and what a wrong one is refused with.
use Rattle.std.specs.Prelude.{◌≡◌, ℕ, suc, ◌+◌, ◌*◌, ◌<◌, cond, ◌&&◌, List, [], ◌∷◌, length, drop, ℤ, Some, None, Ok, Err, Option, MatchOption, Result, MatchResult, ◌==◌, nat_le, slice_index}
use Rattle.std.proofs.Math.Option.{Option as Perhaps, none, some}
use Rattle.std.specs.Int.{w32}
use Rattle.std.proofs.Common.{to_z}
use Rattle.codec.specs.Lines.{split}
use Rattle.codec.specs.Slots.{Padded, front}
use Rattle.codec.specs.declared.lines.Slot.{Slot}
use Rattle.script.specs.Refusals.{refusal}
use Rattle.script.specs.declared.faults.LineFault.{LineFault}
use Rattle.script.specs.declared.faults.Refusal.{Refusal}
use Rattle.protocol.specs.declared.run_lines.Line as M
use Rattle.protocol.specs.declared.run_lines.Lines.{Lines}
use Rattle.protocol.specs.declared.run_lines.Call.{Call}
use Rattle.protocol.specs.declared.run_lines.Call.TheVariants.{Feed, Advance, Read, Status}
use Rattle.protocol.specs.declared.run_lines.Scheduling.{Scheduling}
use Rattle.protocol.specs.declared.run_lines.Scheduling.TheVariants as scheduling
use Rattle.protocol.specs.declared.run_lines.RunLine.{RunLine}
use Rattle.protocol.specs.declared.run_lines.RunLine.TheVariants as said

-- The bytes of the next line; none where it is faulty.
abbrev pub bytes_taken : Result Slot LineFault → Perhaps (List ℕ)
bytes_taken (Ok s) = some (front s)
bytes_taken (Err e) = none

-- The lines that are still to come, by their bytes.
abbrev pub lines_left : Lines → List (Perhaps (List ℕ))
lines_left s = split s.text.now

-- No line is left.
abbrev pub NoLine : List ℕ → Type 0
NoLine text = split text ≡ []

-- The line is the first of the text and has this number, at which a fault stands too; what stands behind it is left, and is shorter.
pub record TookLine (text : List ℕ) (number : ℕ) (l : M.Line) : Type 0 where
  pub first : split text ≡ bytes_taken l.bytes ∷ split l.rest.now
  pub numbered : l.number ≡ number
  pub told_at : MatchResult l.bytes Padded (λ e. e.line ≡ number)
  pub shorter : length l.rest.now < length text

-- The line is the next of those still to come; those behind it are left, under the numbers behind its own.
pub record WentOn (s : Lines) (l : M.Line) (t : Lines) : Type 0 where
  pub took : TookLine s.text.now s.number l
  pub left : t.text.now ≡ l.rest.now
  pub next : s.number < 65535 → t.number ≡ suc s.number

-- What the iterator gives: the next line, or None where no line is left.
abbrev pub NextLine : Lines → Option M.Line → Lines → Type 0
NextLine s r t = MatchOption r (NoLine s.text.now × NoLine t.text.now) (λ l. WentOn s l t)

-- What a run line says: who gives the turns, or a call.
pub data Line : Type 0 where
  round_robin : Line
  pick_list : List ℕ → Line
  no_scheduler : Line
  feed : ℕ → ℤ → Line
  advance read status : ℕ → Line

-- The byte at a place.
abbrev pub at : List ℕ → ℕ → ℕ
at bs i = slice_index bs i

-- The line, if there are so many bytes.
abbrev pub if_long : List ℕ → ℕ → Line → Perhaps Line
if_long bs n l = cond (length bs == n) (some l) none

-- The bytes behind a 4F: 00 alone is round robin, 01 has 1 to 32 picks behind it; any other scheduler is not there.
abbrev pub scheduler_line : List ℕ → Perhaps Line
scheduler_line [] = none
scheduler_line (s ∷ picks) =
    cond (s == 0) (cond (length picks == 0) (some round_robin) none)
    (cond (s == 1) (cond (nat_le 1 (length picks) && nat_le (length picks) 32) (some (pick_list picks)) none)
    (cond (nat_le (length picks) 32) (some no_scheduler) none))

-- A run line by its kind and length: 4F the scheduler, 50 a sample for a track, 51 turns, 52 a channel, 54 a thread.
abbrev pub run_line : List ℕ → Perhaps Line
run_line bs =
    cond (at bs 0 == 0x4F) (scheduler_line (drop 1 bs))
    (cond (at bs 0 == 0x50) (if_long bs 6 (feed (at bs 1) (to_z w32 (at bs 2 * 16777216 + at bs 3 * 65536 + at bs 4 * 256 + at bs 5))))
    (cond (at bs 0 == 0x51) (if_long bs 3 (advance (at bs 1 * 256 + at bs 2)))
    (cond (at bs 0 == 0x52) (if_long bs 2 (read (at bs 1)))
    (cond (at bs 0 == 0x54) (if_long bs 2 (status (at bs 1)))
    none))))

-- A call of the code.
abbrev pub call_of : Call → Line
call_of (Feed t s) = feed t s
call_of (Advance n) = advance n
call_of (Read c) = read c
call_of (Status t) = status t

-- A choice of the scheduler.
abbrev pub scheduling_of : Scheduling → Line
scheduling_of scheduling.RoundRobin = round_robin
scheduling_of (scheduling.PickList picks) = pick_list picks.now

-- A run line of the code.
abbrev pub line_of : RunLine → Line
line_of (said.Scheduler None) = no_scheduler
line_of (said.Scheduler (Some s)) = scheduling_of s
line_of (said.Call c) = call_of c

-- An answer of the code by what it says, a fault by what it tells.
abbrev pub told : {A B E F : Type 0} → (A → B) → (E → F) → Result A E → Result B F
told f g (Ok x) = Ok (f x)
told f g (Err e) = Err (g e)

-- The first run line names the scheduler: 2 if it is no run line, 3 if there is no such scheduler, 5 if it is another line.
abbrev pub first_line : Perhaps Line → ℕ → Result Line Refusal
first_line none n = Err (refusal 2 n)
first_line (some round_robin) n = Ok round_robin
first_line (some (pick_list picks)) n = Ok (pick_list picks)
first_line (some no_scheduler) n = Err (refusal 3 n)
first_line (some (feed t s)) n = Err (refusal 5 n)
first_line (some (advance t)) n = Err (refusal 5 n)
first_line (some (read c)) n = Err (refusal 5 n)
first_line (some (status t)) n = Err (refusal 5 n)

-- A later run line is a call: 2 if it is no run line, 5 if it names a scheduler, also one that there is not.
abbrev pub call_line : Perhaps Line → ℕ → Result Line Refusal
call_line none n = Err (refusal 2 n)
call_line (some round_robin) n = Err (refusal 5 n)
call_line (some (pick_list picks)) n = Err (refusal 5 n)
call_line (some no_scheduler) n = Err (refusal 5 n)
call_line (some (feed t s)) n = Ok (feed t s)
call_line (some (advance t)) n = Ok (advance t)
call_line (some (read c)) n = Ok (read c)
call_line (some (status t)) n = Ok (status t)
