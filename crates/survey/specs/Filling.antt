-- Filling the table of steps: the step of each kind of frame, and what a filled part of the table says.
use Rattle.std.specs.Prelude.{◌≡◌, ℕ, ◌+◌, ◌-◌, ◌*◌, ◌<◌, ◌≤◌, min, Bool, true, false, cond, ◌&&◌, T, List, [], ◌∷◌, length, drop, bit_or, nat_lt}
use Rattle.lattice.specs.Levels.{Levels}
use Rattle.codec.specs.Expressions.{Expr}
use Rattle.codec.specs.Frames.{Frame}
use Rattle.codec.specs.Frames.Frame.{header, track, channel, thread, thread_end, if, else, end_if, while, end_while, with, end_with, last}
use Rattle.codec.specs.declared.frames.Frame.{Frame as Coded}
use Rattle.codec.specs.declared.frames.Frame.TheVariants.{Header as CodedHeader, Track as CodedTrack, Channel as CodedChannel, Thread as CodedThread, ThreadEnd as CodedThreadEnd, Skip as CodedSkip, Assign as CodedAssign, Put as CodedPut}
use Rattle.codec.specs.declared.frames.Frame.TheVariants.{If as CodedIf, Else as CodedElse, EndIf as CodedEndIf, While as CodedWhile, EndWhile as CodedEndWhile, With as CodedWith, EndWith as CodedEndWith, Last as CodedLast}
use Rattle.script.specs.Code.{Code, Script}
use Rattle.script.specs.Code.Code.{branch}
use Rattle.script.specs.Slabs.{Holds}
use Rattle.script.specs.Trees.{ValidScript, flatten, head_of, script_frames}
use Rattle.survey.specs.Table.{Reads, Ways, step_at_place}
use Rattle.survey.specs.declared.Stretch.{Stretch}
use Rattle.survey.specs.declared.table.Kind.{Kind}
use Rattle.survey.specs.declared.table.Kind.TheVariants.{Skip, Assign, Put, If}
use Rattle.survey.specs.declared.table.Step.{Step}

-- Steps

-- The place behind another; 512 stays.
abbrev pub place_past : ℕ → ℕ
place_past p = cond (nat_lt p 512) (p + 1) p

-- A step with nothing but its kind.
abbrev pub plain_step : Kind → Step
plain_step k = record { kind = k; number = 0; mask = 0; start = 0; stop = 0; other = 0; fixed = false; first = 0; second = 0; needed = 0; assigned = 0 }

-- A step with the place behind the end of the block that follows it.
abbrev pub closing_step : Kind → ℕ → Step
closing_step k o = record { kind = k; number = 0; mask = 0; start = 0; stop = 0; other = o; fixed = false; first = 0; second = 0; needed = 0; assigned = 0 }

-- A step with a number, a mask, another place, and an expression of so many bytes that stands so far into slot p.
abbrev pub reading_step : Kind → ℕ → ℕ → ℕ → ℕ → ℕ → ℕ → Step
reading_step k n m o p offset len = record {
  kind = k;
  number = n;
  mask = m;
  start = p * 51 + offset;
  stop = p * 51 + offset + min len 48;
  other = o;
  fixed = false;
  first = 0;
  second = 0;
  needed = 0;
  assigned = 0;
}

-- The step of a command that is no block, at place p; a frame that is no such command counts as a skip.
abbrev pub simple_step : ℕ → Coded → Step
simple_step p (CodedHeader h) = plain_step Skip
simple_step p (CodedTrack s) = plain_step Skip
simple_step p (CodedChannel s) = plain_step Skip
simple_step p (CodedThread i) = plain_step Skip
simple_step p CodedThreadEnd = plain_step Skip
simple_step p CodedSkip = plain_step Skip
simple_step p (CodedAssign x e) = reading_step Assign x 0 0 p 2 (length e.now)
simple_step p (CodedPut h e) = reading_step Put h 0 0 p 2 (length e.now)
simple_step p (CodedIf e) = plain_step Skip
simple_step p CodedElse = plain_step Skip
simple_step p CodedEndIf = plain_step Skip
simple_step p (CodedWhile e) = plain_step Skip
simple_step p CodedEndWhile = plain_step Skip
simple_step p (CodedWith m e) = plain_step Skip
simple_step p CodedEndWith = plain_step Skip
simple_step p (CodedLast m) = plain_step Skip

-- How much longer another way lasts, where both take a fixed time.
abbrev pub idle_turns : Bool → ℕ → ℕ → ℕ
idle_turns fixed own other = cond fixed (other - own) 0

-- The step of an if at place p, with a condition of so many bytes, from its two ways.
abbrev pub if_step : ℕ → ℕ → Stretch → Stretch → Step
if_step p len a b = record {
  kind = If;
  number = 0;
  mask = 0;
  start = p * 51 + 1;
  stop = p * 51 + 1 + min len 48;
  other = place_past a.end;
  fixed = a.fixed && b.fixed;
  first = idle_turns (a.fixed && b.fixed) a.duration b.duration;
  second = idle_turns (a.fixed && b.fixed) b.duration a.duration;
  needed = bit_or a.needed b.needed;
  assigned = bit_or a.assigned b.assigned;
}

-- Parts of the table

-- A valid script that the slab holds.
pub record ScriptIn (slab : List ℕ) : Type 0 where
  pub kind : ℕ
  pub levels : Levels
  pub script : Script
  pub valid : ValidScript kind levels script
  pub holds : Holds kind levels slab (script_frames script)

-- A step says of place p what is so, in whatever valid script the slab holds.
pub record Right (slab : List ℕ) (p : ℕ) (st : Step) : Type 0 where
  pub here : (w : ScriptIn slab) → Reads (head_of w.script) slab p st (drop p (script_frames w.script))
  pub ways : (w : ScriptIn slab) (e : Expr) (a b c : Code) (r : List Frame) → drop p (script_frames w.script) ≡ flatten (branch e a b c) r → Ways st a b

-- A table was filled from place a to place b: these steps are right, and those that were right have stayed so.
pub record Filled (slab : List ℕ) (a b : ℕ) (was is : List Step) : Type 0 where
  pub long : length is ≡ length was
  pub stays : (p : ℕ) → Right slab p (step_at_place was p) → Right slab p (step_at_place is p)
  pub right : 512 ≤ length was → (p : ℕ) → a ≤ p → p < b → Right slab p (step_at_place is p)

-- Frames that stand outside of threads, or begin one.
abbrev pub outer : Frame → Bool
outer (header h) = true
outer (track i l z) = true
outer (channel i l z) = true
outer (thread i) = true
outer thread_end = false
outer Frame.skip = false
outer (Frame.assign x e) = false
outer (Frame.put h e) = false
outer (if e) = false
outer else = false
outer end_if = false
outer (while e) = false
outer end_while = false
outer (with m e) = false
outer end_with = false
outer (last m) = true

-- Whether the first of these frames, if there is one, stands outside of threads or begins one.
abbrev pub outer_first : List Frame → Bool
outer_first [] = true
outer_first (f ∷ fs) = outer f

-- Place p is not inside a thread of any valid script that the slab holds.
abbrev pub Outside : List ℕ → ℕ → Type 0
Outside slab p = (w : ScriptIn slab) → T (outer_first (drop p (script_frames w.script)))

-- A frame that begins a thread.
abbrev pub is_thread : Frame → Bool
is_thread (header h) = false
is_thread (track i l z) = false
is_thread (channel i l z) = false
is_thread (thread i) = true
is_thread thread_end = false
is_thread Frame.skip = false
is_thread (Frame.assign x e) = false
is_thread (Frame.put h e) = false
is_thread (if e) = false
is_thread else = false
is_thread end_if = false
is_thread (while e) = false
is_thread end_while = false
is_thread (with m e) = false
is_thread end_with = false
is_thread (last m) = false

-- Whether the first of these frames begins a thread.
abbrev pub thread_first : List Frame → Bool
thread_first [] = false
thread_first (f ∷ fs) = is_thread f

-- Whether a thread begins at place p, in whatever valid script the slab holds.
abbrev pub BeginsThread : List ℕ → ℕ → Bool → Type 0
BeginsThread slab p b = (w : ScriptIn slab) → b ≡ thread_first (drop p (script_frames w.script))
