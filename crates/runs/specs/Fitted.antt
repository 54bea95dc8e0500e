-- Whether what memory says of the threads fits a script, as it is told from the script's table of steps.
use Rattle.std.specs.Prelude.{◌≡◌, ℕ, ◌+◌, ◌<◌, Bool, true, false, cond, not, ◌&&◌, T, List, get_or, ◌==◌, slice_index, slice_index_or}
use Rattle.lattice.specs.Levels.{Levels}
use Rattle.codec.specs.Frames.{Head, Frame}
use Rattle.script.specs.Code.{Script}
use Rattle.script.specs.Trees.{script_frames, ValidScript}
use Rattle.model.specs.Fitting.{frame_at, thread_fits, all_fit}
use Rattle.survey.specs.Table.{step_at_place, Tabled}
use Rattle.survey.specs.declared.table.Kind.{Kind}
use Rattle.survey.specs.declared.table.Kind.TheVariants.{Other, Begin, End, Skip, Assign, Put, If, Else, EndIf, While, EndWhile, With, EndWith}
use Rattle.survey.specs.declared.table.Step.{Step}
use Rattle.runs.specs.declared.Mark.{Mark}
use Rattle.runs.specs.declared.Pace.{Pace}
use Rattle.runs.specs.declared.Pace.TheVariants.{Running, Idling, Finished}
use Rattle.runs.specs.declared.Core.{Core}
use Rattle.runs.specs.Flat.{nil_mark, nil_place, level_inside}
use Rattle.runs.specs.Memory.{account, end_fits}
use Rattle.runs.specs.Turns.{all_first}

-- By the table

-- A step of this kind begins an if.
abbrev pub if_kind : Kind → Bool
if_kind Other = false
if_kind Begin = false
if_kind End = false
if_kind Skip = false
if_kind Assign = false
if_kind Put = false
if_kind If = true
if_kind Else = false
if_kind EndIf = false
if_kind While = false
if_kind EndWhile = false
if_kind With = false
if_kind EndWith = false

-- It ends a way of an if.
abbrev pub way_end_kind : Kind → Bool
way_end_kind Other = false
way_end_kind Begin = false
way_end_kind End = false
way_end_kind Skip = false
way_end_kind Assign = false
way_end_kind Put = false
way_end_kind If = false
way_end_kind Else = true
way_end_kind EndIf = true
way_end_kind While = false
way_end_kind EndWhile = false
way_end_kind With = false
way_end_kind EndWith = false

-- It ends a thread.
abbrev pub thread_end_kind : Kind → Bool
thread_end_kind Other = false
thread_end_kind Begin = false
thread_end_kind End = true
thread_end_kind Skip = false
thread_end_kind Assign = false
thread_end_kind Put = false
thread_end_kind If = false
thread_end_kind Else = false
thread_end_kind EndIf = false
thread_end_kind While = false
thread_end_kind EndWhile = false
thread_end_kind With = false
thread_end_kind EndWith = false

-- The level inside a block fits the kind of its opener: at an if it is a code, elsewhere it is the level outside.
abbrev pub level_suits : Levels → Kind → ℕ → ℕ → Bool
level_suits k kd l outside = cond (if_kind kd) (k.has l) (l == outside)

-- A mark is that of the block that was met there, and its level fits.
abbrev pub mark_suits : Levels → List Step → ℕ → Mark → ℕ → Bool
mark_suits k table met mk outside = met == mk.opener && level_suits k (step_at_place table mk.opener).kind mk.level outside

-- So it is of the block above d others from slot b on.
abbrev pub block_suits : Levels → List Step → List ℕ → List Mark → ℕ → ℕ → Bool
block_suits k table met ms b d = mark_suits k table (slice_index met d) (slice_index_or ms (b + d) nil_mark) (level_inside ms b d)

-- A thread idles only at the end of a way, and is called finished exactly at its own end.
abbrev pub pace_suits : Pace → Kind → Bool
pace_suits Running kd = not (thread_end_kind kd)
pace_suits (Idling n) kd = way_end_kind kd
pace_suits Finished kd = thread_end_kind kd

-- By the script's frames

-- Thread i is called finished exactly at the frame that ends it.
abbrev pub end_right : List Frame → Core → ℕ → Bool
end_right fs c i = let p = get_or c.threads i nil_place in end_fits (frame_at fs p.at) p.pace

-- r is what f answers of the frames, of every valid script that has this table.
pub record OfScript (kind : ℕ) (k : Levels) (table : List Step) (f : List Frame → Bool) (r : Bool) : Type 0 where
  pub told : (sc : Script) (h : Head) (code : List ℕ) → ValidScript kind k sc → Tabled h code table (script_frames sc) → r ≡ f (script_frames sc)

-- What memory says of thread i fits the frames.
abbrev pub thread_right : Levels → Core → List Mark → ℕ → List Frame → Bool
thread_right k c ms i fs = thread_fits k fs i (account c ms i) && end_right fs c i

-- What it says of the first n threads does.
abbrev pub threads_right : Levels → Core → List Mark → ℕ → List Frame → Bool
threads_right k c ms n fs = all_fit k fs (account c ms) n && all_first (end_right fs c) n

-- The answer says whether memory fits the script, whichever has this table.
abbrev pub TellsFit : ℕ → Levels → List Step → Core → List Mark → Bool → Type 0
TellsFit kind k table c ms r = OfScript kind k table (threads_right k c ms c.head.threads) r

-- Memory fits a script's frames.
pub record FitsFrames (k : Levels) (fs : List Frame) (c : Core) (ms : List Mark) : Type 0 where
  pub accounts : T (all_fit k fs (account c ms) c.head.threads)
  pub ends : (i : ℕ) → i < c.head.threads → T (end_right fs c i)
