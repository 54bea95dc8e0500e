-- When a run and the slabs lent to it stand for a state of the machine.
use Rattle.std.specs.Prelude.{◌≡◌, ℕ, zero, suc, ◌+◌, ◌<◌, ◌≤◌, Bool, true, not, T, List, [], ◌∷◌, length, ℤ, slice_index_or}
use Rattle.lattice.specs.Levels.{Levels}
use Rattle.codec.specs.Frames.{Frame}
use Rattle.script.specs.Code.{Script}
use Rattle.script.specs.Trees.{script_frames, ValidScript}
use Rattle.script.specs.Slabs.{Holds}
use Rattle.model.specs.Machine.{State}
use Rattle.model.specs.Threads.{Pace as ModelPace}
use Rattle.model.specs.Threads.Pace.{running, idling}
use Rattle.model.specs.Fitting.{Account, AllAccounts, CodedRun, frame_at, is_thread_end}
use Rattle.runs.specs.declared.Mark.{Mark}
use Rattle.runs.specs.declared.Entry.{Entry}
use Rattle.runs.specs.declared.Pace.{Pace}
use Rattle.runs.specs.declared.Pace.TheVariants.{Running, Idling, Finished}
use Rattle.runs.specs.declared.Core.{Core}
use Rattle.runs.specs.Flat.{Mem, mem, nil_mark, nil_place, first_mark, state_of}
use Rattle.runs.specs.Kept.{entries_needed, samples_needed}
use Rattle.runs.specs.Views.{Declares, spot}

-- A run but for its scheduler, and the slabs.
pub record Memory : Type 0 where
  pub core : Core
  pub script : List ℕ
  pub samples : List ℤ
  pub entries : List Entry
  pub marks : List Mark

-- These five as one.
abbrev pub memory : Core → List ℕ → List ℤ → List Entry → List Mark → Memory
memory c script samples entries marks = record { core = c; script = script; samples = samples; entries = entries; marks = marks }

-- What turns change of it.
abbrev pub changing : Memory → Mem
changing m = mem m.core m.marks m.entries

-- The slabs of samples, entries and open blocks are long enough for what the run declares.
pub record Long (m : Memory) : Type 0 where
  pub samples : samples_needed m.core ≤ length m.samples
  pub entries : entries_needed m.core ≤ length m.entries
  pub marks : 128 ≤ length m.marks

-- The levels of the first d blocks from slot b on, innermost first.
abbrev pub mark_levels : List Mark → ℕ → ℕ → List ℕ
mark_levels ms b zero = []
mark_levels ms b (suc d) = (slice_index_or ms (b + d) nil_mark).level ∷ mark_levels ms b d

-- A thread idles or not.
abbrev pub pace_of : Pace → ModelPace
pace_of Running = running
pace_of (Idling n) = idling n
pace_of Finished = running

-- What memory says of thread i: where it stands, the blocks around it with the level inside each, and whether it idles.
abbrev pub account : Core → List Mark → ℕ → Account
account c ms i = let p = slice_index_or c.threads i nil_place in record { spot = spot ms i p; levels = mark_levels ms (first_mark i) p.depth; pace = pace_of p.pace }

-- A thread is called finished exactly at the frame that ends it.
abbrev pub end_fits : Frame → Pace → Bool
end_fits f Running = not (is_thread_end f)
end_fits f (Idling n) = true
end_fits f Finished = is_thread_end f

-- Memory stands for the state s of the script sc, under a kind of levels and its number: the script slab holds that script, the script declares what the run does,
-- the slabs are long enough, what memory says of the threads is an account of those of s, every level is a code of the kind, and the rest of s is read from memory.
pub record StandsFor (kind : ℕ) (k : Levels) (m : Memory) (sc : Script) (s : State) : Type 0 where
  pub valid : ValidScript kind k sc
  pub holds : Holds kind k m.script (script_frames sc)
  pub declares : Declares sc m.core
  pub long : Long m
  pub accounts : AllAccounts k sc (account m.core m.marks) s.threads
  pub ends : (i : ℕ) → i < length sc.codes → let p = slice_index_or m.core.threads i nil_place in T (end_fits (frame_at (script_frames sc) p.at) p.pace)
  pub coded : CodedRun k s
  pub is : s ≡ state_of m.core m.samples m.entries s.threads
