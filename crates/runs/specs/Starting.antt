-- Where the threads of a script begin.
use Rattle.std.specs.Prelude.{◌≡◌, ℕ, ◌+◌, ◌<◌, Bool, T, List, ◌∷◌, length, get_or, drop, replicate, slice_index_or}
use Rattle.lattice.specs.Levels.{Levels}
use Rattle.codec.specs.Frames.{Frame}
use Rattle.codec.specs.Frames.Frame.{thread, thread_end}
use Rattle.script.specs.Code.{Code, Script}
use Rattle.script.specs.Code.Code.{done}
use Rattle.script.specs.Slabs.{Holds}
use Rattle.script.specs.Trees.{flatten, script_frames}
use Rattle.model.specs.Threads.Pace.{running}
use Rattle.model.specs.Fitting.{behind_thread, frame_at, is_thread_end}
use Rattle.runs.specs.declared.Place.{Place}
use Rattle.runs.specs.declared.Core.{Core}
use Rattle.runs.specs.declared.declaring.Declared.{Declared}
use Rattle.runs.specs.Flat.{nil_cell, nil_place}
use Rattle.runs.specs.Memory.{end_fits, pace_of}
use Rattle.runs.specs.Declaring.{InSlab}

-- Whether the frame at a place of every script that the slab holds ends a thread.
abbrev pub EndsThread : List ℕ → ℕ → Bool → Type 0
EndsThread slab at b = (kind : ℕ) (k : Levels) (fs : List Frame) → Holds kind k slab fs → b ≡ is_thread_end (frame_at fs at)

-- A thread that comes to a place with no block open; it is finished exactly if the frame there ends it.
pub record ComesTo (slab : List ℕ) (at : ℕ) (p : Place) : Type 0 where
  pub place : p.at ≡ at
  pub depth : p.depth ≡ 0
  pub runs : pace_of p.pace ≡ running
  pub ends : (kind : ℕ) (k : Levels) (fs : List Frame) → Holds kind k slab fs → T (end_fits (frame_at fs at) p.pace)

-- From the first place of a thread to the first place of the next.
abbrev pub NextThread : List ℕ → ℕ → ℕ → Type 0
NextThread slab at r =
    (kind : ℕ) (k : Levels) (fs : List Frame) → Holds kind k slab fs → (c : Code) (i : ℕ) (gs : List Frame) → drop at fs ≡ flatten c (thread_end ∷ thread i ∷ gs) → drop r fs ≡ gs

-- Thread i's code stands at a place of the script's frames, with its own frames behind it.
abbrev pub BeginsAt : Script → ℕ → ℕ → Type 0
BeginsAt sc i at = i < length sc.codes → drop at (script_frames sc) ≡ flatten (slice_index_or sc.codes i done) (thread_end ∷ behind_thread sc i)

-- The first n threads stand at the beginning of their code, wherever thread 0 begins at the first place.
abbrev pub PlacesAt : List ℕ → ℕ → ℕ → List Place → Type 0
PlacesAt slab first n ps =
    (kind : ℕ) (k : Levels) (sc : Script) → InSlab kind k slab sc → BeginsAt sc 0 first → (i : ℕ) → i < n →
    BeginsAt sc i (get_or ps i nil_place).at × ComesTo slab (get_or ps i nil_place).at (slice_index_or ps i nil_place)

-- A run as it is made of what a script declares: every variable 0 and open, every thread at its beginning, no turn given.
pub record Begins (slab : List ℕ) (d : Declared) (c : Core) : Type 0 where
  pub head : c.head ≡ d.head
  pub cells : c.cells ≡ replicate 64 nil_cell
  pub tracks : c.tracks ≡ d.tracks
  pub channels : c.channels ≡ d.channels
  pub turns : c.turns ≡ 0
  pub places : PlacesAt slab (2 + d.head.tracks + d.head.channels) d.head.threads c.threads
  pub eight : length c.threads ≡ 8
