-- What a script in a slab declares, as a run keeps it.
use Rattle.std.specs.Prelude.{◌≡◌, ℕ, ◌+◌, ◌<◌, List, [], ◌∷◌, map, length, get_or, take, drop, slice_index_or}
use Rattle.std.proofs.Math.Option.{some}
use Rattle.lattice.specs.Levels.{Levels}
use Rattle.codec.specs.Frames.{Frame}
use Rattle.codec.specs.Frames.Frame.{header, track, channel, thread, thread_end, if, else, end_if, while, end_while, with, end_with, last}
use Rattle.codec.specs.Shapes.{head_of as as_head, whole}
use Rattle.script.specs.Code.{Script}
use Rattle.script.specs.Slabs.{Holds, frame_number}
use Rattle.script.specs.Trees.{head_of, script_frames, thread_frames, body_frames, ValidScript}
use Rattle.runs.specs.declared.Port.{Port}
use Rattle.runs.specs.declared.declaring.Declared.{Declared}
use Rattle.runs.specs.Flat.{level_of_port, nil_port}
use Rattle.runs.specs.Kept.{Laid, room}
use Rattle.runs.specs.Views.{size_of_port}

-- A track or channel of this level and size, with its part from `start` on and nothing in it.
abbrev pub fresh_port : ℕ → ℕ → ℕ → Port
fresh_port l z start = record { level = l; start = start; size = z; count = 0; missed = 0 }

-- The track or channel that a frame declares.
abbrev pub declared_port : Frame → ℕ → Port
declared_port (header h) start = fresh_port 0 0 start
declared_port (track i l z) start = fresh_port l z start
declared_port (channel i l z) start = fresh_port l z start
declared_port (thread i) start = fresh_port 0 0 start
declared_port thread_end start = fresh_port 0 0 start
declared_port Frame.skip start = fresh_port 0 0 start
declared_port (Frame.assign x e) start = fresh_port 0 0 start
declared_port (Frame.put h e) start = fresh_port 0 0 start
declared_port (if e) start = fresh_port 0 0 start
declared_port else start = fresh_port 0 0 start
declared_port end_if start = fresh_port 0 0 start
declared_port (while e) start = fresh_port 0 0 start
declared_port end_while start = fresh_port 0 0 start
declared_port (with m e) start = fresh_port 0 0 start
declared_port end_with start = fresh_port 0 0 start
declared_port (last m) start = fresh_port 0 0 start

-- The frame at a place of every script that the slab holds declares this.
abbrev pub PortAt : List ℕ → ℕ → ℕ → Port → Type 0
PortAt slab place start p = (kind : ℕ) (k : Levels) (fs : List Frame) → Holds kind k slab fs → (f : Frame) → frame_number place fs ≡ some (whole f) → p ≡ declared_port f start

-- The n frames from a place on declare these, the part of each behind the parts before it.
abbrev pub PortsAt : List ℕ → ℕ → ℕ → List Port → Type 0
PortsAt slab first n ps = (h : ℕ) → h < n → PortAt slab (first + h) (room ps h) (slice_index_or ps h nil_port)

-- Tracks or channels of these levels and sizes, with nothing in them.
pub record FreshPorts (ls zs : List ℕ) (ps : List Port) (n : ℕ) : Type 0 where
  pub levels : ls ≡ map level_of_port (take n ps)
  pub sizes : zs ≡ map size_of_port (take n ps)
  pub laid : Laid ps n
  pub empty : (h : ℕ) → h < n → ((get_or ps h nil_port).count ≡ 0) × ((get_or ps h nil_port).missed ≡ 0)

-- What a script declares.
pub record Fresh (sc : Script) (d : Declared) : Type 0 where
  pub head : head_of sc ≡ as_head d.head
  pub tracks : FreshPorts sc.track_levels sc.track_sizes d.tracks d.head.tracks
  pub channels : FreshPorts sc.channel_levels sc.channel_sizes d.channels d.head.channels
  pub frames : d.frames ≡ length (script_frames sc)

-- A valid script that a slab holds.
pub record InSlab (kind : ℕ) (k : Levels) (slab : List ℕ) (sc : Script) : Type 0 where
  pub valid : ValidScript kind k sc
  pub holds : Holds kind k slab (script_frames sc)

-- The slab holds a script, and whichever it holds declares this.
pub record DeclaresAs (kind : ℕ) (k : Levels) (slab : List ℕ) (d : Declared) : Type 0 where
  pub script : Script
  pub held : InSlab kind k slab script
  pub fresh : (sc : Script) → InSlab kind k slab sc → Fresh sc d
  pub eight_tracks : length d.tracks ≡ 8
  pub eight_channels : length d.channels ≡ 8

-- It holds none.
abbrev pub DeclaresNone : ℕ → Levels → List ℕ → Type 0
DeclaresNone kind k slab = (sc : Script) → InSlab kind k slab sc → ⊥

-- The frames from thread i on.
abbrev pub threads_from : Script → ℕ → List Frame
threads_from sc i = thread_frames i (drop i sc.codes) (last (length (body_frames sc (last 0 ∷ []))) ∷ [])
