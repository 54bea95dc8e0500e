-- When memory stands for a state of the model.
use Rattle.std.specs.Prelude.{◌≡◌, ℕ, zero, suc, ◌+◌, ◌<◌, ◌≤◌, ◌≢◌, ◌⊎◌, Bool, true, false, List, [], ◌∷◌, map, length, get_or, take, drop, ℤ, slice_index_or}
use Rattle.model.specs.Threads.{Open, Thread, ended, context, Pace as ModelPace}
use Rattle.script.specs.Code.{Code, Script}
use Rattle.model.specs.Machine.{State}
use Rattle.model.specs.Threads.Pace.{running, idling}
use Rattle.codec.specs.Frames.{Head, Frame}
use Rattle.codec.specs.Expressions.{Expr}
use Rattle.script.specs.Code.Code.{branch}
use Rattle.script.specs.Trees.{flatten, head_of, script_frames}
use Rattle.model.specs.Places.{Spot, StandsAt, ValidThread}
use Rattle.model.specs.Fitting.{Idles}
use Rattle.survey.specs.declared.table.Kind.{Kind}
use Rattle.survey.specs.declared.table.Step.{Step}
use Rattle.runs.specs.declared.Mark.{Mark}
use Rattle.runs.specs.declared.Pace.{Pace}
use Rattle.runs.specs.declared.Pace.TheVariants.{Idling}
use Rattle.runs.specs.declared.Place.{Place}
use Rattle.runs.specs.declared.Port.{Port}
use Rattle.runs.specs.declared.Entry.{Entry}
use Rattle.runs.specs.declared.Core.{Core}
use Rattle.runs.specs.Flat.{nil_mark, nil_place, nil_port, first_mark, pace_at, track_levels_of, level_of_port, head_of_core, TrackParts, Part, Mem, state_of}
use Rattle.survey.specs.Filling.{outer_first}
use Rattle.survey.specs.Table.{Reads, Ways, step_at_place}

-- The openers of the first d blocks from b on, innermost first.
abbrev pub openers : List Mark → ℕ → ℕ → List ℕ
openers ms b zero = []
openers ms b (suc d) = (get_or ms (b + d) nil_mark).opener ∷ openers ms b d

-- Each mark has the context level inside its block.
abbrev pub Leveled : List Mark → ℕ → ℕ → List Open → Type 0
Leveled ms b zero [] = Unit {0}
Leveled ms b zero (o ∷ os) = ⊥
Leveled ms b (suc d) [] = ⊥
Leveled ms b (suc d) (o ∷ os) = ((get_or ms (b + d) nil_mark).level ≡ context (o ∷ os)) × Leveled ms b d os

-- A thread runs, idles or is finished as the model has it.
abbrev pub Paced : Pace → Kind → ModelPace → Type 0
Paced p kd running = p ≡ pace_at kd
Paced p kd (idling n) = p ≡ Idling n

-- Where thread i stands, and the places of its openers.
abbrev pub spot : List Mark → ℕ → Place → Spot
spot ms i p = record { place = p.at; openers = openers ms (first_mark i) p.depth }

-- Thread i's place and marks stand for the thread t, which stands in frames that r follows.
pub record ThreadView (h : Head) (fs r : List Frame) (table : List Step) (ms : List Mark) (i : ℕ) (p : Place) (t : Thread) : Type 0 where
  pub stands : StandsAt fs r (spot ms i p) t
  pub leveled : Leveled ms (first_mark i) p.depth t.inside
  pub paced : Paced p.pace (step_at_place table p.at).kind t.pace
  pub idles : Idles t.pace t.inside
  pub valid : ValidThread h t
  pub deep : p.depth ≤ 16

-- How many samples or entries a track or a channel may have.
abbrev pub size_of_port : Port → ℕ
size_of_port p = p.size

-- What is said of a place, unless that is so.
abbrev pub Unless : Bool → Type 0 → Type 0
Unless true P = Unit {0}
Unless false P = P

-- What turns go by of a script's table: it says of every frame that a thread may stand at what it is, and of every if what its two ways are.
pub record TabledForTurns (h : Head) (code : List ℕ) (table : List Step) (fs : List Frame) : Type 0 where
  pub here : (p : ℕ) → Unless (outer_first (drop p fs)) (Reads h code p (step_at_place table p) (drop p fs))
  pub ways : (p : ℕ) (e : Expr) (a b c : Code) (r : List Frame) → drop p fs ≡ flatten (branch e a b c) r → Ways (step_at_place table p) a b
  pub long : length table ≡ length fs
  pub few : length fs ≤ 512

-- What turns go by of what a script declares: how many variables, the levels of tracks and channels, the sizes of channels.
pub record DeclaresForTurns (sc : Script) (c : Core) : Type 0 where
  pub variables : sc.variables ≡ c.head.variables
  pub track_levels : sc.track_levels ≡ track_levels_of c
  pub channel_levels : sc.channel_levels ≡ map level_of_port (take c.head.channels c.channels)
  pub channel_sizes : sc.channel_sizes ≡ map size_of_port (take c.head.channels c.channels)

-- The script declares what the run has: the header, and level and size of every track and channel.
pub record Declares (sc : Script) (c : Core) : Type 0 where
  pub head : head_of sc ≡ head_of_core c
  pub track_levels : sc.track_levels ≡ track_levels_of c
  pub track_sizes : sc.track_sizes ≡ map size_of_port (take c.head.tracks c.tracks)
  pub channel_levels : sc.channel_levels ≡ map level_of_port (take c.head.channels c.channels)
  pub channel_sizes : sc.channel_sizes ≡ map size_of_port (take c.head.channels c.channels)

-- Two parts of the lent memory have no slot in common.
abbrev pub Apart : Port → Port → Type 0
Apart p q = (p.start + p.size ≤ q.start) ⊎ (q.start + q.size ≤ p.start)

-- No channel has missed more than `most`; each thread stands in frames that `after` says follow it.
pub record Views (most : ℕ) (sc : Script) (after : ℕ → List Frame) (table : List Step) (code : List ℕ) (c : Core) (ms : List Mark) (es : List Entry) (ts : List Thread) : Type 0 where
  pub tabled : TabledForTurns (head_of_core c) code table (script_frames sc)
  pub declares : DeclaresForTurns sc c
  pub cells : length c.cells ≡ 64
  pub places : length c.threads ≡ 8
  pub ports : length c.channels ≡ 8
  pub room : 128 ≤ length ms
  pub count : length ts ≡ c.head.threads
  pub turns : c.turns ≤ 1000000
  pub parts : (h : ℕ) → h < c.head.channels → Part (slice_index_or c.channels h nil_port) most es
  pub apart : (h j : ℕ) → h < c.head.channels → j < c.head.channels → h ≢ j → Apart (slice_index_or c.channels h nil_port) (slice_index_or c.channels j nil_port)
  pub threads : (j : ℕ) → j < c.head.threads → ThreadView (head_of_core c) (script_frames sc) (after j) table ms j (slice_index_or c.threads j nil_place) (slice_index_or ts j ended)

-- Memory that stands for the state s, with `given` turns so far.
pub record HoldsState (most given : ℕ) (sc : Script) (after : ℕ → List Frame) (table : List Step) (code : List ℕ) (ss : List ℤ) (x : Mem) (s : State) : Type 0 where
  pub ts : List Thread
  pub is : s ≡ state_of x.core ss x.entries ts
  pub counted : x.core.turns ≡ given
  pub fed : TrackParts x.core ss
  pub views : Views most sc after table code x.core x.marks x.entries ts

-- The same between turns: no channel has missed more than there were turns.
abbrev pub Runs : Script → (ℕ → List Frame) → List Step → List ℕ → List ℤ → Mem → State → Type 0
Runs sc after table code ss x s = HoldsState x.core.turns x.core.turns sc after table code ss x s

-- Memory that stands for some state of some script.
abbrev pub RunningMem : List Step → List ℕ → List ℤ → Mem → Type 0
RunningMem table code ss x = (sc : Script) × (after : ℕ → List Frame) × (s : State) × Runs sc after table code ss x s
