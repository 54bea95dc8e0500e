-- The memory of a run: the state that it stands for, and what a turn does to it.
use Rattle.codec.specs.declared.expressions.Op.{Op}
use Rattle.codec.specs.Expressions.{decode}
use Rattle.codec.specs.Operations.{op_of}
use Rattle.runs.specs.Operations.{made}
use Rattle.std.specs.Prelude.{ℕ, zero, suc, ◌+◌, ◌-◌, ◌*◌, ◌<◌, ◌≤◌, Bool, false, cond, not, ltb, List, [], map, length, get_or, take, drop, ℤ, pos, ◌==◌, nat_lt, slice_index, slice_index_or, slice_set}
use Rattle.lattice.specs.Levels.{Levels}
use Rattle.model.specs.Values.{blank, eval, top, joined, is_zero, Cell as ModelCell}
use Rattle.model.specs.Threads.{Thread}
use Rattle.model.specs.Machine.{Channel, State, Entry as ModelEntry}
use Rattle.codec.specs.Frames.{Head}
use Rattle.codec.specs.Shapes.{head_of}
use Rattle.runs.specs.declared.stack.Stack.{Stack}
use Rattle.survey.specs.declared.table.Kind.{Kind}
use Rattle.survey.specs.declared.table.Kind.TheVariants.{Other, Begin, End, Skip, Assign, Put, If, Else, EndIf, While, EndWhile, With, EndWith}
use Rattle.survey.specs.declared.table.Step.{Step}
use Rattle.runs.specs.declared.Mark.{Mark}
use Rattle.runs.specs.declared.Cell.{Cell}
use Rattle.runs.specs.declared.Pace.{Pace}
use Rattle.runs.specs.declared.Pace.TheVariants.{Running, Idling, Finished}
use Rattle.runs.specs.declared.Place.{Place}
use Rattle.runs.specs.declared.Port.{Port}
use Rattle.runs.specs.declared.Turn.{Turn}
use Rattle.runs.specs.declared.Entry.{Entry}
use Rattle.runs.specs.declared.Core.{Core}
use Rattle.runs.specs.declared.verdicts.Verdict.{Verdict}
use Rattle.runs.specs.Verdicts.{left_by, putting}
use Rattle.survey.specs.Stretches.{has_bit}
use Rattle.survey.specs.Table.{step_at_place, bytes_of, Good}

-- What is read past the marks.
abbrev pub nil_mark : Mark
nil_mark = record { opener = 0; level = 0 }

-- What is read past the cells.
abbrev pub nil_cell : Cell
nil_cell = record { value = pos 0; level = 0 }

-- What is read past the threads.
abbrev pub nil_place : Place
nil_place = record { at = 0; depth = 0; pace = Running }

-- What is read past the tracks or the channels.
abbrev pub nil_port : Port
nil_port = record { level = 0; start = 0; size = 0; count = 0; missed = 0 }

-- What is read past the entries.
abbrev pub nil_entry : Entry
nil_entry = record { turn = 0; thread = 0; mark = false; value = pos 0 }

-- The state that memory stands for

-- A variable.
abbrev pub cell_of : Cell → ModelCell
cell_of c = record { value = c.value; level = c.level }

-- The variables that the script declares.
abbrev pub cells_of : Core → List ModelCell
cells_of c = map cell_of (take c.head.variables c.cells)

-- What was fed to a track: the first samples of its part.
abbrev pub track_of : List ℤ → Port → List ℤ
track_of ss p = take p.count (drop p.start ss)

-- What was fed to each track.
abbrev pub tracks_of : Core → List ℤ → List (List ℤ)
tracks_of c ss = map (track_of ss) (take c.head.tracks c.tracks)

-- The level of a track or a channel.
abbrev pub level_of_port : Port → ℕ
level_of_port p = p.level

-- The levels of the tracks.
abbrev pub track_levels_of : Core → List ℕ
track_levels_of c = map level_of_port (take c.head.tracks c.tracks)

-- An entry of a channel.
abbrev pub entry_of : Entry → ModelEntry
entry_of e = record { turn = e.turn; thread = e.thread; mark = e.mark; value = e.value }

-- A channel: the first entries of its part, and how many it missed.
abbrev pub channel_of : List Entry → Port → Channel
channel_of es p = record { entries = map entry_of (take p.count (drop p.start es)); missed = p.missed }

-- The channels.
abbrev pub channels_of : Core → List Entry → List Channel
channels_of c es = map (channel_of es) (take c.head.channels c.channels)

-- The state: all of it is read from memory but the threads.
abbrev pub state_of : Core → List ℤ → List Entry → List Thread → State
state_of c ss es ts = record { cells = cells_of c; threads = ts; tracks = tracks_of c ss; channels = channels_of c es; turns = c.turns }

-- Each track's part lies in the samples.
abbrev pub TrackParts : Core → List ℤ → Type 0
TrackParts c ss = (t : ℕ) → t < c.head.tracks → ((get_or c.tracks t nil_port).start + (get_or c.tracks t nil_port).count ≤ length ss) × ((get_or c.tracks t nil_port).count ≤ 2048)

-- Expressions

-- The value of an expression's bytes.
abbrev pub value_at : Core → List ℤ → List ℕ → ℤ
value_at c ss bytes = top (eval (cells_of c) (tracks_of c ss) (decode 0 bytes).ops [])

-- What an operation makes of the working numbers.
abbrev pub made_at : Core → List ℤ → Op → Stack → List ℤ → ℤ
made_at c ss o s w = made (cells_of c) (tracks_of c ss) (op_of o) (slice_index_or w (s.base + (s.held - 2)) (pos 0)) (slice_index_or w (s.base + (s.held - 1)) (pos 0))

-- The level of a variable.
abbrev pub cell_level : Core → ℕ → ℕ
cell_level c x = (get_or (cells_of c) x blank).level

-- The level of a track.
abbrev pub track_level : Core → ℕ → ℕ
track_level c t = slice_index (track_levels_of c) t

-- The level of an expression's bytes.
abbrev pub level_at : Levels → Core → List ℕ → ℕ
level_at k c bytes = joined k (cell_level c) (track_level c) (decode 0 bytes).ops 0

-- The header that a run was made of.
abbrev pub head_of_core : Core → Head
head_of_core c = head_of c.head

-- Open blocks

-- The slot of a thread's first mark.
abbrev pub first_mark : ℕ → ℕ
first_mark i = i * 16

-- The level inside the innermost of d open blocks.
abbrev pub level_inside : List Mark → ℕ → ℕ → ℕ
level_inside ms b d = cond (d == 0) 0 (get_or ms (b + (d - 1)) nil_mark).level

module _ (k : Levels) (table : List Step) (ms : List Mark) where
  -- One block's part of the guard on variable x: its level, if it assigns x in either way.
  abbrev pub guard_one : ℕ → ℕ → ℕ → ℕ
  guard_one x j acc = let mk = get_or ms j nil_mark in cond (has_bit (step_at_place table mk.opener).assigned x) (k.join acc mk.level) acc

  -- The guard on a variable from the first d blocks of a thread, outermost first.
  unfoldable pub guard_marks : ℕ → ℕ → ℕ → ℕ → ℕ
  guard_marks x b zero acc = acc
  guard_marks x b (suc d) acc = guard_one x (b + d) (guard_marks x b d acc)

  -- The guard from the first n threads.
  unfoldable pub guard_threads : ℕ → List Place → ℕ → ℕ
  guard_threads x ps zero = 0
  guard_threads x ps (suc n) = guard_marks x (first_mark n) (get_or ps n nil_place).depth (guard_threads x ps n)

-- Threads

-- The pace of a thread that comes to a frame.
abbrev pub pace_at : Kind → Pace
pace_at Other = Running
pace_at Begin = Running
pace_at End = Finished
pace_at Skip = Running
pace_at Assign = Running
pace_at Put = Running
pace_at If = Running
pace_at Else = Running
pace_at EndIf = Running
pace_at While = Running
pace_at EndWhile = Running
pace_at With = Running
pace_at EndWith = Running

-- The place of a thread that comes to frame p inside d blocks.
abbrev pub arrived : List Step → ℕ → ℕ → Place
arrived table p d = record { at = p; depth = d; pace = pace_at (step_at_place table p).kind }

-- A run with one thread elsewhere.
abbrev pub with_place : Core → ℕ → Place → Core
with_place c i p = record { head = c.head; cells = c.cells; threads = slice_set c.threads i p; tracks = c.tracks; channels = c.channels; turns = c.turns; few = c.few }

-- A run with other cells.
abbrev pub with_cells : Core → List Cell → Core
with_cells c cs = record { head = c.head; cells = cs; threads = c.threads; tracks = c.tracks; channels = c.channels; turns = c.turns; few = c.few }

-- A run with other channels.
abbrev pub with_channels : Core → List Port → Core
with_channels c ps = record { head = c.head; cells = c.cells; threads = c.threads; tracks = c.tracks; channels = ps; turns = c.turns; few = c.few }

-- A cell whose bit the mask has is joined with the level.
abbrev pub raised_cell : Levels → ℕ → ℕ → ℕ → Cell → Cell
raised_cell k mask l x c = cond (has_bit mask x) (record { value = c.value; level = k.join c.level l }) c

-- The first n cells raised.
unfoldable pub raised : Levels → ℕ → ℕ → List Cell → ℕ → List Cell
raised k mask l cs zero = cs
raised k mask l cs (suc n) = let before = raised k mask l cs n in slice_set before n (raised_cell k mask l n (slice_index_or before n nil_cell))

-- One turn

-- What a turn changes: the run, the marks and the entries.
pub record Mem : Type 0 where
  pub core : Core
  pub marks : List Mark
  pub entries : List Entry

-- These three as one.
abbrev pub mem : Core → List Mark → List Entry → Mem
mem c ms es = record { core = c; marks = ms; entries = es }

-- Past the end of a block: its else leads past its end.
abbrev pub beyond : Kind → ℕ → ℕ → ℕ
beyond Other o p = p + 1
beyond Begin o p = p + 1
beyond End o p = p + 1
beyond Skip o p = p + 1
beyond Assign o p = p + 1
beyond Put o p = p + 1
beyond If o p = p + 1
beyond Else o p = o
beyond EndIf o p = p + 1
beyond While o p = p + 1
beyond EndWhile o p = p + 1
beyond With o p = p + 1
beyond EndWith o p = p + 1

-- The step of the innermost open block.
abbrev pub opener_step : List Step → List Mark → ℕ → ℕ → Step
opener_step table ms b d = step_at_place table (get_or ms (b + (d - 1)) nil_mark).opener

module _ (table : List Step) (i : ℕ) where
  -- Thread i comes to frame p inside d blocks.
  abbrev pub arrive_in : Core → ℕ → ℕ → Core
  arrive_in c p d = with_place c i (arrived table p d)

  -- A skip: one frame on.
  abbrev pub skipped : Core → Place → Core
  skipped c p = arrive_in c (p.at + 1) p.depth

  -- The end of a way with n idle turns left: one fewer, or out of the branch.
  abbrev pub closing : ℕ → Core → Place → Step → Core
  closing n c p st = cond (n == 0) (arrive_in c (beyond st.kind st.other p.at) (p.depth - 1)) (with_place c i (record { at = p.at; depth = p.depth; pace = Idling (n - 1) }))

-- An entry, or one more missed.
abbrev pub added_port : Port → Port
added_port q = let room = ltb q.count q.size in record { level = q.level; start = q.start; size = q.size; count = cond room (q.count + 1) q.count; missed = cond room q.missed (q.missed + 1) }

-- The entries with one more, where there is room.
abbrev pub added_entries : Port → Entry → List Entry → List Entry
added_entries q e es = cond (nat_lt q.count q.size) (slice_set es (q.start + q.count) e) es

-- The marks of thread i with one more: the block that the frame at its place opens, and the level inside it.
abbrev pub opened : ℕ → List Mark → Place → ℕ → List Mark
opened i ms p l = slice_set ms (first_mark i + p.depth) (record { opener = p.at; level = l })

-- The level of a branch: the context level joined with the level of its test.
abbrev pub branch_level : Levels → List ℕ → ℕ → Core → List Mark → Place → Step → ℕ
branch_level k code i c ms p st = k.join (level_inside ms (first_mark i) p.depth) (level_at k c (bytes_of code st))

-- What becomes of a put: dropped, a mark or the value, by the levels of the context, the expression and the channel.
abbrev pub put_verdict : Levels → List ℕ → ℕ → Core → List Mark → Place → Step → Verdict
put_verdict k code i c ms p st =
    let to = (get_or c.channels st.number nil_port).level in
    putting (k.flows (level_inside ms (first_mark i) p.depth) to) (k.flows (level_at k c (bytes_of code st)) to)

-- The entry that a verdict leaves: the value, or a mark in its place with value 0.
abbrev pub entry_by : Verdict → List ℕ → List ℤ → ℕ → Core → Step → Entry
entry_by v code ss i c st = record { turn = c.turns + 1; thread = i; mark = (left_by v).mark; value = cond (left_by v).mark (pos 0) (value_at c ss (bytes_of code st)) }

module _ (k : Levels) (code : List ℕ) (ss : List ℤ) (i : ℕ) where
  -- What a put leaves: the value, or a mark where its level may not flow to the channel.
  abbrev pub new_entry : Core → Step → Entry
  new_entry c st =
      let open-to = k.flows (level_at k c (bytes_of code st)) (get_or c.channels st.number nil_port).level in
      record { turn = c.turns + 1; thread = i; mark = not open-to; value = cond open-to (value_at c ss (bytes_of code st)) (pos 0) }

module _ (table : List Step) (code : List ℕ) (ss : List ℤ) (i : ℕ) where
  -- A while: past its end, or into its body.
  abbrev pub looped : Core → Place → Step → Core
  looped c p st = cond (is_zero (value_at c ss (bytes_of code st))) (arrive_in table i c st.other p.depth) (arrive_in table i c (p.at + 1) (p.depth + 1))

module _ (code : List ℕ) (ss : List ℤ) (i : ℕ) where
  -- The marks behind a while: one more if it goes into its body.
  abbrev pub looped_marks : Core → List Mark → Place → Step → List Mark
  looped_marks c ms p st = cond (is_zero (value_at c ss (bytes_of code st))) ms (opened i ms p (level_inside ms (first_mark i) p.depth))

module _ (k : Levels) (table : List Step) (code : List ℕ) (ss : List ℤ) (i : ℕ) where
  -- An assignment: the value, at its level joined with the guard.
  abbrev pub assigned : Core → List Mark → Place → Step → Core
  assigned c ms p st =
      let bytes = bytes_of code st in
      arrive_in table i (with_cells c (slice_set c.cells st.number (record { value = value_at c ss bytes; level = k.join (level_at k c bytes) (guard_threads k table ms st.number c.threads c.head.threads) }))) (p.at + 1) p.depth

  -- A branch: what either way assigns is raised, and one way is taken.
  abbrev pub branched : Core → List Mark → Place → Step → Core
  branched c ms p st =
      arrive_in table i (with_cells c (raised k st.assigned (branch_level k code i c ms p st) c.cells c.head.variables))
      (cond (is_zero (value_at c ss (bytes_of code st))) st.other (p.at + 1)) (p.depth + 1)

  -- A put: nothing, a mark or the value.
  abbrev pub may_put : Core → List Mark → Place → Step → Bool
  may_put c ms p st = k.flows (level_inside ms (first_mark i) p.depth) (get_or c.channels st.number nil_port).level

  -- A put on the run: one entry more or one more missed, where the context level may flow to the channel.
  abbrev pub put_core : Core → List Mark → Place → Step → Core
  put_core c ms p st =
      arrive_in table i (cond (may_put c ms p st) (with_channels c (slice_set c.channels st.number (added_port (slice_index_or c.channels st.number nil_port)))) c) (p.at + 1) p.depth

  -- A put on the entries.
  abbrev pub put_entries : Core → List Mark → Place → Step → List Entry → List Entry
  put_entries c ms p st es = cond (may_put c ms p st) (added_entries (slice_index_or c.channels st.number nil_port) (new_entry k code ss i c st) es) es

  -- One turn by the thread's pace and the kind of its next frame.
  abbrev pub stepped : Pace → Kind → Mem → Place → Step → Mem
  stepped Finished kd x p st = x
  stepped (Idling n) kd x p st = mem (closing table i n x.core p st) x.marks x.entries
  stepped Running Other x p st = x
  stepped Running Begin x p st = x
  stepped Running End x p st = x
  stepped Running Skip x p st = mem (skipped table i x.core p) x.marks x.entries
  stepped Running Assign x p st = mem (assigned x.core x.marks p st) x.marks x.entries
  stepped Running Put x p st = mem (put_core x.core x.marks p st) x.marks (put_entries x.core x.marks p st x.entries)
  stepped Running If x p st = mem (branched x.core x.marks p st) (opened i x.marks p (branch_level k code i x.core x.marks p st)) x.entries
  stepped Running Else x p st = mem (closing table i (opener_step table x.marks (first_mark i) p.depth).first x.core p st) x.marks x.entries
  stepped Running EndIf x p st = mem (closing table i (opener_step table x.marks (first_mark i) p.depth).second x.core p st) x.marks x.entries
  stepped Running While x p st = mem (looped table code ss i x.core p st) (looped_marks code ss i x.core x.marks p st) x.entries
  stepped Running EndWhile x p st = mem (arrive_in table i x.core (get_or x.marks (first_mark i + (p.depth - 1)) nil_mark).opener (p.depth - 1)) x.marks x.entries
  stepped Running With x p st = mem (arrive_in table i x.core (p.at + 1) (p.depth + 1)) (opened i x.marks p (level_inside x.marks (first_mark i) p.depth)) x.entries
  stepped Running EndWith x p st = mem (arrive_in table i x.core (p.at + 1) (p.depth - 1)) x.marks x.entries

  -- One turn of the thread: by its own state and its next frame.
  abbrev pub after_turn : Mem → Mem
  after_turn x = let p = get_or x.core.threads i nil_place in let st = step_at_place table p.at in stepped p.pace st.kind x p st

-- Thread i at its turn.
abbrev pub turn_at : Core → List Step → (i : ℕ) → i < 8 → Turn
turn_at c table i few = let p = get_or c.threads i nil_place in record { thread = i; place = p; step = step_at_place table p.at; few = few }

-- What the memory must be for a turn to be safe

-- A step's expression lies in the code and is sound.
pub record SoundStep (c : Core) (code : List ℕ) (st : Step) : Type 0 where
  pub good : Good (head_of_core c) (bytes_of code st)
  pub ordered : st.start ≤ st.stop
  pub within : st.stop ≤ length code

-- What a turn at a frame of each kind needs.
abbrev pub FitAt : Kind → Core → List Step → List ℕ → Place → Step → Type 0
FitAt Other c table code p st = Unit {0}
FitAt Begin c table code p st = Unit {0}
FitAt End c table code p st = Unit {0}
FitAt Skip c table code p st = p.at + 1 < length table
FitAt Assign c table code p st = (p.at + 1 < length table) × (st.number < c.head.variables) × SoundStep c code st
FitAt Put c table code p st = (p.at + 1 < length table) × (st.number < c.head.channels) × SoundStep c code st
FitAt If c table code p st = (p.at + 1 < length table) × (st.other < length table) × (p.depth < 16) × SoundStep c code st
FitAt Else c table code p st = (st.other < length table) × (0 < p.depth)
FitAt EndIf c table code p st = (p.at + 1 < length table) × (0 < p.depth)
FitAt While c table code p st = (p.at + 1 < length table) × (st.other < length table) × (p.depth < 16) × SoundStep c code st
FitAt EndWhile c table code p st = 0 < p.depth
FitAt With c table code p st = (p.at + 1 < length table) × (p.depth < 16) × SoundStep c code st
FitAt EndWith c table code p st = (p.at + 1 < length table) × (0 < p.depth)

-- A thread that is idle stands at the end of a way.
abbrev pub FitNow : Pace → Kind → Core → List Step → List ℕ → Place → Step → Type 0
FitNow Finished kd c table code p st = Unit {0}
FitNow (Idling n) kd c table code p st = (0 < p.depth) × (beyond kd st.other p.at < length table)
FitNow Running kd c table code p st = FitAt kd c table code p st

-- A channel's part lies in the entries.
pub record Part (q : Port) (turns : ℕ) (es : List Entry) : Type 0 where
  pub part : q.start + q.size ≤ length es
  pub held : q.count ≤ q.size
  pub missed : q.missed ≤ turns

-- All threads stand in the table, and so do the blocks that they are inside.
pub record Sized (c : Core) (table : List Step) (ms : List Mark) : Type 0 where
  pub turns : c.turns ≤ 1000000
  pub short : length table ≤ 512
  pub room : 128 ≤ length ms
  pub deep : (j : ℕ) → j < c.head.threads → (get_or c.threads j nil_place).depth ≤ 16
  pub placed : (j : ℕ) → j < c.head.threads → (get_or c.threads j nil_place).at < length table
  pub openers : (j d : ℕ) → j < c.head.threads → d < (get_or c.threads j nil_place).depth → (get_or ms (first_mark j + d) nil_mark).opener < length table

-- Each channel's part lies in the entries.
abbrev pub Parts : Core → List Entry → Type 0
Parts c es = (h : ℕ) → h < c.head.channels → Part (slice_index_or c.channels h nil_port) c.turns es

-- What a turn of thread i needs.
pub record Fit (c : Core) (table : List Step) (code : List ℕ) (ms : List Mark) (es : List Entry) (i : ℕ) : Type 0 where
  pub sized : Sized c table ms
  pub parts : Parts c es
  pub thread : i < c.head.threads
  pub here : (let p = get_or c.threads i nil_place in let st = step_at_place table p.at in FitNow p.pace st.kind c table code p st)
