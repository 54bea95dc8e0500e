-- The machine: its state, how each thread stands, what one turn does, and turns on end.
use Rattle.std.specs.Prelude.{ℕ, zero, suc, ◌-◌, Bool, true, false, cond, not, ◌&&◌, ◌||◌, List, [], ◌∷◌, ◌++◌, length, ℤ, pos, ◌==◌, bit_or, nat_lt, slice_index, slice_index_or, slice_set}
use Rattle.std.proofs.Math.Option.{Option, none, some}
use Rattle.lattice.specs.Levels.{Levels}
use Rattle.codec.specs.Expressions.{Expr}
use Rattle.script.specs.Code.{Code, Script}
use Rattle.script.specs.Code.Code.{done, skip, assign, put, branch, loop, lock}
use Rattle.model.specs.Levels.{is_open}
use Rattle.model.specs.Stretches.{fixed_time, duration, assigns, needs}
use Rattle.model.specs.Values.{Cell, blank, is_zero, top, eval, joined}
use Rattle.model.specs.Threads.{Open, Pace, Thread, ended, context, guard, against, clash, at_code, at_idle}
use Rattle.model.specs.Threads.Open.{in_branch, in_loop, in_lock}
use Rattle.model.specs.Threads.Pace.{running, idling}
use Rattle.scheduler.specs.Turns.{Meaning}

-- The state

-- What a put leaves on a channel: the turn (from 1), the thread, and the value, or a mark in its place with value 0.
pub record Entry : Type 0 where
  pub turn : ℕ
  pub thread : ℕ
  pub mark : Bool
  pub value : ℤ

-- A channel: its entries so far, and how many it missed because it was full.
pub record Channel : Type 0 where
  pub entries : List Entry
  pub missed : ℕ

-- A channel before any put.
abbrev pub unused : Channel
unused = record { entries = []; missed = 0 }

-- A run: variables, threads, the samples fed to each track, channels, and the turns given.
pub record State : Type 0 where
  pub cells : List Cell
  pub threads : List Thread
  pub tracks : List (List ℤ)
  pub channels : List Channel
  pub turns : ℕ

-- A state with one thread changed.
abbrev pub set_thread : State → ℕ → Thread → State
set_thread s i t = record { cells = s.cells; threads = slice_set s.threads i t; tracks = s.tracks; channels = s.channels; turns = s.turns }

-- A state with one variable changed.
abbrev pub set_cell : State → ℕ → Cell → State
set_cell s x c = record { cells = slice_set s.cells x c; threads = s.threads; tracks = s.tracks; channels = s.channels; turns = s.turns }

-- A state with all variables changed.
abbrev pub set_cells : State → List Cell → State
set_cells s cs = record { cells = cs; threads = s.threads; tracks = s.tracks; channels = s.channels; turns = s.turns }

-- A state with one track changed.
abbrev pub set_track : State → ℕ → List ℤ → State
set_track s t zs = record { cells = s.cells; threads = s.threads; tracks = slice_set s.tracks t zs; channels = s.channels; turns = s.turns }

-- A state with one channel changed.
abbrev pub set_channel : State → ℕ → Channel → State
set_channel s h ch = record { cells = s.cells; threads = s.threads; tracks = s.tracks; channels = slice_set s.channels h ch; turns = s.turns }

-- The same with one more turn given.
abbrev pub one_more : State → State
one_more s = record { cells = s.cells; threads = s.threads; tracks = s.tracks; channels = s.channels; turns = suc s.turns }

-- How a thread stands

-- Ready for a turn; finished; waiting for a lock or a condition; barred, because going on would tell.
pub data Status : Type 0 where
  ready finished waiting barred : Status

-- The number by which a status is told.
abbrev pub status_number : Status → ℕ
status_number ready = 0
status_number finished = 1
status_number waiting = 2
status_number barred = 3

-- Whether a thread that stands so is ready.
abbrev pub status_is_ready : Status → Bool
status_is_ready ready = true
status_is_ready finished = false
status_is_ready waiting = false
status_is_ready barred = false

-- Whether it is finished.
abbrev pub status_is_finished : Status → Bool
status_is_finished ready = false
status_is_finished finished = true
status_is_finished waiting = false
status_is_finished barred = false

-- Whether it is barred.
abbrev pub is_barred : Status → Bool
is_barred ready = false
is_barred finished = false
is_barred waiting = false
is_barred barred = true

-- Barred is looked at first, then waiting.
abbrev pub chosen_status : Bool → Bool → Status
chosen_status true w = barred
chosen_status false true = waiting
chosen_status false false = ready

module _ (k : Levels) (sc : Script) where
  -- The level of an expression now: the join, from open on, of the levels of its variables and tracks.
  abbrev pub level_of : State → Expr → ℕ
  level_of s e = joined k (λ x. (slice_index_or s.cells x blank).level) (λ t. slice_index sc.track_levels t) e 0

  -- The value of an expression now.
  abbrev pub value_of : State → Expr → ℤ
  value_of s e = top (eval s.cells s.tracks e [])

  -- How thread i stands at its code, pace and open blocks. A branch that would not be open is barred unless it takes a fixed time,
  -- and waits where it is about to reserve a lock that it may not have. A loop or lock whose expression is not open is barred.
  -- In an open context a lock waits while its value is 0 or one of its locks is another's or reserved.
  abbrev pub status_at : State → ℕ → Code → Pace → List Open → Status
  status_at s i c (idling n) os = ready
  status_at s i done running [] = finished
  status_at s i done running (o ∷ os) = ready
  status_at s i (skip c) running os = ready
  status_at s i (assign x e c) running os = ready
  status_at s i (put h e c) running os = ready
  status_at s i (branch e p q c) running os =
      let l = k.join (context os) (level_of s e) in
      chosen_status (not (fixed_time p && fixed_time q) && not (is_open l))
      ((is_open (context os) && not (is_open l)) && clash (bit_or (needs p) (needs q)) (against i s.threads))
  status_at s i (loop e b c) running os = chosen_status (not (is_open (level_of s e))) false
  status_at s i (lock m e b c) running os =
      chosen_status (not (is_open (level_of s e)))
      (is_open (context os) && (is_zero (value_of s e) || clash m (against i s.threads)))

  -- How thread i stands.
  abbrev pub status : State → ℕ → Status
  status s i = let t = slice_index_or s.threads i ended in status_at s i t.code t.pace t.inside

-- What a turn does

-- Cell by cell from x on: each variable that is marked has its level joined with l.
abbrev pub raise : Levels → (ℕ → Bool) → ℕ → ℕ → List Cell → List Cell
raise k marked l x [] = []
raise k marked l x (c ∷ cs) = cond (marked x) (record { value = c.value; level = k.join c.level l }) c ∷ raise k marked l (suc x) cs

-- One more entry, or one more missed where the channel is full.
abbrev pub add_entry : ℕ → Entry → Channel → Channel
add_entry size e ch = cond (nat_lt (length ch.entries) size) (record { entries = ch.entries ++ (e ∷ []); missed = ch.missed }) (record { entries = ch.entries; missed = suc ch.missed })

-- How much longer the way that was not taken lasts: the idle turns at the end of the taken one. None where the ways take no fixed time.
abbrev pub lag : Bool → Code → Code → ℕ
lag w p q = cond (fixed_time p && fixed_time q) (cond w (duration q - duration p) (duration p - duration q)) 0

-- The end of a way of a branch: the idle turns that are left, then one turn that closes it.
abbrev pub close_branch : ℕ → Open → List Open → Code → Thread
close_branch zero o os n = at_code n os
close_branch (suc left) o os n = at_idle left (o ∷ os)

module _ (k : Levels) (sc : Script) where
  -- What a put does: nothing if the context level may not flow to the channel's, a mark if the expression's may not, and else the value.
  unfoldable pub do_put : State → ℕ → ℕ → Expr → List Open → State
  do_put s i h e os =
      let to = slice_index_or sc.channel_levels h 0 in
      let ch = slice_index_or s.channels h unused in
      let open-to = k.flows (level_of k sc s e) to in
      cond (k.flows (context os) to)
      (set_channel s h (add_entry (slice_index sc.channel_sizes h) (record { turn = suc s.turns; thread = i; mark = not open-to; value = cond open-to (value_of k sc s e) (pos 0) }) ch))
      s

  -- One turn of thread i at its code, pace and open blocks.
  unfoldable pub step_at : State → ℕ → Code → Pace → List Open → State
  step_at s i c (idling n) [] = s
  step_at s i c (idling n) (in_branch l w p q next ∷ os) = set_thread s i (close_branch n (in_branch l w p q next) os next)
  step_at s i c (idling n) (in_loop e b next ∷ os) = s
  step_at s i c (idling n) (in_lock m next ∷ os) = s
  step_at s i done running [] = s
  step_at s i done running (in_branch l w p q next ∷ os) = set_thread s i (close_branch (lag w p q) (in_branch l w p q next) os next)
  step_at s i done running (in_loop e b next ∷ os) = set_thread s i (at_code (loop e b next) os)
  step_at s i done running (in_lock m next ∷ os) = set_thread s i (at_code next os)
  step_at s i (skip c) running os = set_thread s i (at_code c os)
  step_at s i (assign x e c) running os =
      set_thread (set_cell s x (record { value = value_of k sc s e; level = k.join (level_of k sc s e) (guard k x s.threads 0) })) i (at_code c os)
  step_at s i (put h e c) running os = set_thread (do_put s i h e os) i (at_code c os)
  step_at s i (branch e p q c) running os =
      let l = k.join (context os) (level_of k sc s e) in
      let w = not (is_zero (value_of k sc s e)) in
      set_thread (set_cells s (raise k (λ x. assigns x p || assigns x q) l 0 s.cells)) i (at_code (cond w p q) (in_branch l w p q c ∷ os))
  step_at s i (loop e b c) running os =
      set_thread s i (cond (is_zero (value_of k sc s e)) (at_code c os) (at_code b (in_loop e b c ∷ os)))
  step_at s i (lock m e b c) running os = set_thread s i (at_code b (in_lock m c ∷ os))

  -- One turn of thread i.
  abbrev pub step : State → ℕ → State
  step s i = let t = slice_index_or s.threads i ended in step_at s i t.code t.pace t.inside

-- Turns on end

-- What turns go by: how each thread stands, and what a turn of it does.
pub record Rules : Type 0 where
  pub stands : State → ℕ → Status
  pub does : State → ℕ → State

-- The machine's own rules.
abbrev pub rules : Levels → Script → Rules
rules k sc = record { stands = status k sc; does = step k sc }

-- Of each thread from number i on, whether f holds of its number.
abbrev pub each_from : (ℕ → Bool) → ℕ → List Thread → List Bool
each_from f i [] = []
each_from f i (t ∷ ts) = f i ∷ each_from f (suc i) ts

-- Whether every one of these is true.
abbrev pub all_true : List Bool → Bool
all_true [] = true
all_true (b ∷ bs) = b && all_true bs

module _ (r : Rules) where
  -- The set of ready threads, as a scheduler is told it.
  abbrev pub ready_set : State → List Bool
  ready_set s = each_from (λ i. status_is_ready (r.stands s i)) 0 s.threads

  -- Whether every thread is finished.
  abbrev pub all_finished : State → Bool
  all_finished s = all_true (each_from (λ i. status_is_finished (r.stands s i)) 0 s.threads)

  -- What a scheduler's answer does: a rest, or a turn of the thread that it names.
  abbrev pub take_turn : State → Option ℕ → State
  take_turn s none = one_more s
  take_turn s (some i) = one_more (r.does s i)

-- The turns that a run may have in all.
abbrev pub most_turns : ℕ
most_turns = 1000000

module _ (r : Rules) {S : Type 0} (schedule : Meaning S) where
  -- Up to n turns, and how many were given: it stops when every thread is finished, and at the last turn that a run may have.
  abbrev pub advance : ℕ → State → S → ℕ × State × S
  advance zero s g = (0, s, g)
  advance (suc n) s g =
      let told = schedule g (ready_set r s) in
      let later = advance n (take_turn r s told.0) told.1 in
      cond (all_finished r s || s.turns == most_turns) (0, s, g) (suc later.0, later.1, later.2)
