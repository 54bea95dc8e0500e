-- Shortcuts that leak. Each changes one rule of the machine and leaves all else to it; then a small script tells on its open channel what was fed to
-- its closed track, which the machine itself does not.
use Rattle.std.specs.Prelude.{◌≡◌, ℕ, Bool, false, cond, not, ◌||◌, ◌≢◌, List, [], ◌∷◌, map, length, ℤ, pos, slice_index_or}
use Rattle.std.proofs.Math.Option.{none, some}
use Rattle.std.specs.List.{AllByRecursion}
use Rattle.lattice.specs.Orders.{two_point}
use Rattle.codec.specs.Expressions.Op.{variable, held}
use Rattle.script.specs.Code.{Code, Script}
use Rattle.script.specs.Code.Code.{done, skip, assign, put, branch, loop, lock}
use Rattle.script.specs.Trees.{Valid, head_of}
use Rattle.model.specs.Stretches.{assigns}
use Rattle.model.specs.Values.{is_zero}
use Rattle.model.specs.Threads.{Open, Pace, Thread, ended, context}
use Rattle.model.specs.Threads.Open.{in_branch, in_loop, in_lock}
use Rattle.model.specs.Threads.Pace.{running, idling}
use Rattle.scheduler.specs.Turns.{Meaning, Rests}
use Rattle.scheduler.specs.Schedulers.{pick_list}
use Rattle.model.specs.Machine.{Entry, unused, State, set_thread, set_cells, set_track, level_of, value_of, status, raise, close_branch, step_at, step, Rules, rules, advance}
use Rattle.model.specs.Calls.{begin}
use Rattle.model.specs.Secrecy.{Secret}
use Rattle.model.specs.Small.{small, secret, one}

-- First shortcut: an if raises only what its taken way assigns

-- The machine's turn, but that an if raises less.
abbrev pub raise_taken : Script → State → ℕ → Code → Pace → List Open → State
raise_taken sc s i c (idling n) os = step_at two_point sc s i c (idling n) os
raise_taken sc s i done running os = step_at two_point sc s i done running os
raise_taken sc s i (skip c) running os = step_at two_point sc s i (skip c) running os
raise_taken sc s i (assign x e c) running os = step_at two_point sc s i (assign x e c) running os
raise_taken sc s i (put h e c) running os = step_at two_point sc s i (put h e c) running os
raise_taken sc s i (branch e p q c) running os =
    let taken = cond (not (is_zero (value_of two_point sc s e))) p q in
    set_cells (step_at two_point sc s i (branch e p q c) running os) (raise two_point (λ x. assigns x taken) (two_point.join (context os) (level_of two_point sc s e)) 0 s.cells)
raise_taken sc s i (loop e b c) running os = step_at two_point sc s i (loop e b c) running os
raise_taken sc s i (lock m e b c) running os = step_at two_point sc s i (lock m e b c) running os

-- The changed rules.
abbrev pub raising_less : Script → Rules
raising_less sc = record { stands = status two_point sc; does = λ s i. let t = slice_index_or s.threads i ended in raise_taken sc s i t.code t.pace t.inside }

-- One way assigns the variable, and behind the if it is put.
abbrev pub told_by_level : Script
told_by_level = small (branch secret (assign 0 one done) (skip done) (put 0 (variable 0 ∷ []) done) ∷ [])

-- Second shortcut: an if reserves only the locks of its taken way

-- Open blocks in which the way not taken is forgotten.
abbrev pub taken_only : List Open → List Open
taken_only [] = []
taken_only (in_branch l w p q next ∷ os) = in_branch l w (cond w p done) (cond w done q) next ∷ taken_only os
taken_only (in_loop e b next ∷ os) = in_loop e b next ∷ taken_only os
taken_only (in_lock m next ∷ os) = in_lock m next ∷ taken_only os

-- A state whose open blocks are so.
abbrev pub forget : State → State
forget s = record {
  cells = s.cells;
  threads = map (λ (t : Thread). record { code = t.code; pace = t.pace; inside = taken_only t.inside }) s.threads;
  tracks = s.tracks;
  channels = s.channels;
  turns = s.turns;
}

-- Threads stand as if each entered if had only the way that it took.
abbrev pub reserving_less : Script → Rules
reserving_less sc = record { stands = λ s i. status two_point sc (forget s) i; does = step two_point sc }

-- One way needs the lock and the other does not; a second thread puts inside the lock.
abbrev pub told_by_lock : Script
told_by_lock = small (branch secret (lock 1 one (skip done) done) (skip (skip (skip done))) done ∷ lock 1 one (put 0 one done) done ∷ [])

-- Third shortcut: an if closes when its short way is through

-- The machine's turn, but that the end of a way closes its if at once.
abbrev pub close_at_once : Script → State → ℕ → Code → Pace → List Open → State
close_at_once sc s i c (idling n) os = step_at two_point sc s i c (idling n) os
close_at_once sc s i done running [] = step_at two_point sc s i done running []
close_at_once sc s i done running (in_branch l w p q next ∷ os) = set_thread s i (close_branch 0 (in_branch l w p q next) os next)
close_at_once sc s i done running (in_loop e b next ∷ os) = step_at two_point sc s i done running (in_loop e b next ∷ os)
close_at_once sc s i done running (in_lock m next ∷ os) = step_at two_point sc s i done running (in_lock m next ∷ os)
close_at_once sc s i (skip c) running os = step_at two_point sc s i (skip c) running os
close_at_once sc s i (assign x e c) running os = step_at two_point sc s i (assign x e c) running os
close_at_once sc s i (put h e c) running os = step_at two_point sc s i (put h e c) running os
close_at_once sc s i (branch e p q c) running os = step_at two_point sc s i (branch e p q c) running os
close_at_once sc s i (loop e b c) running os = step_at two_point sc s i (loop e b c) running os
close_at_once sc s i (lock m e b c) running os = step_at two_point sc s i (lock m e b c) running os

-- The changed rules.
abbrev pub closing_early : Script → Rules
closing_early sc = record { stands = status two_point sc; does = λ s i. let t = slice_index_or s.threads i ended in close_at_once sc s i t.code t.pace t.inside }

-- One way lasts two turns and the other none; behind the if something is put.
abbrev pub told_by_turn : Script
told_by_turn = small (branch secret (skip (skip done)) done (put 0 one done) ∷ [])

-- That they leak

-- What the open channel shows under some rules after these picks, where the closed track was fed z.
abbrev pub shows : Rules → Script → List ℕ → ℤ → List Entry
shows r sc picks z = (slice_index_or (advance r pick_list (length picks) (set_track (begin sc) 0 (z ∷ [])) picks).1.channels 0 unused).entries

-- Of a script with valid code: under the changed rules the open channel tells whether 0 or 1 was fed; under the machine's own it does not.
pub record Leaks (sc : Script) (changed : Rules) (picks : List ℕ) : Type 0 where
  pub valid : AllByRecursion (Valid (head_of sc) 0) sc.codes
  pub tells : shows changed sc picks (pos 0) ≢ shows changed sc picks (pos 1)
  pub tells_not : shows (rules two_point sc) sc picks (pos 0) ≡ shows (rules two_point sc) sc picks (pos 1)

-- Whether any of these is true.
abbrev pub any_true : List Bool → Bool
any_true [] = false
any_true (b ∷ bs) = b || any_true bs

-- A scheduler that names thread 0, ready or not, wherever some thread is ready.
abbrev pub stubborn : Meaning (Unit {0})
stubborn g rs = (cond (any_true rs) (some 0) none, g)

-- A while on how many samples the closed track holds, and then a put: the machine bars it, and this scheduler goes on regardless. Another thread is ready.
abbrev pub told_by_loop : Script
told_by_loop = small (loop (held 0 ∷ []) (skip done) (put 0 one done) ∷ skip done ∷ [])

-- Each shortcut leaks.
pub record ShortcutsLeak : Type 0 where
  pub raising : Leaks told_by_level (raising_less told_by_level) (0 ∷ 0 ∷ 0 ∷ 0 ∷ [])
  pub reserving : Leaks told_by_lock (reserving_less told_by_lock) (0 ∷ 1 ∷ 1 ∷ [])
  pub closing : Leaks told_by_turn (closing_early told_by_turn) (0 ∷ 0 ∷ 0 ∷ 0 ∷ 0 ∷ [])
  -- And the scheduler's law is needed: secrecy is false of one that does not keep it, though it rests where no thread is ready.
  pub resting : Rests stubborn
  pub obeying : Secret two_point told_by_loop stubborn → ⊥
