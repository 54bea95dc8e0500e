-- Under two levels every turn of the machine is a transition of the published automaton, and the two agree on who may go on, but for the departures.
use Rattle.std.specs.Prelude.{◌≡◌, ℕ, zero, suc, ◌+◌, ◌<◌, Bool, true, false, cond, not, ◌&&◌, ◌||◌, T, ◌⊎◌, List, [], ◌∷◌, ◌++◌, get_or, ℤ, pos, bit_or, slice_index, slice_index_or}
use Rattle.std.proofs.Math.Option.{none, some}
use Rattle.model.specs.Levels.{is_open}
use Rattle.codec.specs.Expressions.{Expr}
use Rattle.script.specs.Code.{Code, Script}
use Rattle.model.specs.Stretches.{assigns, fixed_time}
use Rattle.script.specs.Code.Code.{done, skip, assign, put, branch, loop, lock}
use Rattle.model.specs.Values.{blank, is_zero}
use Rattle.model.specs.Threads.{Open, Pace, Thread, ended, context, owned, reserved, at_code}
use Rattle.model.specs.Machine.{unused, State, Status, value_of, status_at, status, status_is_ready, lag, add_entry, set_thread, set_channel, step_at, take_turn, set_track, rules}
use Rattle.model.specs.Threads.Open.{in_branch, in_loop, in_lock}
use Rattle.model.specs.Threads.Pace.{running, idling}
use Rattle.model.specs.Machine.Status.{ready, finished, waiting, barred}
use Rattle.model.specs.Calls.{begin}
use Rattle.model.specs.Automaton.{Q, Pool, Input, Output, apart, without, all_bottom, and_then, carries, react, extract, update}
use Rattle.model.specs.Automaton.Input.{at_branch, at_merge, at_sync, at_skip, at_assign, at_output}
use Rattle.model.specs.Automaton.Output.{ok, no, default}
use Rattle.lattice.specs.Orders.{two_point}

-- The automaton's state, read off the machine's

-- A closed branch in an open context: the outermost closed one of its thread.
abbrev pub outermost : ℕ → List Open → Bool
outermost l os = is_open (context os) && not (is_open l)

-- How many outermost closed branches assign x.
abbrev pub counted : ℕ → List Open → ℕ
counted x [] = 0
counted x (in_branch l w p q n ∷ os) = cond (outermost l os && (assigns x p || assigns x q)) (suc (counted x os)) (counted x os)
counted x (in_loop e b n ∷ os) = counted x os
counted x (in_lock m n ∷ os) = counted x os

-- How many do in all threads.
abbrev pub assigning : ℕ → List Thread → ℕ
assigning x [] = 0
assigning x (t ∷ ts) = counted x t.inside + assigning x ts

-- The locks that any thread reserves.
abbrev pub all_reserved : List Thread → ℕ
all_reserved [] = 0
all_reserved (t ∷ ts) = bit_or (reserved t.inside) (all_reserved ts)

-- The branching context: ⊤ for the outermost closed branch, ⊥ for any other branch and for a turn of a loop.
abbrev pub word : List Open → List Bool
word [] = []
word (in_branch l w p q n ∷ os) = outermost l os ∷ word os
word (in_loop e b n ∷ os) = false ∷ word os
word (in_lock m n ∷ os) = word os

-- The automaton's state that the machine's state stands for.
abbrev pub pool : Script → State → Pool
pool sc s = record {
  V = λ x. not (is_open (get_or s.cells x blank).level);
  secret = λ t. not (is_open (slice_index sc.track_levels t));
  W = λ x. assigning x s.threads;
  L = all_reserved s.threads;
  w = λ i. word (get_or s.threads i ended).inside;
}

-- The start state: the secret inputs, and nothing else.
abbrev pub first : Script → Pool
first sc = record { V = λ x. false; secret = λ t. not (is_open (slice_index sc.track_levels t)); W = λ x. 0; L = 0; w = λ i. [] }

-- Two states of the automaton of a program with n variables are the same.
pub record Same (n : ℕ) (a b : Pool) : Type 0 where
  pub V : (x : ℕ) → x < n → a.V x ≡ b.V x
  pub secret : (t : ℕ) → a.secret t ≡ b.secret t
  pub W : (x : ℕ) → a.W x ≡ b.W x
  pub L : a.L ≡ b.L
  pub w : (i : ℕ) → a.w i ≡ b.w i

-- The locks that any thread owns.
abbrev pub owned_by : List Thread → ℕ
owned_by [] = 0
owned_by (t ∷ ts) = bit_or (owned t.inside) (owned_by ts)

-- The locks that are owned, as thread i's statement sees them: the published semantics takes out those of each with that it is inside.
abbrev pub others : ℕ → List Thread → ℕ
others i ts = without (owned_by ts) (owned (get_or ts i ended).inside)

-- The states that turns of ready threads, rests and feeds lead to.
pub data Reached (sc : Script) : State → Type 0 where
  start : Reached sc (begin sc)
  turn : {s : State} (i : ℕ) → Reached sc s → T (status_is_ready (status two_point sc s i)) → Reached sc (take_turn (rules two_point sc) s (some i))
  rest : {s : State} → Reached sc s → Reached sc (take_turn (rules two_point sc) s none)
  fed : {s : State} (t : ℕ) (z : ℤ) → Reached sc s → Reached sc (set_track s t (slice_index_or s.tracks t [] ++ (z ∷ [])))

-- Channel h is open.
abbrev pub on_open : Script → ℕ → Bool
on_open sc h = is_open (slice_index sc.channel_levels h)

-- What a put enters on the automaton's answer: the value, nothing, or a mark for the default value.
abbrev pub entered : Script → State → ℕ → ℕ → Expr → Output → State
entered sc s i h e ok = set_channel s h (add_entry (slice_index sc.channel_sizes h) (record { turn = suc s.turns; thread = i; mark = false; value = value_of two_point sc s e }) (slice_index_or s.channels h unused))
entered sc s i h e no = s
entered sc s i h e default = set_channel s h (add_entry (slice_index sc.channel_sizes h) (record { turn = suc s.turns; thread = i; mark = true; value = pos 0 }) (slice_index_or s.channels h unused))

module _ (sc : Script) (s : State) (i : ℕ) where
  -- Thread i's automaton, as the machine's state has it.
  abbrev pub asked : Q
  asked = extract (pool sc s) i

  -- The automaton answers o, and moves as the machine does.
  pub record Does (input : Input) (o : Output) (then : State) : Type 0 where
    pub next : Q
    pub answer : react asked input ≡ some (o, next)
    pub moves : Same sc.variables (pool sc then) (update (pool sc s) i next)

  -- A turn of which the automaton is not told.
  abbrev pub Untold : State → Type 0
  Untold then = Same sc.variables (pool sc then) (pool sc s)

  -- The end of a branch: idle turns, then the merge.
  abbrev pub Ends : Code → Code → ℕ → State → Type 0
  Ends pe pu zero then = Does (at_merge pe pu) ok then
  Ends pe pu (suc left) then = Untold then

  -- A put: the machine enters what the automaton answers.
  pub record Puts (h : ℕ) (e : Expr) (after : Thread) (then : State) : Type 0 where
    pub says : Output
    pub does : Does (at_output e) says then
    pub enters : then ≡ set_thread (entered sc s i h e says) i after

  -- A put on an open channel enters what the automaton answers. One on a closed channel, which the automaton does not have, leaves its state alone.
  abbrev pub PutsTo : Bool → ℕ → Expr → Thread → State → Type 0
  PutsTo true h e after then = Puts h e after then
  PutsTo false h e after then = Untold then

  -- The beginning of a branch. The departure: a closed one that takes no fixed time is barred. Any other is ready and answered OK, or waits and is held back.
  abbrev pub Begins : Bool → Input → Status → State → Type 0
  Begins true input now then = now ≡ barred
  Begins false input now then = ((now ≡ ready) × Does input ok then) ⊎ ((now ≡ waiting) × (react asked input ≡ none))

  -- A test of a loop, by whether its condition is false. If it is, the branch and its merge are one turn.
  abbrev pub Tests : Bool → Expr → Code → State → Type 0
  Tests false e b then = Does (at_branch (others i s.threads) e (and_then b (loop e b done)) done) ok then
  Tests true e b then =
      (q : Q) × (react asked (at_branch (others i s.threads) e done (and_then b (loop e b done))) ≡ some (ok, q))
      × (r : Q) × (react q (at_merge done (and_then b (loop e b done))) ≡ some (ok, r))
      × Same sc.variables (pool sc then) (update (pool sc s) i r)

  -- The departure: a closed loop is barred.
  abbrev pub Loops : Bool → Expr → Code → Status → State → Type 0
  Loops true e b now then = now ≡ barred
  Loops false e b now then = (now ≡ ready) × Tests (is_zero (value_of two_point sc s e)) e b then

  -- A with is ready exactly if the automaton answers OK, its value is true and no other thread owns its locks.
  pub record Syncs (m : ℕ) (e : Expr) (now : Status) (then : State) : Type 0 where
    pub allows : now ≡ ready → Does (at_sync m e) ok then × (is_zero (value_of two_point sc s e) ≡ false) × T (apart m (others i s.threads))
    pub allowed : (next : Q) → react asked (at_sync m e) ≡ some (ok, next) → is_zero (value_of two_point sc s e) ≡ false → T (apart m (others i s.threads)) → now ≡ ready

  -- The machine and the automaton agree on a thread's next turn, by its code, pace and blocks.
  abbrev pub Agrees : Code → Pace → List Open → Type 0
  Agrees c (idling n) [] = Untold (step_at two_point sc s i c (idling n) [])
  Agrees c (idling n) (in_branch l way p q next ∷ os) = Ends (cond way p q) (cond way q p) n (step_at two_point sc s i c (idling n) (in_branch l way p q next ∷ os))
  Agrees c (idling n) (in_loop e b next ∷ os) = Untold (step_at two_point sc s i c (idling n) (in_loop e b next ∷ os))
  Agrees c (idling n) (in_lock m next ∷ os) = Untold (step_at two_point sc s i c (idling n) (in_lock m next ∷ os))
  Agrees done running [] = status_at two_point sc s i done running [] ≡ finished
  Agrees done running (in_branch l way p q next ∷ os) = Ends (cond way p q) (cond way q p) (lag way p q) (step_at two_point sc s i done running (in_branch l way p q next ∷ os))
  Agrees done running (in_loop e b next ∷ os) = Does (at_merge (and_then b (loop e b done)) done) ok (step_at two_point sc s i done running (in_loop e b next ∷ os))
  Agrees done running (in_lock m next ∷ os) = Untold (step_at two_point sc s i done running (in_lock m next ∷ os))
  Agrees (skip c) running os = Does at_skip ok (step_at two_point sc s i (skip c) running os)
  Agrees (assign x e c) running os = Does (at_assign x e) ok (step_at two_point sc s i (assign x e c) running os)
  Agrees (put h e c) running os = PutsTo (on_open sc h) h e (at_code c os) (step_at two_point sc s i (put h e c) running os)
  Agrees (branch e p q c) running os =
      let way = not (is_zero (value_of two_point sc s e)) in
      Begins (not (fixed_time p && fixed_time q) && (carries asked e || not (all_bottom asked.w))) (at_branch (others i s.threads) e (cond way p q) (cond way q p))
      (status_at two_point sc s i (branch e p q c) running os) (step_at two_point sc s i (branch e p q c) running os)
  Agrees (loop e b c) running os = Loops (carries asked e) e b (status_at two_point sc s i (loop e b c) running os) (step_at two_point sc s i (loop e b c) running os)
  Agrees (lock m e b c) running os = Syncs m e (status_at two_point sc s i (lock m e b c) running os) (step_at two_point sc s i (lock m e b c) running os)

-- Every script begins as the automaton does, and every thread of every state that it reaches agrees with it.
abbrev pub Follows : Type 0
Follows =
    (sc : Script) →
    Same sc.variables (pool sc (begin sc)) (first sc) ×
    ((s : State) → Reached sc s → (i : ℕ) → let t = get_or s.threads i ended in Agrees sc s i t.code t.pace t.inside)
