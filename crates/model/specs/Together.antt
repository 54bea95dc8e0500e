-- The automaton runs beside the machine from its own start state, told by the published semantics what each turn does; and the machine gives its verdicts.
use Rattle.std.specs.Prelude.{◌≡◌, ℕ, zero, suc, Bool, true, false, cond, not, ◌&&◌, ◌||◌, T, List, [], ◌∷◌, ◌++◌, get_or, ℤ, slice_index_or}
use Rattle.std.proofs.Math.Option.{Option, none, some}
use Rattle.codec.specs.Expressions.{Expr}
use Rattle.script.specs.Code.{Code, Script}
use Rattle.model.specs.Stretches.{fixed_time}
use Rattle.script.specs.Code.Code.{done, skip, assign, put, branch, loop, lock}
use Rattle.model.specs.Threads.{Open, Pace, ended, at_code}
use Rattle.model.specs.Machine.{State, value_of, status_at, status, status_is_ready, status_is_finished, is_barred, lag, set_thread, step_at, take_turn, set_track, rules}
use Rattle.model.specs.Values.{is_zero}
use Rattle.model.specs.Threads.Open.{in_branch, in_loop, in_lock}
use Rattle.model.specs.Threads.Pace.{running, idling}
use Rattle.model.specs.Calls.{begin}
use Rattle.model.specs.Automaton.{Q, Pool, Input, Output, apart, all_bottom, and_then, carries, react, extract, update}
use Rattle.model.specs.Automaton.Input.{at_branch, at_merge, at_sync, at_skip, at_assign, at_output}
use Rattle.std.specs.List.{AllByRecursion}
use Rattle.script.specs.Trees.{Valid, head_of}
use Rattle.lattice.specs.Orders.{two_point}
use Rattle.model.specs.Follows.{on_open, first, others, entered, Reached}

-- What the automaton is told

-- The end of a branch: nothing while it idles, then the merge.
abbrev pub ending : ℕ → Code → Code → List Input
ending zero pe pu = at_merge pe pu ∷ []
ending (suc left) pe pu = []

-- A put: an output on an open channel, nothing on a closed one.
abbrev pub putting : Bool → Expr → List Input
putting true e = at_output e ∷ []
putting false e = []

-- A test of a loop: a branch, and its merge at once where the condition is false.
abbrev pub testing : Bool → ℕ → Expr → Code → List Input
testing false m e b = at_branch m e (and_then b (loop e b done)) done ∷ []
testing true m e b = at_branch m e done (and_then b (loop e b done)) ∷ at_merge done (and_then b (loop e b done)) ∷ []

module _ (sc : Script) (s : State) (i : ℕ) where
  -- The inputs of a thread's next turn, by its code, pace and blocks. An idle turn, and the end of a with, tell it nothing.
  -- The end of a loop's body is the merge of that turn of the loop: the publication leaves it until the loop's end (Bottoms says that no answer turns on this).
  abbrev pub told : Code → Pace → List Open → List Input
  told c (idling n) [] = []
  told c (idling n) (in_branch l way p q next ∷ os) = ending n (cond way p q) (cond way q p)
  told c (idling n) (in_loop e b next ∷ os) = []
  told c (idling n) (in_lock m next ∷ os) = []
  told done running [] = []
  told done running (in_branch l way p q next ∷ os) = ending (lag way p q) (cond way p q) (cond way q p)
  told done running (in_loop e b next ∷ os) = at_merge (and_then b (loop e b done)) done ∷ []
  told done running (in_lock m next ∷ os) = []
  told (skip c) running os = at_skip ∷ []
  told (assign x e c) running os = at_assign x e ∷ []
  told (put h e c) running os = putting (on_open sc h) e
  told (branch e p q c) running os =
      let way = not (is_zero (value_of two_point sc s e)) in
      at_branch (others i s.threads) e (cond way p q) (cond way q p) ∷ []
  told (loop e b c) running os = testing (is_zero (value_of two_point sc s e)) (others i s.threads) e b
  told (lock m e b c) running os = at_sync m e ∷ []

  -- What the published semantics itself asks of a turn: of a with, that its value is true and that no other thread owns its locks.
  abbrev pub permits : Code → Pace → Bool
  permits c (idling n) = true
  permits done running = true
  permits (skip c) running = true
  permits (assign x e c) running = true
  permits (put h e c) running = true
  permits (branch e p q c) running = true
  permits (loop e b c) running = true
  permits (lock m e b c) running = not (is_zero (value_of two_point sc s e)) && apart m (others i s.threads)

-- What the automaton answers

-- An answer before later ones.
abbrev pub note : Output → Option (List Output × Pool) → Option (List Output × Pool)
note o none = none
note o (some r) = some (o ∷ r.0, r.1)

-- The answers from one on, with the state after it.
abbrev pub go_on : Pool → ℕ → Option (Output × Q) → (Pool → Option (List Output × Pool)) → Option (List Output × Pool)
go_on p i none rest = none
go_on p i (some r) rest = note r.0 (rest (update p i r.1))

-- Its answers to inputs of thread i, in order, and its next state; none where it holds one back.
abbrev pub hears : Pool → ℕ → List Input → Option (List Output × Pool)
hears p i [] = some ([], p)
hears p i (x ∷ xs) = go_on p i (react (extract p i) x) (λ r. hears r i xs)

-- Whether the automaton lets a thread go on.
abbrev pub is_some : Option (List Output × Pool) → Bool
is_some none = false
is_some (some r) = true

-- The departures: a branch that takes no fixed time and would be closed, and a loop whose condition is.
abbrev pub departs : Q → Code → Pace → Bool
departs q c (idling n) = false
departs q done running = false
departs q (skip c) running = false
departs q (assign x e c) running = false
departs q (put h e c) running = false
departs q (branch e p t c) running = not (fixed_time p && fixed_time t) && (carries q e || not (all_bottom q.w))
departs q (loop e b c) running = carries q e
departs q (lock m e b c) running = false

-- A with whose expression carries variety: no rule of the automaton lets it go on.
abbrev pub never_syncs : Q → Code → Pace → Bool
never_syncs q c (idling n) = false
never_syncs q done running = false
never_syncs q (skip c) running = false
never_syncs q (assign x e c) running = false
never_syncs q (put h e c) running = false
never_syncs q (branch e p t c) running = false
never_syncs q (loop e b c) running = false
never_syncs q (lock m e b c) running = carries q e

-- The verdicts

module _ (sc : Script) (s : State) (p : Pool) (i : ℕ) where
  -- What a put on an open channel enters is what the automaton answers.
  abbrev pub EntersTo : Bool → ℕ → Expr → Code → List Open → Type 0
  EntersTo false h e c os = Unit {0}
  EntersTo true h e c os = (o : Output) × (hears p i (at_output e ∷ []) ≡ some (o ∷ [], update p i (extract p i))) × (step_at two_point sc s i (put h e c) running os ≡ set_thread (entered sc s i h e o) i (at_code c os))

  -- The same, command by command.
  abbrev pub Enters : Code → Pace → List Open → Type 0
  Enters c (idling n) os = Unit {0}
  Enters done running os = Unit {0}
  Enters (skip c) running os = Unit {0}
  Enters (assign x e c) running os = Unit {0}
  Enters (put h e c) running os = EntersTo (on_open sc h) h e c os
  Enters (branch e t u c) running os = Unit {0}
  Enters (loop e b c) running os = Unit {0}
  Enters (lock m e b c) running os = Unit {0}

  -- A thread that is not finished is ready exactly if it is at no departure, the published semantics permits its turn and the automaton does not hold it back.
  -- It is barred exactly at a departure and at a with that carries variety; otherwise it waits.
  pub record Verdict (c : Code) (pace : Pace) (os : List Open) : Type 0 where
    pub goes : status_is_finished (status_at two_point sc s i c pace os) ≡ false → status_is_ready (status_at two_point sc s i c pace os) ≡ not (departs (extract p i) c pace) && (permits sc s i c pace && is_some (hears p i (told sc s i c pace os)))
    pub bars : is_barred (status_at two_point sc s i c pace os) ≡ departs (extract p i) c pace || never_syncs (extract p i) c pace
    pub enters : Enters c pace os

-- The machine's states and the automaton's, side by side from their beginnings, through any turns of ready threads, rests and feeds.
pub data Together (sc : Script) : State → Pool → Type 0 where
  start : Together sc (begin sc) (first sc)
  turn : {s : State} {p : Pool} (i : ℕ) (outs : List Output) (r : Pool) → Together sc s p → T (status_is_ready (status two_point sc s i)) →
      (let t = get_or s.threads i ended in hears p i (told sc s i t.code t.pace t.inside)) ≡ some (outs, r) → Together sc (take_turn (rules two_point sc) s (some i)) r
  rest : {s : State} {p : Pool} → Together sc s p → Together sc (take_turn (rules two_point sc) s none) p
  fed : {s : State} {p : Pool} (t : ℕ) (z : ℤ) → Together sc s p → Together sc (set_track s t (slice_index_or s.tracks t [] ++ (z ∷ []))) p

-- Of every valid script of two levels: whatever state it reaches, the automaton has come along, and wherever the two stand together the machine's
-- verdicts are the automaton's.
abbrev pub GivesItsVerdicts : Type 0
GivesItsVerdicts =
    (sc : Script) → AllByRecursion (Valid (head_of sc) 0) sc.codes →
    ((s : State) → Reached sc s → (p : Pool) × Together sc s p) ×
    ((s : State) (p : Pool) → Together sc s p → (i : ℕ) → let t = get_or s.threads i ended in Verdict sc s p i t.code t.pace t.inside)
