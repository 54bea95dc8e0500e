-- The machine gives the verdicts of the automaton that runs beside it.
use Rattle.std.proofs.Common.{◌≡◌, ℕ, zero, suc, Bool, true, false, cond, not, ◌&&◌, ◌||◌, T, eqb, List, [], ◌∷◌, map, get_or, set, sym, refl, ap, ◌∙◌, subst, ap₂, inl, inr}
use mathlib.Core.Option.{Option, none, some}
use lib.Dec.{eqb_refl}
use Rattle.model.specs.Levels.{is_open}
use Rattle.codec.specs.Expressions.{Expr}
use Rattle.script.specs.Code.{Code, Script}
use Rattle.model.specs.Stretches.{fixed_time}
use Rattle.script.specs.Code.Code.{done, skip, assign, put, branch, loop, lock}
use Rattle.model.specs.Threads.{Open, Pace, Thread, ended, at_code}
use Rattle.model.specs.Machine.{State, Status, value_of, level_of, chosen_status, status_at, status, status_is_ready, status_is_finished, is_barred, rules, take_turn, lag, close_branch, step_at}
use Rattle.model.specs.Values.{is_zero}
use Rattle.model.specs.Threads.Open.{in_branch, in_loop, in_lock}
use Rattle.model.specs.Threads.Pace.{running, idling}
use Rattle.model.specs.Machine.Status.{waiting, barred}
use Rattle.model.specs.Automaton.{Q, Pool, Input, Output, apart, all_bottom, and_then, carries, react, extract, update}
use Rattle.model.specs.Automaton.Input.{at_branch, at_merge, at_sync, at_skip, at_assign, at_output}
use Rattle.model.specs.Automaton.Output.{ok, no, default}
use Rattle.lattice.specs.Orders.{two_point}
use Rattle.model.specs.Follows.{on_open, pool, first, Same, others, Reached, asked, Does, Untold, Ends, PutsTo, Begins, Tests, Loops, Agrees}
use Rattle.model.specs.Together.{ending, putting, testing, told, permits, go_on, hears, is_some, departs, never_syncs, EntersTo, Enters, Verdict, Together, GivesItsVerdicts}
use Rattle.model.specs.Together.Together.{start, turn, rest, fed}
use Rattle.model.proofs.Tests.{by_test, is_true, and_left, and_right, set_all, both}
use Rattle.script.specs.Trees.{head_of}
use Rattle.model.proofs.Published.Names.{reads, declared, all_declared, all_valid_declared}
use Rattle.model.proofs.Published.Opens.{not_not, level_carries}
use Rattle.model.proofs.Published.Sound.{Kept, clear, as_false}
use Rattle.model.proofs.Published.Reach.{reached_kept, step_kept}
use Rattle.model.proofs.Published.Agreement.{agrees_at, begins_same}
use Rattle.model.proofs.Published.Alike.{all_fit, same_trans, Like, Both, BothHeard, carries_alike, react_alike, extract_alike, hears_alike}
use Rattle.model.proofs.Puts.{put_threads}
use Rattle.model.proofs.Ready.{ready_is}

-- Declared variables, through a run

abbrev named : ℕ → List Open → Bool
named n [] = true
named n (in_branch l w p q next ∷ os) = declared n next && named n os
named n (in_loop e b next ∷ os) = declared n (loop e b next) && named n os
named n (in_lock m next ∷ os) = declared n next && named n os

abbrev Names : ℕ → Thread → Type 0
Names n t = T (declared n t.code) × T (named n t.inside)

pair : (a b : Bool) → T (a && b) → T a × T b
pair a b h = (and_left a b h, and_right a b h)

fit_one : (a : Bool) → T a → T (a && true)
fit_one true h = tt
fit_one false h = h

module _ (sc : Script) (s : State) (i : ℕ) where
  ending_fits : (n left : ℕ) (pe pu : Code) → T (all_fit n (ending left pe pu))
  ending_fits n zero pe pu = tt
  ending_fits n (suc left) pe pu = tt

  testing_fits : (n : ℕ) (z : Bool) (m : ℕ) (e : Expr) (b : Code) → T (reads n e) → T (all_fit n (testing z m e b))
  testing_fits n true m e b h = fit_one (reads n e) h
  testing_fits n false m e b h = fit_one (reads n e) h

  putting_fits : (b : Bool) (n : ℕ) (e : Expr) → T (reads n e) → T (all_fit n (putting b e))
  putting_fits true n e h = fit_one (reads n e) h
  putting_fits false n e h = tt

  told_fits : (n : ℕ) (c : Code) (pace : Pace) (os : List Open) → T (declared n c) → T (all_fit n (told sc s i c pace os))
  told_fits n c (idling k) [] h = tt
  told_fits n c (idling k) (in_branch l w p q next ∷ os) h = ending_fits n k (cond w p q) (cond w q p)
  told_fits n c (idling k) (in_loop e b next ∷ os) h = tt
  told_fits n c (idling k) (in_lock m next ∷ os) h = tt
  told_fits n done running [] h = tt
  told_fits n done running (in_branch l w p q next ∷ os) h = ending_fits n (lag w p q) (cond w p q) (cond w q p)
  told_fits n done running (in_loop e b next ∷ os) h = tt
  told_fits n done running (in_lock m next ∷ os) h = tt
  told_fits n (skip c) running os h = tt
  told_fits n (assign x e c) running os h = fit_one (reads n e) (and_left (reads n e) (declared n c) h)
  told_fits n (put x e c) running os h = putting_fits (on_open sc x) n e (and_left (reads n e) (declared n c) h)
  told_fits n (branch e p q c) running os h = fit_one (reads n e) (and_left (reads n e) (declared n p) (and_left (reads n e && declared n p) (declared n q && declared n c) h))
  told_fits n (loop e b c) running os h = testing_fits n (is_zero (value_of two_point sc s e)) (others i s.threads) e b (and_left (reads n e) (declared n b && declared n c) h)
  told_fits n (lock m e b c) running os h = fit_one (reads n e) (and_left (reads n e) (declared n b && declared n c) h)

  module _ (n : ℕ) (R : (j : ℕ) → Names n (get_or s.threads j ended)) where
    put_in : (t : Thread) → Names n t → (j : ℕ) → Names n (get_or (set s.threads i t) j ended)
    put_in t h = set_all (λ (j : ℕ) (u : Thread). Names n u) ended s.threads i t R h

    close-in : (l : ℕ) (w : Bool) (p q next : Code) (os : List Open) → T (named n (in_branch l w p q next ∷ os)) → (left : ℕ) → Names n (close_branch left (in_branch l w p q next) os next)
    close-in l w p q next os h zero = pair (declared n next) (named n os) h
    close-in l w p q next os h (suc left) = (tt, h)

    step-names : (c : Code) (pace : Pace) (os : List Open) → T (declared n c) → T (named n os) → (j : ℕ) → Names n (get_or (step_at two_point sc s i c pace os).threads j ended)
    unfolding step_at
    step-names c (idling k) [] h g = R
    step-names c (idling k) (in_branch l w p q next ∷ os) h g = put_in (close_branch k (in_branch l w p q next) os next) (close-in l w p q next os g k)
    step-names c (idling k) (in_loop e b next ∷ os) h g = R
    step-names c (idling k) (in_lock m next ∷ os) h g = R
    step-names done running [] h g = R
    step-names done running (in_branch l w p q next ∷ os) h g = put_in (close_branch (lag w p q) (in_branch l w p q next) os next) (close-in l w p q next os g (lag w p q))
    step-names done running (in_loop e b next ∷ os) h g = put_in (at_code (loop e b next) os) (pair (declared n (loop e b next)) (named n os) g)
    step-names done running (in_lock m next ∷ os) h g = put_in (at_code next os) (pair (declared n next) (named n os) g)
    step-names (skip c) running os h g = put_in (at_code c os) (h, g)
    step-names (assign x e c) running os h g = put_in (at_code c os) (and_right (reads n e) (declared n c) h, g)
    step-names (put x e c) running os h g = subst (λ (ts : List Thread). (j : ℕ) → Names n (get_or (set ts i (at_code c os)) j ended)) (sym (put_threads two_point sc s i x e os)) (put_in (at_code c os) (and_right (reads n e) (declared n c) h, g))
    step-names (branch e p q c) running os h g =
        let ep = and_left (reads n e && declared n p) (declared n q && declared n c) h in
        let qc = and_right (reads n e && declared n p) (declared n q && declared n c) h in
        put_in _ (way (not (is_zero (value_of two_point sc s e))) (and_right (reads n e) (declared n p) ep) (and_left (declared n q) (declared n c) qc), both (declared n c) (named n os) (and_right (declared n q) (declared n c) qc) g)
      where
        way : (w : Bool) → T (declared n p) → T (declared n q) → T (declared n (cond w p q))
        way true a b = a
        way false a b = b
    step-names (loop e b c) running os h g = put_in _ (go (is_zero (value_of two_point sc s e)))
      where
        go : (z : Bool) → Names n (cond z (at_code c os) (at_code b (in_loop e b c ∷ os)))
        go true = (and_right (declared n b) (declared n c) (and_right (reads n e) (declared n b && declared n c) h), g)
        go false = (and_left (declared n b) (declared n c) (and_right (reads n e) (declared n b && declared n c) h), both (declared n (loop e b c)) (named n os) h g)
    step-names (lock m e b c) running os h g =
        let bc = and_right (reads n e) (declared n b && declared n c) h in
        put_in (at_code b (in_lock m c ∷ os)) (and_left (declared n b) (declared n c) bc, both (declared n c) (named n os) (and_right (declared n b) (declared n c) bc) g)

begun_names : (n : ℕ) (cs : List Code) → T (all_declared n cs) → (j : ℕ) → Names n (get_or (map (λ (c : Code). at_code c []) cs) j ended)
begun_names n [] h j = (tt, tt)
begun_names n (c ∷ cs) h zero = (and_left (declared n c) (all_declared n cs) h, tt)
begun_names n (c ∷ cs) h (suc j) = begun_names n cs (and_right (declared n c) (all_declared n cs) h) j

-- What the automaton answers in the state that is read off the machine's

not_ready : {P : Type 0} (t u : Status) → t ≡ u → status_is_ready u ≡ false → T (status_is_ready t) → P
not_ready t u e f h = clear (status_is_ready t) h (ap status_is_ready e ∙ f)

out_again : (p : Pool) (i : ℕ) (q : Q) → extract (update p i q) i ≡ q
out_again p i q j = record { V = q.V; secret = q.secret; W = q.W; L = q.L; w = ap (λ (b : Bool). cond b q.w (p.w i)) (is_true (eqb i i) (eqb_refl i)) j }

twice : (p : Pool) (i : ℕ) (q r : Q) (n : ℕ) → Same n (update p i r) (update (update p i q) i r)
twice p i q r n = record { V = λ x l. refl; secret = λ t. refl; W = λ x. refl; L = refl; w = λ j. go j (eqb j i) }
  where
    go : (j : ℕ) (b : Bool) → cond b r.w (p.w j) ≡ cond b r.w (cond b q.w (p.w j))
    go j true = refl
    go j false = refl

module _ (sc : Script) (s : State) (i : ℕ) where
  pub record Heard (xs : List Input) (then : State) : Type 0 where
    pub outs : List Output
    pub next : Pool
    pub answer : hears (pool sc s) i xs ≡ some (outs, next)
    pub moves : Same sc.variables (pool sc then) next

  one : (x : Input) (o : Output) (then : State) → Does sc s i x o then → Heard (x ∷ []) then
  one x o then d = record {
    outs = o ∷ [];
    next = update (pool sc s) i d.next;
    answer = ap (λ (r : Option (Output × Q)). go_on (pool sc s) i r (λ u. some ([], u))) d.answer;
    moves = d.moves;
  }

  nothing : (then : State) → Untold sc s i then → Heard [] then
  nothing then u = record { outs = []; next = pool sc s; answer = refl; moves = u }

  ended_heard : (left : ℕ) (pe pu : Code) (then : State) → Ends sc s i pe pu left then → Heard (ending left pe pu) then
  ended_heard zero pe pu then d = one (at_merge pe pu) ok then d
  ended_heard (suc left) pe pu then d = nothing then d

  tested_heard : (z : Bool) (e : Expr) (b : Code) (then : State) → Tests sc s i z e b then → Heard (testing z (others i s.threads) e b) then
  tested_heard false e b then d = one (at_branch (others i s.threads) e (and_then b (loop e b done)) done) ok then d
  tested_heard true e b then d = record {
    outs = ok ∷ ok ∷ [];
    next = update (update (pool sc s) i d.0) i d.2;
    answer =
        ap (λ (r : Option (Output × Q)). go_on (pool sc s) i r (λ u. go_on u i (react (extract u i) merge) (λ v. some ([], v)))) d.1
        ∙ ap (λ (q : Q). go_on (pool sc s) i (some (ok, d.0)) (λ u. go_on u i (react q merge) (λ v. some ([], v)))) (out_again (pool sc s) i d.0)
        ∙ ap (λ (r : Option (Output × Q)). go_on (pool sc s) i (some (ok, d.0)) (λ u. go_on u i r (λ v. some ([], v)))) d.3;
    moves = same_trans d.4 (twice (pool sc s) i d.0 d.2 sc.variables);
  }
    where
      merge : Input
      merge = at_merge done (and_then b (loop e b done))

  put_heard : (b : Bool) (h : ℕ) (e : Expr) (after : Thread) (then : State) → PutsTo sc s i b h e after then → Heard (putting b e) then
  put_heard true h e after then a = one (at_output e) a.says then a.does
  put_heard false h e after then a = nothing then a

  -- A turn that the machine gives is one that the automaton is told of and does not hold back.
  tells : (c : Code) (pace : Pace) (os : List Open) → Agrees sc s i c pace os → T (status_is_ready (status_at two_point sc s i c pace os)) → Heard (told sc s i c pace os) (step_at two_point sc s i c pace os)
  tells c (idling n) [] a r = nothing _ a
  tells c (idling n) (in_branch l w p q next ∷ os) a r = ended_heard n (cond w p q) (cond w q p) _ a
  tells c (idling n) (in_loop e b next ∷ os) a r = nothing _ a
  tells c (idling n) (in_lock m next ∷ os) a r = nothing _ a
  tells done running [] a r = absurd r
  tells done running (in_branch l w p q next ∷ os) a r = ended_heard (lag w p q) (cond w p q) (cond w q p) _ a
  tells done running (in_loop e b next ∷ os) a r = one _ ok _ a
  tells done running (in_lock m next ∷ os) a r = nothing _ a
  tells (skip c) running os a r = one at_skip ok _ a
  tells (assign x e c) running os a r = one (at_assign x e) ok _ a
  tells (put h e c) running os a r = put_heard (on_open sc h) h e (at_code c os) _ a
  tells (branch e p q c) running os a r = go (departs (asked sc s i) (branch e p q c) running) a
    where
      go : (d : Bool) → Begins sc s i d (at_branch (others i s.threads) e (cond (not (is_zero (value_of two_point sc s e))) p q) (cond (not (is_zero (value_of two_point sc s e))) q p)) (status_at two_point sc s i (branch e p q c) running os) (step_at two_point sc s i (branch e p q c) running os) →
          Heard (told sc s i (branch e p q c) running os) (step_at two_point sc s i (branch e p q c) running os)
      go true b = not_ready (status_at two_point sc s i (branch e p q c) running os) barred b refl r
      go false (inl b) = one _ ok _ b.1
      go false (inr b) = not_ready (status_at two_point sc s i (branch e p q c) running os) waiting b.0 refl r
  tells (loop e b c) running os a r = go (carries (asked sc s i) e) a
    where
      go : (d : Bool) → Loops sc s i d e b (status_at two_point sc s i (loop e b c) running os) (step_at two_point sc s i (loop e b c) running os) →
          Heard (told sc s i (loop e b c) running os) (step_at two_point sc s i (loop e b c) running os)
      go true h = not_ready (status_at two_point sc s i (loop e b c) running os) barred h refl r
      go false h = tested_heard (is_zero (value_of two_point sc s e)) e b _ h.1
  tells (lock m e b c) running os a r = one (at_sync m e) ok _ (a.allows (ready_is (status_at two_point sc s i (lock m e b c) running os) r)).0

  -- And the machine gives every turn that the automaton does not hold back, but for the departures.
  goes : (c : Code) (pace : Pace) (os : List Open) → Agrees sc s i c pace os → status_is_finished (status_at two_point sc s i c pace os) ≡ false →
      status_is_ready (status_at two_point sc s i c pace os) ≡ not (departs (asked sc s i) c pace) && (permits sc s i c pace && is_some (hears (pool sc s) i (told sc s i c pace os)))
  goes c (idling n) [] a f = refl
  goes c (idling n) (in_branch l w p q next ∷ os) a f = sym (ap is_some (ended_heard n (cond w p q) (cond w q p) _ a).answer)
  goes c (idling n) (in_loop e b next ∷ os) a f = refl
  goes c (idling n) (in_lock m next ∷ os) a f = refl
  goes done running [] a f = clear true tt f
  goes done running (in_branch l w p q next ∷ os) a f = sym (ap is_some (ended_heard (lag w p q) (cond w p q) (cond w q p) _ a).answer)
  goes done running (in_loop e b next ∷ os) a f = sym (ap is_some (one (at_merge (and_then b (loop e b done)) done) ok _ a).answer)
  goes done running (in_lock m next ∷ os) a f = refl
  goes (skip c) running os a f = refl
  goes (assign x e c) running os a f = sym (ap is_some (one (at_assign x e) ok _ a).answer)
  goes (put h e c) running os a f = sym (ap is_some (put_heard (on_open sc h) h e (at_code c os) _ a).answer)
  goes (branch e p q c) running os a f = go (departs (asked sc s i) (branch e p q c) running) a
    where
      now : Status
      now = status_at two_point sc s i (branch e p q c) running os

      input : Input
      input = at_branch (others i s.threads) e (cond (not (is_zero (value_of two_point sc s e))) p q) (cond (not (is_zero (value_of two_point sc s e))) q p)

      go : (d : Bool) → Begins sc s i d input now (step_at two_point sc s i (branch e p q c) running os) → status_is_ready now ≡ not d && (true && is_some (hears (pool sc s) i (input ∷ [])))
      go true b = ap status_is_ready b
      go false (inl b) = ap status_is_ready b.0 ∙ sym (ap is_some (one input ok _ b.1).answer)
      go false (inr b) = ap status_is_ready b.0 ∙ sym (ap (λ (r : Option (Output × Q)). is_some (go_on (pool sc s) i r (λ u. some ([], u)))) b.1)
  goes (loop e b c) running os a f = go (carries (asked sc s i) e) a
    where
      now : Status
      now = status_at two_point sc s i (loop e b c) running os

      go : (d : Bool) → Loops sc s i d e b now (step_at two_point sc s i (loop e b c) running os) → status_is_ready now ≡ not d && (true && is_some (hears (pool sc s) i (testing (is_zero (value_of two_point sc s e)) (others i s.threads) e b)))
      go true h = ap status_is_ready h
      go false h = ap status_is_ready h.0 ∙ sym (ap is_some (tested_heard (is_zero (value_of two_point sc s e)) e b _ h.1).answer)
  goes (lock m e b c) running os a f = by_test (status_is_ready now)
      (λ r. let w = a.allows (ready_is now r) in is_true (status_is_ready now) r ∙ sym (rights (is_zero (value_of two_point sc s e)) (apart m (others i s.threads)) (is_some (hears (pool sc s) i (at_sync m e ∷ []))) w.1 w.2 (ap is_some (one (at_sync m e) ok _ w.0).answer)))
      (λ r. r ∙ sym (as_false ((not (is_zero (value_of two_point sc s e)) && apart m (others i s.threads)) && is_some (hears (pool sc s) i (at_sync m e ∷ []))) (λ h.
      let zx = and_left (not (is_zero (value_of two_point sc s e)) && apart m (others i s.threads)) (is_some (hears (pool sc s) i (at_sync m e ∷ []))) h in
      let heard = and_right (not (is_zero (value_of two_point sc s e)) && apart m (others i s.threads)) (is_some (hears (pool sc s) i (at_sync m e ∷ []))) h in
      clear true tt (sym (ap status_is_ready (a.allowed (asked sc s i) (answers heard) (off (is_zero (value_of two_point sc s e)) (and_left (not (is_zero (value_of two_point sc s e))) (apart m (others i s.threads)) zx)) (and_right (not (is_zero (value_of two_point sc s e))) (apart m (others i s.threads)) zx))) ∙ r))))
    where
      now : Status
      now = status_at two_point sc s i (lock m e b c) running os

      off : (z : Bool) → T (not z) → z ≡ false
      off true h = absurd h
      off false h = refl

      rights : (z x h : Bool) → z ≡ false → T x → h ≡ true → (not z && x) && h ≡ true
      rights z x h ez hx eh = rw (ez, is_true x hx, eh)

      answers : T (is_some (hears (pool sc s) i (at_sync m e ∷ []))) → react (asked sc s i) (at_sync m e) ≡ some (ok, asked sc s i)
      answers h = go (not (carries (asked sc s i) e) && (not (all_bottom (asked sc s i).w) || apart m (asked sc s i).L)) h
        where
          go : (v : Bool) → T (is_some (go_on (pool sc s) i (cond v (some (ok, asked sc s i)) none) (λ u. some ([], u)))) → ◌≡◌ {A = Option (Output × Q)} (cond v (some (ok, asked sc s i)) none) (some (ok, asked sc s i))
          go true h = refl
          go false h = absurd h

  bar_of : (b w : Bool) → is_barred (chosen_status b w) ≡ b
  bar_of true w = refl
  bar_of false true = refl
  bar_of false false = refl

  or_false : (b : Bool) → b ≡ b || false
  or_false true = refl
  or_false false = refl

  -- What is barred.
  bars : (c : Code) (pace : Pace) (os : List Open) → Agrees sc s i c pace os → is_barred (status_at two_point sc s i c pace os) ≡ departs (asked sc s i) c pace || never_syncs (asked sc s i) c pace
  bars c (idling n) os a = refl
  bars done running [] a = refl
  bars done running (o ∷ os) a = refl
  bars (skip c) running os a = refl
  bars (assign x e c) running os a = refl
  bars (put h e c) running os a = refl
  bars (branch e p q c) running os a = go (departs (asked sc s i) (branch e p q c) running) a ∙ or_false (departs (asked sc s i) (branch e p q c) running)
    where
      go : (d : Bool) → Begins sc s i d (at_branch (others i s.threads) e (cond (not (is_zero (value_of two_point sc s e))) p q) (cond (not (is_zero (value_of two_point sc s e))) q p)) (status_at two_point sc s i (branch e p q c) running os) (step_at two_point sc s i (branch e p q c) running os) →
          is_barred (status_at two_point sc s i (branch e p q c) running os) ≡ d
      go true b = ap is_barred b
      go false (inl b) = ap is_barred b.0
      go false (inr b) = ap is_barred b.0
  bars (loop e b c) running os a = bar_of (not (is_open (level_of two_point sc s e))) false ∙ ap not (level_carries sc s i e) ∙ not_not (carries (asked sc s i) e) ∙ or_false (carries (asked sc s i) e)
  bars (lock m e b c) running os a = bar_of (not (is_open (level_of two_point sc s e))) _ ∙ ap not (level_carries sc s i e) ∙ not_not (carries (asked sc s i) e)

-- The automaton that runs beside it

both_some : (n : ℕ) (a b : Option (List Output × Pool)) → BothHeard n a b → is_some a ≡ is_some b
both_some n none none h = refl
both_some n none (some b) h = absurd h
both_some n (some a) none h = absurd h
both_some n (some a) (some b) h = refl

some_of : (n : ℕ) (a : List Output × Pool) (b : Option (List Output × Pool)) → BothHeard n (some a) b → (outs : List Output) × (r : Pool) × (b ≡ some (outs, r))
some_of n a none h = absurd h
some_of n a (some b) h = (b.0, b.1, refl)

departs_alike : (n : ℕ) (a b : Q) → Like n a b → (c : Code) (pace : Pace) → T (declared n c) → departs a c pace ≡ departs b c pace
departs_alike n a b l c (idling k) h = refl
departs_alike n a b l done running h = refl
departs_alike n a b l (skip c) running h = refl
departs_alike n a b l (assign x e c) running h = refl
departs_alike n a b l (put x e c) running h = refl
departs_alike n a b l (branch e p q c) running h =
    ap₂ (λ (u : Bool) (w : List Bool). not (fixed_time p && fixed_time q) && (u || not (all_bottom w))) (carries_alike n a b l e (and_left (reads n e) (declared n p) (and_left (reads n e && declared n p) (declared n q && declared n c) h))) l.w
departs_alike n a b l (loop e d c) running h = carries_alike n a b l e (and_left (reads n e) (declared n d && declared n c) h)
departs_alike n a b l (lock m e d c) running h = refl

syncs_alike : (n : ℕ) (a b : Q) → Like n a b → (c : Code) (pace : Pace) → T (declared n c) → never_syncs a c pace ≡ never_syncs b c pace
syncs_alike n a b l c (idling k) h = refl
syncs_alike n a b l done running h = refl
syncs_alike n a b l (skip c) running h = refl
syncs_alike n a b l (assign x e c) running h = refl
syncs_alike n a b l (put x e c) running h = refl
syncs_alike n a b l (branch e p q c) running h = refl
syncs_alike n a b l (loop e d c) running h = refl
syncs_alike n a b l (lock m e d c) running h = carries_alike n a b l e (and_left (reads n e) (declared n d && declared n c) h)

output_is : (q : Q) (e : Expr) → (o : Output) × (react q (at_output e) ≡ some (o, q))
output_is q e = go (all_bottom q.w) (carries q e)
  where
    go : (b m : Bool) → (o : Output) × (◌≡◌ {A = Option (Output × Q)} (cond b (cond m (some (default, q)) (some (ok, q))) (some (no, q))) (some (o, q)))
    go true true = (default, refl)
    go true false = (ok, refl)
    go false m = (no, refl)

module _ (sc : Script) where
  -- What holds of a state of the machine and a state of the automaton that stand together.
  pub record Beside (s : State) (p : Pool) : Type 0 where
    pub kept : Kept sc.variables s.cells s.threads
    pub names : (j : ℕ) → Names sc.variables (get_or s.threads j ended)
    pub same : Same sc.variables (pool sc s) p

  module _ (s : State) (p : Pool) (B : Beside s p) (i : ℕ) where
    abbrev me : Thread
    me = get_or s.threads i ended

    agree : Agrees sc s i me.code me.pace me.inside
    agree = agrees_at sc s B.kept i

    alike : BothHeard sc.variables (hears (pool sc s) i (told sc s i me.code me.pace me.inside)) (hears p i (told sc s i me.code me.pace me.inside))
    alike = hears_alike sc.variables i (told sc s i me.code me.pace me.inside) (told_fits sc s i sc.variables me.code me.pace me.inside (B.names i).0) (pool sc s) p B.same

    puts : (c : Code) (pace : Pace) (os : List Open) → T (declared sc.variables c) → Agrees sc s i c pace os → Enters sc s p i c pace os
    puts c (idling k) os d a = tt
    puts done running os d a = tt
    puts (skip c) running os d a = tt
    puts (assign x e c) running os d a = tt
    puts (put h e c) running os d a = go (on_open sc h) a
      where
        go : (b : Bool) → PutsTo sc s i b h e (at_code c os) (step_at two_point sc s i (put h e c) running os) → EntersTo sc s p i b h e c os
        go false a = tt
        go true a =
            let o = output_is (extract p i) e in
            let both = react_alike sc.variables (extract (pool sc s) i) (extract p i) (extract_alike sc.variables (pool sc s) p i B.same) (at_output e) (and_left (reads sc.variables e) (declared sc.variables c) d) in
            let one_side : Both sc.variables (some (a.says, a.does.next)) (react (extract p i) (at_output e)) = subst (λ (r : Option (Output × Q)). Both sc.variables r (react (extract p i) (at_output e))) a.does.answer both in
            let said : Both sc.variables (some (a.says, a.does.next)) (some (o.0, extract p i)) = subst (λ (r : Option (Output × Q)). Both sc.variables (some (a.says, a.does.next)) r) o.1 one_side in
            (a.says, ap (λ (r : Option (Output × Q)). go_on p i r (λ u. some ([], u))) o.1 ∙ ap (λ (x : Output). some (x ∷ [], update p i (extract p i))) (sym said.0), a.enters)
    puts (branch e t u c) running os d a = tt
    puts (loop e b c) running os d a = tt
    puts (lock m e b c) running os d a = tt

    like : Like sc.variables (extract (pool sc s) i) (extract p i)
    like = extract_alike sc.variables (pool sc s) p i B.same

    verdict : Verdict sc s p i me.code me.pace me.inside
    verdict = record {
      goes = λ f.
          goes sc s i me.code me.pace me.inside agree f
          ∙ ap₂ (λ (u v : Bool). not u && (permits sc s i me.code me.pace && v)) (departs_alike sc.variables (extract (pool sc s) i) (extract p i) like me.code me.pace (B.names i).0) (both_some sc.variables _ _ alike);
      bars =
          bars sc s i me.code me.pace me.inside agree
          ∙ ap₂ (λ (u v : Bool). u || v) (departs_alike sc.variables (extract (pool sc s) i) (extract p i) like me.code me.pace (B.names i).0) (syncs_alike sc.variables (extract (pool sc s) i) (extract p i) like me.code me.pace (B.names i).0);
      enters = puts me.code me.pace me.inside (B.names i).0 agree;
    }

    -- The next state of each, after a turn.
    later : T (status_is_ready (status two_point sc s i)) → (outs : List Output) (r : Pool) → hears p i (told sc s i me.code me.pace me.inside) ≡ some (outs, r) → Beside (take_turn (rules two_point sc) s (some i)) r
    later now outs r e =
        let h = tells sc s i me.code me.pace me.inside agree now in
        record {
          kept = step_kept sc s B.kept i me.code me.pace me.inside refl (B.kept.good i).0 (B.kept.good i).1 now;
          names = step-names sc s i sc.variables B.names me.code me.pace me.inside (B.names i).0 (B.names i).1;
          same = same_trans h.moves (go h.outs h.next h.answer);
        }
      where
        go : (outs₀ : List Output) (r₀ : Pool) → hears (pool sc s) i (told sc s i me.code me.pace me.inside) ≡ some (outs₀, r₀) → Same sc.variables r₀ r
        go outs₀ r₀ f =
            let one_side : BothHeard sc.variables (some (outs₀, r₀)) (hears p i (told sc s i me.code me.pace me.inside)) = subst (λ (u : Option (List Output × Pool)). BothHeard sc.variables u (hears p i (told sc s i me.code me.pace me.inside))) f alike in
            let both : BothHeard sc.variables (some (outs₀, r₀)) (some (outs, r)) = subst (λ (u : Option (List Output × Pool)). BothHeard sc.variables (some (outs₀, r₀)) u) e one_side in
            both.1

    comes : T (status_is_ready (status two_point sc s i)) → (outs : List Output) × (r : Pool) × (hears p i (told sc s i me.code me.pace me.inside) ≡ some (outs, r))
    comes now =
        let h = tells sc s i me.code me.pace me.inside agree now in
        some_of sc.variables (h.outs, h.next) (hears p i (told sc s i me.code me.pace me.inside)) (subst (λ (u : Option (List Output × Pool)). BothHeard sc.variables u (hears p i (told sc s i me.code me.pace me.inside))) h.answer alike)

  module _ (names : T (all_declared sc.variables sc.codes)) where
    pub together_beside : {s : State} {p : Pool} → Together sc s p → Beside s p
    together_beside start = record { kept = reached_kept {sc = sc} Reached.start; names = begun_names sc.variables sc.codes names; same = begins_same sc }
    together_beside (turn {s = s} {p = p} i outs r t now e) = later s p (together_beside t) i now outs r e
    together_beside (rest t) = let B = together_beside t in record { kept = B.kept; names = B.names; same = B.same }
    together_beside (fed n z t) = let B = together_beside t in record { kept = B.kept; names = B.names; same = B.same }

    pub reached_together : {s : State} → Reached sc s → (p : Pool) × Together sc s p
    reached_together Reached.start = (first sc, start)
    reached_together (Reached.turn {s = s} i r now) =
        let t = reached_together r in
        let h = comes s t.0 (together_beside t.1) i now in
        (h.1, turn i h.0 h.1 t.1 now h.2)
    reached_together (Reached.rest r) = let t = reached_together r in (t.0, rest t.1)
    reached_together (Reached.fed n z r) = let t = reached_together r in (t.0, fed n z t.1)

pub gives : GivesItsVerdicts
gives sc valid =
    let names = all_valid_declared (head_of sc) sc.codes valid in
    ((λ s r. reached_together sc names r), (λ s p t i. verdict sc s p (together_beside sc names t) i))
