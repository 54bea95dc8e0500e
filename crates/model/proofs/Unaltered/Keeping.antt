-- A turn keeps a state typed.
use Rattle.std.proofs.Common.{ℕ, zero, suc, Bool, true, false, cond, not, ◌||◌, T, List, [], ◌∷◌, get_or, subst}
use mathlib.Core.Option.{Option, none, some}
use Rattle.lattice.specs.Levels.{Levels}
use Rattle.codec.specs.Expressions.{Expr}
use Rattle.script.specs.Code.{Code, Script}
use Rattle.model.specs.Stretches.{assigns}
use Rattle.script.specs.Code.Code.{done, skip, assign, put, branch, loop, lock}
use Rattle.model.specs.Values.{blank, is_zero}
use Rattle.model.specs.Threads.{Open, Pace, Thread, ended, context, guard, at_code}
use Rattle.model.specs.Machine.{State, Channel, level_of, value_of, raise, lag, set_thread, set_cell, set_cells, set_channel, close_branch, do_put, step_at, take_turn, rules}
use Rattle.model.specs.Threads.Open.{in_branch, in_loop, in_lock}
use Rattle.model.specs.Threads.Pace.{running, idling}
use Rattle.model.specs.Inspection.{types, type_of}
use Rattle.model.proofs.Tests.{set_all, or_cases}
use Rattle.model.proofs.Unaltered.Under.{Under, under_trans, under_least, under_open}
use Rattle.model.proofs.Unaltered.Typed.{World, Stack, Typed, Kept, threads_at, threads_set, level_under, assign_parts, put_parts, branch_parts, loop_parts, lock_parts}
use Rattle.model.proofs.Unaltered.Closed.{open_zero, assigns_under, guard_under}
use Rattle.model.proofs.Unaltered.Raised.{raise_under}
use Rattle.model.proofs.Unaltered.Standing.{entry_under}

module _ {k : Levels} {sc : Script} {typing : List ℕ} (W : World k sc typing) where
  thread_kept : (s : State) (i : ℕ) (t : Thread) → Kept k sc typing s → Typed k sc typing t.code t.inside → Kept k sc typing (set_thread s i t)
  thread_kept s i t K h = record { cells = K.cells; threads = threads_set s.threads i t K.threads h }

  close_typed : (t n : ℕ) (l : ℕ) (w : Bool) (p q c : Code) (os : List Open) → Stack k sc typing t (in_branch l w p q c ∷ os) → let r = close_branch n (in_branch l w p q c) os c in Typed k sc typing r.code r.inside
  close_typed t zero l w p q c os h = record { level = h.0; code = h.4; inside = h.5 }
  close_typed t (suc n) l w p q c os h = record { level = t; code = tt; inside = h }

  put_kept : (s : State) (i h : ℕ) (e : Expr) (os : List Open) → Kept k sc typing s → Kept k sc typing (do_put k sc s i h e os)
  unfolding do_put
  put_kept s i h e os K = pick (k.flows (context os) (get_or sc.channel_levels h 0)) _
    where
      pick : (b : Bool) (ch : Channel) → Kept k sc typing (cond b (set_channel s h ch) s)
      pick true ch = record { cells = K.cells; threads = K.threads }
      pick false ch = K

  way_typed : (t : ℕ) (e : Expr) (w : Bool) (p q c : Code) (l : ℕ) (os : List Open) → Under k l (k.join t (type_of k sc typing e)) → Stack k sc typing t os → T (types k sc typing t (branch e p q c)) → Typed k sc typing (cond w p q) (in_branch l w p q c ∷ os)
  way_typed t e w p q c l os u st ty =
      let ps = branch_parts k sc typing t e p q c ty in
      record { level = k.join t (type_of k sc typing e); code = pick w ps.0 ps.1; inside = (t, u, ps.0, ps.1, ps.2, st) }
    where
      pick : (b : Bool) → T (types k sc typing (k.join t (type_of k sc typing e)) p) → T (types k sc typing (k.join t (type_of k sc typing e)) q) → T (types k sc typing (k.join t (type_of k sc typing e)) (cond b p q))
      pick true x y = x
      pick false x y = y

  store_kept : (s : State) (t x : ℕ) (e : Expr) (c : Code) → Kept k sc typing s → T (types k sc typing t (assign x e c)) →
      Kept k sc typing (set_cell s x (record { value = value_of k sc s e; level = k.join (level_of k sc s e) (guard k x s.threads 0) }))
  store_kept s t x e c K ty =
      let ps = assign_parts k sc typing t x e c ty in
      let lv = level_under W s K.cells e in
      let u = under_least W.laws (under_trans W.laws lv (record { low = lv.high; high = W.variable_had x; flow = ps.0 })) (guard_under W x s.threads 0 K.threads (under_open W.laws (W.variable_had x))) in
      record {
        cells = set_all (λ y d. Under k d.level (get_or typing y 0)) blank s.cells x (record { value = value_of k sc s e; level = k.join (level_of k sc s e) (guard k x s.threads 0) }) K.cells u;
        threads = K.threads;
      }

  raise_kept : (s : State) (t l : ℕ) (p q : Code) → Kept k sc typing s → Under k l t → T (types k sc typing t p) → T (types k sc typing t q) →
      Kept k sc typing (set_cells s (raise k (λ x. assigns x p || assigns x q) l 0 s.cells))
  raise_kept s t l p q K u tp tq = record {
    cells =
        raise_under W.laws (λ x. get_or typing x 0) (λ x. assigns x p || assigns x q) l
        (λ x. or_cases (assigns x p) (assigns x q) (λ b. under_trans W.laws u (assigns_under W x t p u.high tp b)) (λ b. under_trans W.laws u (assigns_under W x t q u.high tq b)))
        s.cells K.cells;
    threads = K.threads;
  }

  -- A loop and a lock stand at an open level.
  loop_typed : (t : ℕ) (e : Expr) (b c : Code) (os : List Open) (w : Bool) → Stack k sc typing t os → T (types k sc typing t (loop e b c)) →
      let r = cond w (at_code c os) (at_code b (in_loop e b c ∷ os)) in Typed k sc typing r.code r.inside
  loop_typed t e b c os true st ty = record { level = t; code = (loop_parts k sc typing t e b c ty).3; inside = st }
  loop_typed t e b c os false st ty =
      let ps = loop_parts k sc typing t e b c ty in
      let z = open_zero t ps.0 in
      record { level = t; code = ps.2; inside = (z, subst (λ (n : ℕ). T (types k sc typing n (loop e b c))) z ty, subst (λ (n : ℕ). Stack k sc typing n os) z st) }

  lock_typed : (t m : ℕ) (e : Expr) (b c : Code) (os : List Open) → Stack k sc typing t os → T (types k sc typing t (lock m e b c)) → Typed k sc typing b (in_lock m c ∷ os)
  lock_typed t m e b c os st ty =
      let ps = lock_parts k sc typing t m e b c ty in
      let z = open_zero t ps.0 in
      record { level = t; code = ps.2; inside = (z, subst (λ (n : ℕ). T (types k sc typing n c)) z ps.3, subst (λ (n : ℕ). Stack k sc typing n os) z st) }

  step_at_kept : (s : State) (i : ℕ) (c : Code) (p : Pace) (os : List Open) → Kept k sc typing s → Typed k sc typing c os → Kept k sc typing (step_at k sc s i c p os)
  unfolding step_at
  step_at_kept s i c (idling n) [] K h = K
  step_at_kept s i c (idling n) (in_branch l w p q next ∷ os) K h = thread_kept s i (close_branch n (in_branch l w p q next) os next) K (close_typed h.level n l w p q next os h.inside)
  step_at_kept s i c (idling n) (in_loop e b next ∷ os) K h = K
  step_at_kept s i c (idling n) (in_lock m next ∷ os) K h = K
  step_at_kept s i done running [] K h = K
  step_at_kept s i done running (in_branch l w p q next ∷ os) K h = thread_kept s i (close_branch (lag w p q) (in_branch l w p q next) os next) K (close_typed h.level (lag w p q) l w p q next os h.inside)
  step_at_kept s i done running (in_loop e b next ∷ os) K h = thread_kept s i (at_code (loop e b next) os) K (record { level = 0; code = h.inside.1; inside = h.inside.2 })
  step_at_kept s i done running (in_lock m next ∷ os) K h = thread_kept s i (at_code next os) K (record { level = 0; code = h.inside.1; inside = h.inside.2 })
  step_at_kept s i (skip c) running os K h = thread_kept s i (at_code c os) K (record { level = h.level; code = h.code; inside = h.inside })
  step_at_kept s i (assign x e c) running os K h =
      thread_kept (set_cell s x (record { value = value_of k sc s e; level = k.join (level_of k sc s e) (guard k x s.threads 0) })) i (at_code c os) (store_kept s h.level x e c K h.code)
      (record { level = h.level; code = (assign_parts k sc typing h.level x e c h.code).2; inside = h.inside })
  step_at_kept s i (put x e c) running os K h =
      thread_kept (do_put k sc s i x e os) i (at_code c os) (put_kept s i x e os K) (record { level = h.level; code = (put_parts k sc typing h.level x e c h.code).2; inside = h.inside })
  step_at_kept s i (branch e p q c) running os K h =
      let l = k.join (context os) (level_of k sc s e) in
      let w = not (is_zero (value_of k sc s e)) in
      let u = entry_under W s K h.level os h.inside e in
      let ps = branch_parts k sc typing h.level e p q c h.code in
      thread_kept (set_cells s (raise k (λ x. assigns x p || assigns x q) l 0 s.cells)) i (at_code (cond w p q) (in_branch l w p q c ∷ os))
      (raise_kept s (k.join h.level (type_of k sc typing e)) l p q K u ps.0 ps.1) (way_typed h.level e w p q c l os u h.inside h.code)
  step_at_kept s i (loop e b c) running os K h =
      thread_kept s i (cond (is_zero (value_of k sc s e)) (at_code c os) (at_code b (in_loop e b c ∷ os))) K (loop_typed h.level e b c os (is_zero (value_of k sc s e)) h.inside h.code)
  step_at_kept s i (lock m e b c) running os K h = thread_kept s i (at_code b (in_lock m c ∷ os)) K (lock_typed h.level m e b c os h.inside h.code)

  pub turn_kept : (s : State) (o : Option ℕ) → Kept k sc typing s → Kept k sc typing (take_turn (rules k sc) s o)
  turn_kept s none K = record { cells = K.cells; threads = K.threads }
  turn_kept s (some i) K =
      let t = get_or s.threads i ended in
      let r = step_at_kept s i t.code t.pace t.inside K (threads_at s.threads i K.threads) in
      record { cells = r.cells; threads = r.threads }
