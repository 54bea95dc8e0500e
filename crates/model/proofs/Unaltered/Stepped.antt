-- A turn of a typed thread is, with every level open, the turn of that thread in the opened script.
use Rattle.std.proofs.Common.{◌≡◌, ℕ, suc, false, cond, not, ◌||◌, T, List, [], ◌∷◌, map, get_or, sym, refl, ap, ◌∙◌}
use mathlib.Core.Option.{Option, none, some}
use Rattle.lattice.specs.Levels.{Levels}
use Rattle.codec.specs.Expressions.{Expr}
use Rattle.script.specs.Code.{Code, Script}
use Rattle.model.specs.Stretches.{assigns}
use Rattle.script.specs.Code.Code.{done, skip, assign, put, branch, loop, lock}
use Rattle.model.specs.Values.{Cell, is_zero}
use Rattle.model.specs.Threads.{Open, Pace, Thread, ended, context, guard, at_code}
use Rattle.model.specs.Machine.{State, unused, level_of, value_of, raise, lag, add_entry, set_thread, set_cell, set_cells, set_channel, close_branch, do_put, step_at, step, take_turn, one_more, rules}
use Rattle.model.specs.Threads.Open.{in_branch, in_loop, in_lock}
use Rattle.model.specs.Threads.Pace.{running, idling}
use Rattle.model.specs.Inspection.{types}
use Rattle.model.specs.Levels.{opened}
use Rattle.model.proofs.Tests.{is_true, getD_zeros}
use Rattle.model.proofs.Unaltered.Under.{under_trans, open_join}
use Rattle.model.proofs.Unaltered.Erased.{erase, erase_cell, erase_open, erase_thread, context_erased, thread_erased, level_erased, value_erased, guard_erased, raise_erased, close_erased, set_thread_erased, set_cell_erased, cond_erased}
use Rattle.model.proofs.Unaltered.Typed.{World, Stack, Typed, Kept, threads_at, context_under, level_under, put_parts}

module _ {k : Levels} {sc : Script} {typing : List ℕ} (W : World k sc typing) (s : State) (K : Kept k sc typing s) where
  -- What a put of a typed thread does: the value goes in.
  put_goes : (i t h : ℕ) (e : Expr) (c : Code) (os : List Open) → Stack k sc typing t os → T (types k sc typing t (put h e c)) →
      do_put k sc s i h e os ≡ set_channel s h (add_entry (get_or sc.channel_sizes h 0) (record { turn = suc s.turns; thread = i; mark = false; value = value_of k sc s e }) (get_or s.channels h unused))
  unfolding do_put
  put_goes i t h e c os st ty =
      let ps = put_parts k sc typing t h e c ty in
      let to = get_or sc.channel_levels h 0 in
      let pl = context_under W t os st in
      let lv = level_under W s K.cells e in
      let a = under_trans W.laws pl (record { low = pl.high; high = W.channel_had h; flow = ps.1 }) in
      let b = under_trans W.laws lv (record { low = lv.high; high = W.channel_had h; flow = ps.0 }) in
      rw (is_true (k.flows (context os) to) a.flow, is_true (k.flows (level_of k sc s e) to) b.flow)

  put_goes_erased : (i h : ℕ) (e : Expr) (os : List Open) →
      do_put k (opened sc) (erase s) i h e (map erase_open os) ≡ set_channel (erase s) h (add_entry (get_or sc.channel_sizes h 0) (record { turn = suc s.turns; thread = i; mark = false; value = value_of k sc s e }) (get_or s.channels h unused))
  unfolding do_put
  put_goes_erased i h e os =
      rw (context_erased os, level_erased W.laws sc s e, getD_zeros sc.channel_levels h, is_true (k.flows 0 0) (W.laws.flows_refl 0 W.laws.open_has), value_erased W.laws sc s e)

  cell_is : (x : ℕ) (e : Expr) → erase_cell (record { value = value_of k sc s e; level = k.join (level_of k sc s e) (guard k x s.threads 0) }) ≡ record { value = value_of k (opened sc) (erase s) e; level = k.join (level_of k (opened sc) (erase s) e) (guard k x (map erase_thread s.threads) 0) }
  cell_is x e = rw (level_erased W.laws sc s e, value_erased W.laws sc s e, guard_erased W.laws x s.threads 0 refl, open_join W.laws)

  pub step_at_erased : (i : ℕ) (c : Code) (p : Pace) (os : List Open) → Typed k sc typing c os → erase (step_at k sc s i c p os) ≡ step_at k (opened sc) (erase s) i c p (map erase_open os)
  unfolding step_at
  step_at_erased i c (idling n) [] h = refl
  step_at_erased i c (idling n) (in_branch l w p q next ∷ os) h = set_thread_erased s i (close_branch n (in_branch l w p q next) os next) ∙ ap (set_thread (erase s) i) (close_erased n (in_branch l w p q next) os next)
  step_at_erased i c (idling n) (in_loop e b next ∷ os) h = refl
  step_at_erased i c (idling n) (in_lock m next ∷ os) h = refl
  step_at_erased i done running [] h = refl
  step_at_erased i done running (in_branch l w p q next ∷ os) h = set_thread_erased s i (close_branch (lag w p q) (in_branch l w p q next) os next) ∙ ap (set_thread (erase s) i) (close_erased (lag w p q) (in_branch l w p q next) os next)
  step_at_erased i done running (in_loop e b next ∷ os) h = set_thread_erased s i (at_code (loop e b next) os)
  step_at_erased i done running (in_lock m next ∷ os) h = set_thread_erased s i (at_code next os)
  step_at_erased i (skip c) running os h = set_thread_erased s i (at_code c os)
  step_at_erased i (assign x e c) running os h =
      set_thread_erased (set_cell s x (record { value = value_of k sc s e; level = k.join (level_of k sc s e) (guard k x s.threads 0) })) i (at_code c os)
      ∙ ap (λ (r : State). set_thread r i (at_code c (map erase_open os)))
      (set_cell_erased s x (record { value = value_of k sc s e; level = k.join (level_of k sc s e) (guard k x s.threads 0) }) ∙ ap (set_cell (erase s) x) (cell_is x e))
  step_at_erased i (put x e c) running os h =
      set_thread_erased (do_put k sc s i x e os) i (at_code c os)
      ∙ ap (λ (r : State). set_thread r i (at_code c (map erase_open os))) (ap erase (put_goes i h.level x e c os h.inside h.code) ∙ sym (put_goes_erased i x e os))
  step_at_erased i (branch e p q c) running os h =
      rw (context_erased os, level_erased W.laws sc s e, open_join W.laws, value_erased W.laws sc s e)
      (set_thread_erased
      (set_cells s (raise k (λ x. assigns x p || assigns x q) (k.join (context os) (level_of k sc s e)) 0 s.cells)) i
      (at_code (cond (not (is_zero (value_of k sc s e))) p q) (in_branch (k.join (context os) (level_of k sc s e)) (not (is_zero (value_of k sc s e))) p q c ∷ os))
      ∙ ap (λ (cs : List Cell). set_thread (set_cells (erase s) cs) i (at_code (cond (not (is_zero (value_of k sc s e))) p q) (in_branch 0 (not (is_zero (value_of k sc s e))) p q c ∷ map erase_open os)))
      (raise_erased W.laws (λ x. assigns x p || assigns x q) (k.join (context os) (level_of k sc s e)) 0 s.cells))
  step_at_erased i (loop e b c) running os h =
      rw (value_erased W.laws sc s e)
      (set_thread_erased s i (cond (is_zero (value_of k sc s e)) (at_code c os) (at_code b (in_loop e b c ∷ os)))
      ∙ ap (set_thread (erase s) i) (cond_erased (is_zero (value_of k sc s e)) (at_code c os) (at_code b (in_loop e b c ∷ os))))
  step_at_erased i (lock m e b c) running os h = set_thread_erased s i (at_code b (in_lock m c ∷ os))

  pub step_erased : (i : ℕ) → erase (step k sc s i) ≡ step k (opened sc) (erase s) i
  step_erased i =
      let t = get_or s.threads i ended in
      step_at_erased i t.code t.pace t.inside (threads_at s.threads i K.threads)
      ∙ sym (ap (λ (u : Thread). step_at k (opened sc) (erase s) i u.code u.pace u.inside) (thread_erased s.threads i))

  pub turn_erased : (o : Option ℕ) → erase (take_turn (rules k sc) s o) ≡ take_turn (rules k (opened sc)) (erase s) o
  turn_erased none = refl
  turn_erased (some i) = ap one_more (step_erased i)
