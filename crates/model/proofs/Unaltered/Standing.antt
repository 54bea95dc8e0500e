-- A typed thread stands as it does with every level open.
use Rattle.std.proofs.Common.{◌≡◌, ℕ, suc, Bool, T, List, [], ◌∷◌, map, get_or, sym, refl, ap, ◌∙◌, subst, ap₂}
use Rattle.lattice.specs.Levels.{Levels}
use Rattle.model.specs.Levels.{is_open, opened}
use Rattle.codec.specs.Expressions.{Expr}
use Rattle.script.specs.Code.{Code, Script}
use Rattle.model.specs.Stretches.{fixed_time}
use Rattle.script.specs.Code.Code.{done, skip, assign, put, branch, loop, lock}
use Rattle.model.specs.Threads.{Open, Pace, Thread, ended, context}
use Rattle.model.specs.Machine.{State, level_of, status_at, status, each_from, all_true, status_is_ready, status_is_finished, ready_set, all_finished, rules}
use Rattle.model.specs.Threads.Pace.{running, idling}
use Rattle.model.specs.Machine.Status.{ready}
use Rattle.model.specs.Inspection.{types, type_of}
use Rattle.model.proofs.Tests.{and_false, by_test, is_true}
use Rattle.model.proofs.Unaltered.Under.{Under, under_zero, under_join, open_join}
use Rattle.model.proofs.Unaltered.Erased.{erase, erase_open, erase_thread, context_erased, thread_erased, level_erased, value_erased}
use Rattle.model.proofs.Unaltered.Typed.{World, Stack, Typed, Kept, threads_at, context_under, level_under, branch_parts, loop_parts, lock_parts}
use Rattle.model.proofs.Unaltered.Closed.{quiet, over_closed, open_zero, not_zero, against_erased}

from_erased : (f g : ℕ → Bool) → ((i : ℕ) → f i ≡ g i) → (i : ℕ) (ts : List Thread) → each_from f i (map erase_thread ts) ≡ each_from g i ts
from_erased f g h i [] = refl
from_erased f g h i (t ∷ ts) = ap₂ (λ (b : Bool) (r : List Bool). b ∷ r) (h i) (from_erased f g h (suc i) ts)

module _ {k : Levels} {sc : Script} {typing : List ℕ} (W : World k sc typing) (s : State) (K : Kept k sc typing s) where
  -- An expression that types open is open.
  pub level_open : (e : Expr) → T (is_open (type_of k sc typing e)) → level_of k sc s e ≡ 0
  level_open e h = under_zero W.laws (subst (λ (n : ℕ). Under k (level_of k sc s e) n) (open_zero (type_of k sc typing e) h) (level_under W s K.cells e))

  pub context_open : (t : ℕ) (os : List Open) → Stack k sc typing t os → T (is_open t) → context os ≡ 0
  context_open t os h o = under_zero W.laws (subst (λ (n : ℕ). Under k (context os) n) (open_zero t o) (context_under W t os h))

  -- The level of a branch is under its type.
  pub entry_under : (t : ℕ) (os : List Open) → Stack k sc typing t os → (e : Expr) → Under k (k.join (context os) (level_of k sc s e)) (k.join t (type_of k sc typing e))
  entry_under t os h e = under_join W.laws (context_under W t os h) (level_under W s K.cells e)

  branch_ready : (i t : ℕ) (os : List Open) (e : Expr) (p q c : Code) → Stack k sc typing t os → T (types k sc typing t (branch e p q c)) → status_at k sc s i (branch e p q c) running os ≡ ready
  branch_ready i t os e p q c h ty =
      let l = k.join (context os) (level_of k sc s e) in
      let u = entry_under t os h e in
      let ps = branch_parts k sc typing t e p q c ty in
      by_test (is_open l)
      (λ o. rw (is_true (is_open l) o) (simp and_false))
      (λ o.
      let n = over_closed W u (not_zero l o) in
      let rp = quiet W (k.join t (type_of k sc typing e)) p u.high n ps.0 in
      let rq = quiet W (k.join t (type_of k sc typing e)) q u.high n ps.1 in
      rw (is_true (fixed_time p) rp.evens, is_true (fixed_time q) rq.evens, rp.names, rq.names) (simp and_false))

  branch_ready_erased : (i : ℕ) (os : List Open) (e : Expr) (p q c : Code) → status_at k (opened sc) (erase s) i (branch e p q c) running (map erase_open os) ≡ ready
  branch_ready_erased i os e p q c = rw (context_erased os, level_erased W.laws sc s e, open_join W.laws) (simp and_false)

  pub standing_at : (i : ℕ) (c : Code) (p : Pace) (os : List Open) → Typed k sc typing c os → status_at k (opened sc) (erase s) i c p (map erase_open os) ≡ status_at k sc s i c p os
  standing_at i c (idling n) os h = refl
  standing_at i done running [] h = refl
  standing_at i done running (o ∷ os) h = refl
  standing_at i (skip c) running os h = refl
  standing_at i (assign x e c) running os h = refl
  standing_at i (put x e c) running os h = refl
  standing_at i (branch e p q c) running os h = branch_ready_erased i os e p q c ∙ sym (branch_ready i h.level os e p q c h.inside h.code)
  standing_at i (loop e b c) running os h = rw (level_erased W.laws sc s e, level_open e (loop_parts k sc typing h.level e b c h.code).1)
  standing_at i (lock m e b c) running os h =
      let ps = lock_parts k sc typing h.level m e b c h.code in
      rw (level_erased W.laws sc s e, level_open e ps.1, context_erased os, context_open h.level os h.inside ps.0, value_erased W.laws sc s e, against_erased W i s.threads K.threads)

  pub standing : (i : ℕ) → status k (opened sc) (erase s) i ≡ status k sc s i
  standing i =
      let t = get_or s.threads i ended in
      ap (λ (u : Thread). status_at k (opened sc) (erase s) i u.code u.pace u.inside) (thread_erased s.threads i)
      ∙ standing_at i t.code t.pace t.inside (threads_at s.threads i K.threads)

  pub ready_set_erased : ready_set (rules k (opened sc)) (erase s) ≡ ready_set (rules k sc) s
  ready_set_erased = from_erased (λ i. status_is_ready (status k (opened sc) (erase s) i)) (λ i. status_is_ready (status k sc s i)) (λ i. ap status_is_ready (standing i)) 0 s.threads

  pub all_finished_erased : all_finished (rules k (opened sc)) (erase s) ≡ all_finished (rules k sc) s
  all_finished_erased = ap all_true (from_erased (λ i. status_is_finished (status k (opened sc) (erase s) i)) (λ i. status_is_finished (status k sc s i)) (λ i. ap status_is_finished (standing i)) 0 s.threads)
