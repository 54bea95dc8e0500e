-- A stretch that types at a level that is not open takes a fixed time and names no lock; a stretch that assigns a variable types at a level under the variable's.
use Rattle.std.proofs.Common.{◌≡◌, ℕ, zero, suc, Bool, true, false, cond, ◌&&◌, ◌||◌, T, eqb, List, [], ◌∷◌, map, get_or, sym, refl, ap, ◌∙◌, subst, eqb→eq}
use mathlib.Core.Bool.{false≢true}
use Rattle.lattice.specs.Levels.{Levels}
use Rattle.model.specs.Levels.{is_open}
use Rattle.codec.specs.Expressions.{Expr}
use Rattle.script.specs.Code.{Code, Script}
use Rattle.model.specs.Stretches.{assigns, fixed_time, needs}
use Rattle.script.specs.Code.Code.{done, skip, assign, put, branch, loop, lock}
use Rattle.model.specs.Threads.{Open, Thread, reserved, held_by, against, guard_of, guard}
use Rattle.model.specs.Threads.Open.{in_branch, in_loop, in_lock}
use Rattle.model.specs.Inspection.{types, type_of}
use Rattle.model.proofs.Tests.{and_false, or_cases, by_test, is_true, both}
use Rattle.model.proofs.Unaltered.Under.{Under, under_zero, under_trans, under_left, under_least}
use Rattle.model.proofs.Unaltered.Erased.{erase_thread, owned_erased, reserved_erased}
use Rattle.model.proofs.Unaltered.Typed.{World, Stack, Threads, type_had, assign_parts, put_parts, branch_parts, loop_parts, lock_parts}

pub record Quiet (c : Code) : Type 0 where
  pub evens : T (fixed_time c)
  pub names : needs c ≡ 0

pub open_zero : (l : ℕ) → T (is_open l) → l ≡ 0
open_zero l h = eqb→eq l 0 h

pub not_zero : (l : ℕ) → is_open l ≡ false → l ≡ 0 → ⊥
not_zero l h e = false≢true (sym h ∙ ap (λ (n : ℕ). is_open n) e)

module _ {k : Levels} {sc : Script} {typing : List ℕ} (W : World k sc typing) where
  -- What is over a level that is not open is not open.
  pub over_closed : {a b : ℕ} → Under k a b → (a ≡ 0 → ⊥) → b ≡ 0 → ⊥
  over_closed {a} p h e = h (under_zero W.laws (subst (λ (n : ℕ). Under k a n) e p))

  pub branch_under : (t : ℕ) (e : Expr) → T (k.has t) → Under k t (k.join t (type_of k sc typing e))
  branch_under t e h = under_left W.laws h (type_had W e)

  pub quiet : (t : ℕ) (c : Code) → T (k.has t) → (t ≡ 0 → ⊥) → T (types k sc typing t c) → Quiet c
  quiet t done h n ty = record { evens = tt; names = refl }
  quiet t (skip c) h n ty = let r = quiet t c h n ty in record { evens = r.evens; names = r.names }
  quiet t (assign x e c) h n ty = let r = quiet t c h n (assign_parts k sc typing t x e c ty).2 in record { evens = r.evens; names = r.names }
  quiet t (put x e c) h n ty = let r = quiet t c h n (put_parts k sc typing t x e c ty).2 in record { evens = r.evens; names = r.names }
  quiet t (branch e p q c) h n ty =
      let u = branch_under t e h in
      let ps = branch_parts k sc typing t e p q c ty in
      let rp = quiet (k.join t (type_of k sc typing e)) p u.high (over_closed u n) ps.0 in
      let rq = quiet (k.join t (type_of k sc typing e)) q u.high (over_closed u n) ps.1 in
      let rc = quiet t c h n ps.2 in
      record { evens = both (fixed_time p && fixed_time q) (fixed_time c) (both (fixed_time p) (fixed_time q) rp.evens rq.evens) rc.evens; names = rw (rp.names, rq.names, rc.names) }
  quiet t (loop e b c) h n ty = absurd (n (open_zero t (loop_parts k sc typing t e b c ty).0))
  quiet t (lock m e b c) h n ty = absurd (n (open_zero t (lock_parts k sc typing t m e b c ty).0))

  pub assigns_under : (x t : ℕ) (c : Code) → T (k.has t) → T (types k sc typing t c) → T (assigns x c) → Under k t (get_or typing x 0)
  assigns_under x t done h ty a = absurd a
  assigns_under x t (skip c) h ty a = assigns_under x t c h ty a
  assigns_under x t (assign y e c) h ty a =
      let ps = assign_parts k sc typing t y e c ty in
      or_cases (eqb x y) (assigns x c)
      (λ here. record { low = h; high = W.variable_had x; flow = subst (λ (z : ℕ). T (k.flows t (get_or typing z 0))) (sym (eqb→eq x y here)) ps.1 })
      (λ later. assigns_under x t c h ps.2 later) a
  assigns_under x t (put y e c) h ty a = assigns_under x t c h (put_parts k sc typing t y e c ty).2 a
  assigns_under x t (branch e p q c) h ty a =
      let u = branch_under t e h in
      let ps = branch_parts k sc typing t e p q c ty in
      or_cases (assigns x p || assigns x q) (assigns x c)
      (or_cases (assigns x p) (assigns x q)
      (λ b. under_trans W.laws u (assigns_under x (k.join t (type_of k sc typing e)) p u.high ps.0 b))
      (λ b. under_trans W.laws u (assigns_under x (k.join t (type_of k sc typing e)) q u.high ps.1 b)))
      (λ b. assigns_under x t c h ps.2 b) a
  assigns_under x t (loop e b c) h ty a =
      let ps = loop_parts k sc typing t e b c ty in
      or_cases (assigns x b) (assigns x c) (assigns_under x t b h ps.2) (assigns_under x t c h ps.3) a
  assigns_under x t (lock m e b c) h ty a =
      let ps = lock_parts k sc typing t m e b c ty in
      or_cases (assigns x b) (assigns x c) (assigns_under x t b h ps.2) (assigns_under x t c h ps.3) a

  -- The guard on a variable is under its type.
  pub guard_of_under : (x t : ℕ) (os : List Open) (a : ℕ) → Stack k sc typing t os → Under k a (get_or typing x 0) → Under k (guard_of k x os a) (get_or typing x 0)
  guard_of_under x t [] a h ha = ha
  guard_of_under x t (in_branch l w p q n ∷ os) a h ha =
      pick (assigns x p || assigns x q) (or_cases (assigns x p) (assigns x q) (λ b. under_trans W.laws h.1 (assigns_under x t p h.1.high h.2 b)) (λ b. under_trans W.laws h.1 (assigns_under x t q h.1.high h.3 b)))
      (guard_of_under x h.0 os a h.5 ha)
    where
      pick : (b : Bool) → (T b → Under k l (get_or typing x 0)) → {g : ℕ} → Under k g (get_or typing x 0) → Under k (cond b (k.join g l) g) (get_or typing x 0)
      pick true f r = under_least W.laws r (f tt)
      pick false f r = r
  guard_of_under x t (in_loop e b n ∷ os) a h ha = guard_of_under x 0 os a h.2 ha
  guard_of_under x t (in_lock m n ∷ os) a h ha = guard_of_under x 0 os a h.2 ha

  pub guard_under : (x : ℕ) (ts : List Thread) (a : ℕ) → Threads k sc typing ts → Under k a (get_or typing x 0) → Under k (guard k x ts a) (get_or typing x 0)
  guard_under x [] a h ha = ha
  guard_under x (t ∷ ts) a h ha = guard_under x ts (guard_of k x t.inside a) h.1 (guard_of_under x h.0.level t.inside a h.0.inside ha)

  -- Nothing is reserved.
  pub reserved_none : (t : ℕ) (os : List Open) → Stack k sc typing t os → reserved os ≡ 0
  reserved_none t [] h = refl
  reserved_none t (in_branch l w p q n ∷ os) h =
      by_test (is_open l)
      (λ o. rw (is_true (is_open l) o, and_false) (reserved_none h.0 os h.5))
      (closed (reserved_none h.0 os h.5))
    where
      none : (b : Bool) → ◌≡◌ {A = ℕ} (cond b 0 0) 0
      none true = refl
      none false = refl

      closed : reserved os ≡ 0 → is_open l ≡ false → reserved (in_branch l w p q n ∷ os) ≡ 0
      closed r o =
          let c = over_closed h.1 (not_zero l o) in
          rw ((quiet t p h.1.high c h.2).names, (quiet t q h.1.high c h.3).names, none) r
  reserved_none t (in_loop e b n ∷ os) h = reserved_none 0 os h.2
  reserved_none t (in_lock m n ∷ os) h = reserved_none 0 os h.2

  pub held_erased : (ts : List Thread) → Threads k sc typing ts → held_by (map erase_thread ts) ≡ held_by ts
  held_erased [] h = refl
  held_erased (t ∷ ts) h = rw (owned_erased t.inside, reserved_erased t.inside, reserved_none h.0.level t.inside h.0.inside, held_erased ts h.1)

  pub against_erased : (i : ℕ) (ts : List Thread) → Threads k sc typing ts → against i (map erase_thread ts) ≡ against i ts
  against_erased i [] h = refl
  against_erased zero (t ∷ ts) h = rw (reserved_erased t.inside, reserved_none h.0.level t.inside h.0.inside) (held_erased ts h.1)
  against_erased (suc i) (t ∷ ts) h = rw (owned_erased t.inside, reserved_erased t.inside, reserved_none h.0.level t.inside h.0.inside, against_erased i ts h.1)
