-- A thread inside a branch whose level is not seen: what it is at takes a fixed time, and it lasts as long whichever way was taken.
use Rattle.std.proofs.Common.{◌≡◌, ℕ, suc, ◌+◌, ◌<◌, Bool, true, false, ◌&&◌, ◌||◌, T, List, ◌∷◌, get_or, refl, ◌∙◌, rules}
use lib.Bits.{bit_or}
use Rattle.lattice.specs.Levels.{Levels}
use Rattle.codec.specs.Expressions.{Expr}
use Rattle.script.specs.Code.{Code}
use Rattle.model.specs.Stretches.{assigns, fixed_time, duration, needs, is_literal_one}
use Rattle.script.specs.Code.Code.{done, skip, assign, put, branch, loop, lock}
use Rattle.model.specs.Values.{blank, joined}
use Rattle.model.specs.Threads.{Open, Pace, guard_of, context, owned, reserved}
use Rattle.model.specs.Machine.{State, status_at, lag}
use Rattle.model.specs.Threads.Open.{in_branch, in_lock}
use Rattle.model.specs.Threads.Pace.{running, idling}
use Rattle.model.specs.Machine.Status.{ready}
use Rattle.model.proofs.Confidential.Masks.{Lies, lies_zero, lies_trans, lies_left, lies_right, absorb}
use Rattle.model.proofs.Tests.{is_true, and_left, and_right, or_left, or_right}
use Rattle.model.proofs.Confidential.Slots.{T_false}
use Rattle.model.proofs.Confidential.View.{View, Hid, hid_not_open}
use Rattle.model.proofs.Confidential.Stack.{In, assigned}
use Rattle.model.proofs.Confidential.Stack.In.{here, there}

-- The outermost branch that is not seen: both ways, what follows it, and the blocks around it.
pub record Way : Type 0 where
  pub p : Code
  pub q : Code
  pub next : Code
  pub rest : List Open

abbrev pub base : Way → ℕ → Bool → List Open
base y l w = in_branch l w y.p y.q y.next ∷ y.rest

abbrev pub mask : Way → ℕ
mask y = bit_or (needs y.p) (needs y.q)

-- A stretch that does no more than the two ways.
pub record Within (y : Way) (c : Code) : Type 0 where
  pub flat : T (fixed_time c)
  pub fewer : (x : ℕ) → T (assigns x c) → T (assigned x y.p y.q)
  pub locks : Lies (needs c) (mask y)

module _ {y : Way} where
  pub within_p : T (fixed_time y.p) → Within y y.p
  within_p h = record { flat = h; fewer = λ x t. or_left (assigns x y.p) (assigns x y.q) t; locks = lies_left (needs y.p) (needs y.q) }

  pub within_q : T (fixed_time y.q) → Within y y.q
  within_q h = record { flat = h; fewer = λ x t. or_right (assigns x y.p) (assigns x y.q) t; locks = lies_right (needs y.p) (needs y.q) }

  pub within_done : Within y done
  within_done = record { flat = tt; fewer = λ x t. absurd t; locks = lies_zero (mask y) }

  pub within_skip : (c : Code) → Within y (skip c) → Within y c
  within_skip c h = record { flat = h.flat; fewer = h.fewer; locks = h.locks }

  pub within_assign : (x : ℕ) (e : Expr) (c : Code) → Within y (assign x e c) → Within y c
  within_assign x e c h = record { flat = h.flat; fewer = λ z t. h.fewer z (or_right (lib.Dec.eqb z x) (assigns z c) t); locks = h.locks }

  pub within_put : (n : ℕ) (e : Expr) (c : Code) → Within y (put n e c) → Within y c
  within_put n e c h = record { flat = h.flat; fewer = h.fewer; locks = h.locks }

  pub within_branch_p : (e : Expr) (p q c : Code) → Within y (branch e p q c) → Within y p
  within_branch_p e p q c h = record {
    flat = and_left (fixed_time p) (fixed_time q) (and_left (fixed_time p && fixed_time q) (fixed_time c) h.flat);
    fewer = λ x t. h.fewer x (or_left (assigns x p || assigns x q) (assigns x c) (or_left (assigns x p) (assigns x q) t));
    locks = lies_trans (lies_trans (lies_left (needs p) (needs q)) (lies_left (bit_or (needs p) (needs q)) (needs c))) h.locks;
  }

  pub within_branch_q : (e : Expr) (p q c : Code) → Within y (branch e p q c) → Within y q
  within_branch_q e p q c h = record {
    flat = and_right (fixed_time p) (fixed_time q) (and_left (fixed_time p && fixed_time q) (fixed_time c) h.flat);
    fewer = λ x t. h.fewer x (or_left (assigns x p || assigns x q) (assigns x c) (or_right (assigns x p) (assigns x q) t));
    locks = lies_trans (lies_trans (lies_right (needs p) (needs q)) (lies_left (bit_or (needs p) (needs q)) (needs c))) h.locks;
  }

  pub within_branch : (e : Expr) (p q c : Code) → Within y (branch e p q c) → Within y c
  within_branch e p q c h = record {
    flat = and_right (fixed_time p && fixed_time q) (fixed_time c) h.flat;
    fewer = λ x t. h.fewer x (or_right (assigns x p || assigns x q) (assigns x c) t);
    locks = lies_trans (lies_right (bit_or (needs p) (needs q)) (needs c)) h.locks;
  }

  pub within_lock_in : (m : ℕ) (e : Expr) (b c : Code) → Within y (lock m e b c) → Within y b
  within_lock_in m e b c h = record {
    flat = and_right (is_literal_one e) (fixed_time b) (and_left (is_literal_one e && fixed_time b) (fixed_time c) h.flat);
    fewer = λ x t. h.fewer x (or_left (assigns x b) (assigns x c) t);
    locks = lies_trans (lies_trans (lies_right m (needs b)) (lies_left (bit_or m (needs b)) (needs c))) h.locks;
  }

  pub within_lock : (m : ℕ) (e : Expr) (b c : Code) → Within y (lock m e b c) → Within y c
  within_lock m e b c h = record {
    flat = and_right (is_literal_one e && fixed_time b) (fixed_time c) h.flat;
    fewer = λ x t. h.fewer x (or_right (assigns x b) (assigns x c) t);
    locks = lies_trans (lies_right (bit_or m (needs b)) (needs c)) h.locks;
  }

  pub within_lock_mask : (m : ℕ) (e : Expr) (b c : Code) → Within y (lock m e b c) → Lies m (mask y)
  within_lock_mask m e b c h = lies_trans (lies_trans (lies_left m (needs b)) (lies_left (bit_or m (needs b)) (needs c))) h.locks

-- The blocks that a thread is in from the outermost hidden branch on, and the turns from their first end to the close of that branch.
pub data Above (v : View) (y : Way) (l : ℕ) (w : Bool) : List Open → ℕ → Type 0 where
  at_base : Above v y l w (base y l w) (suc (lag w y.p y.q))
  in_br : {os : List Open} {n l' : ℕ} {w' : Bool} {p q c : Code} → Above v y l w os n → Hid v l' → Within y p → Within y q → Within y c
      → Above v y l w (in_branch l' w' p q c ∷ os) (suc (lag w' p q + (duration c + n)))
  in_lk : {os : List Open} {n m : ℕ} {c : Code} → Above v y l w os n → Lies m (mask y) → Within y c
      → Above v y l w (in_lock m c ∷ os) (suc (duration c + n))

-- A thread there with n turns left until the branch is closed, the closing turn among them.
pub data Quiet (v : View) (y : Way) (l : ℕ) (w : Bool) : Code → Pace → List Open → ℕ → Type 0 where
  runs : {c : Code} {os : List Open} {m n : ℕ} → Above v y l w os m → Within y c → n ≡ duration c + m → Quiet v y l w c running os n
  waits : {os : List Open} {m n j l' : ℕ} {w' : Bool} {p q c : Code} → Above v y l w os m → Hid v l' → Within y p → Within y q → Within y c
      → n ≡ suc (j + (duration c + m)) → Quiet v y l w done (idling j) (in_branch l' w' p q c ∷ os) n
  waits_last : {j n : ℕ} → n ≡ suc j → Quiet v y l w done (idling j) (base y l w) n

literal_level : (k : Levels) (f g : ℕ → ℕ) (e : Expr) → T (is_literal_one e) → joined k f g e 0 ≡ 0
literal_level k f g e h = search rules

not_assigned : {y : Way} (x : ℕ) (c d : Code) → (T (assigned x y.p y.q) → ⊥) → Within y c → Within y d → assigned x c d ≡ false
not_assigned x c d f hc hd = go (assigns x c) (assigns x d) (λ t. f (hc.fewer x t)) (λ t. f (hd.fewer x t))
  where
    go : (a b : Bool) → (T a → ⊥) → (T b → ⊥) → (a || b) ≡ false
    go true b f g = absurd (f tt)
    go false b f g = T_false b g

module _ (v : View) {y : Way} {l : ℕ} {w : Bool} where
  pub above_pos : {os : List Open} {n : ℕ} → Above v y l w os n → 0 < n
  above_pos a = search rules

  pub quiet_pos : {c : Code} {r : Pace} {os : List Open} {n : ℕ} → Quiet v y l w c r os n → 0 < n
  quiet_pos a = search rules

  pub above_context : {os : List Open} {n : ℕ} → Hid v l → Above v y l w os n → Hid v (context os)
  above_context hl at_base = hl
  above_context hl (in_br a h x y z) = h
  above_context hl (in_lk a h x) = above_context hl a

  pub above_in : {os : List Open} {n : ℕ} → Above v y l w os n → In l y.p y.q os
  above_in at_base = here
  above_in (in_br a h x y z) = there (above_in a)
  above_in (in_lk a h x) = there (above_in a)

  pub above_reserved : {os : List Open} {n : ℕ} → Hid v l → Above v y l w os n → reserved os ≡ reserved (base y l w)
  above_reserved hl at_base = refl
  above_reserved hl (in_br {os = os} a h x y z) = rw (hid_not_open v (above_context hl a)) (above_reserved hl a)
  above_reserved hl (in_lk a h x) = above_reserved hl a

  pub above_owned : {os : List Open} {n : ℕ} → Above v y l w os n → (m : ℕ) → Lies (mask y) m → bit_or (owned os) m ≡ bit_or (owned y.rest) m
  above_owned at_base m i = refl
  above_owned (in_br a h x y z) m i = above_owned a m i
  above_owned (in_lk {os = os} {m = n} a h x) m i = absorb (owned os) (lies_trans h i) ∙ above_owned a m i

  pub above_guard : (x : ℕ) {os : List Open} {n : ℕ} (acc : ℕ) → (T (assigned x y.p y.q) → ⊥) → Above v y l w os n → guard_of v.k x os acc ≡ guard_of v.k x y.rest acc
  above_guard x acc f at_base = rw (T_false (assigned x y.p y.q) f) refl
  above_guard x acc f (in_br {p = p} {q = q} a h hp hq z) = rw (not_assigned x p q f hp hq) (above_guard x acc f a)
  above_guard x acc f (in_lk a h z) = above_guard x acc f a

  pub quiet_above : {c : Code} {r : Pace} {os : List Open} {n : ℕ} → Quiet v y l w c r os n → (m : ℕ) × Above v y l w os m
  quiet_above (runs {m = m} a h e) = (m, a)
  quiet_above (waits a h x y z e) = (_, in_br a h x y z)
  quiet_above (waits_last e) = (_, at_base)

  done_ready : (s : State) (i : ℕ) {os : List Open} {n : ℕ} → Above v y l w os n → status_at v.k v.sc s i done running os ≡ ready
  done_ready s i a = search rules

  run_ready : (s : State) (i : ℕ) (c : Code) {os : List Open} {n : ℕ} → Hid v l → Above v y l w os n → Within y c → status_at v.k v.sc s i c running os ≡ ready
  run_ready s i done hl a h = done_ready s i a
  run_ready s i (skip c) hl a h = refl
  run_ready s i (assign x e c) hl a h = refl
  run_ready s i (put n e c) hl a h = refl
  run_ready s i (branch e p q c) hl a h = rw (is_true (fixed_time p && fixed_time q) (and_left (fixed_time p && fixed_time q) (fixed_time c) h.flat), hid_not_open v (above_context hl a)) refl
  run_ready s i (loop e b c) hl a h = absurd h.flat
  run_ready s i (lock m e b c) hl a h =
      rw (
        literal_level v.k (λ x. (get_or s.cells x blank).level) (λ t. get_or v.sc.track_levels t 0) e (and_left (is_literal_one e) (fixed_time b) (and_left (is_literal_one e && fixed_time b) (fixed_time c) h.flat)),
        hid_not_open v (above_context hl a),
      ) refl

  pub quiet_ready : (s : State) (i : ℕ) {c : Code} {r : Pace} {os : List Open} {n : ℕ} → Hid v l → Quiet v y l w c r os n → status_at v.k v.sc s i c r os ≡ ready
  quiet_ready s i hl (runs {c = c} a h e) = run_ready s i c hl a h
  quiet_ready s i hl (waits a h x y z e) = refl
  quiet_ready s i hl (waits_last e) = refl
