-- What holds of every state that a run reaches: of each thread's blocks and code, of locks, and of the variables that closed branches assign.
use Rattle.std.proofs.Common.{◌≡◌, ℕ, zero, suc, ◌+◌, ◌<◌, ◌≤◌, Bool, true, false, cond, not, ◌&&◌, ◌||◌, T, eqb, ◌⊎◌, List, [], ◌∷◌, length, get_or, set, sym, refl, ap, ◌∙◌, inl, inr, arith, rules}
use lib.Dec.{eqb-suc-suc, eqb-suc-zero, eqb-zero-suc}
use lib.Bits.{bit_or}
use Rattle.model.specs.Levels.{is_open}
use Rattle.codec.specs.Expressions.{Expr}
use Rattle.script.specs.Code.{Code}
use Rattle.model.specs.Stretches.{is_literal_one, assigns, needs, fixed_time}
use Rattle.script.specs.Code.Code.{done, assign, branch, loop, lock}
use Rattle.model.specs.Values.{Cell, blank}
use Rattle.model.specs.Threads.{Open, Thread, ended, context, reserved, guard_of, guard}
use Rattle.model.specs.Threads.Open.{in_branch, in_loop, in_lock}
use Rattle.model.specs.Automaton.{all_bottom}
use Rattle.lattice.specs.Orders.{two_point}
use Rattle.model.specs.Follows.{outermost, counted, assigning, word}
use Rattle.model.proofs.Tests.{is_true, and_left, and_right, or_left, or_right}
use Rattle.model.proofs.Published.Masks.{test, test_or, test_zero}
use Rattle.model.proofs.Published.Opens.{nought_sum}
use Rattle.model.proofs.Published.Locks.{holds}

-- A stretch inside a closed branch: what it assigns and needs is the outermost closed branch's, and it takes a fixed time.
abbrev pub Within : Code → List Open → Type 0
Within c os =
    ((x : ℕ) → T (assigns x c) → eqb (counted x os) 0 ≡ false) ×
    ((n : ℕ) → T (test n (needs c)) → T (test n (reserved os))) ×
    T (fixed_time c)

abbrev pub Bound : Code → List Open → Type 0
Bound c os = is_open (context os) ≡ false → Within c os

abbrev pub Sound : List Open → Type 0
Sound [] = Unit {0}
Sound (in_branch l w p q n ∷ os) = (T (is_open l) → T (is_open (context os))) × (is_open l ≡ false → T (fixed_time p && fixed_time q)) × Bound (branch [] p q n) os × Sound os
Sound (in_loop e b n ∷ os) = Bound (loop e b n) os × Sound os
Sound (in_lock m n ∷ os) = Bound n os × Sound os

abbrev pub Good : Thread → Type 0
Good t = Sound t.inside × Bound t.code t.inside

pub record Kept (n : ℕ) (cells : List Cell) (ts : List Thread) : Type 0 where
  pub long : length cells ≡ n
  pub good : (j : ℕ) → Good (get_or ts j ended)
  -- A lock has one holder.
  pub alone : (n a b : ℕ) → T (holds n (get_or ts a ended).inside) → T (holds n (get_or ts b ended).inside) → a ≡ b
  -- What an outermost closed branch assigns is closed.
  pub raised : (x : ℕ) → x < n → eqb (assigning x ts) 0 ≡ false → is_open (get_or cells x blank).level ≡ false

-- Tests

pub clear : {P : Type 0} (b : Bool) → T b → b ≡ false → P
clear true h e = absurd (cc)
clear false h e = absurd h

pub as_test : (b : Bool) → b ≡ true → T b
as_test true e = tt
as_test false e = absurd cc

pub as_false : (b : Bool) → (T b → ⊥) → b ≡ false
as_false true f = absurd (f tt)
as_false false f = refl

-- Blocks

pub word_context : (os : List Open) → Sound os → all_bottom (word os) ≡ is_open (context os)
word_context [] h = refl
word_context (in_branch l w p q n ∷ os) h = ap (λ (b : Bool). not (outermost l os) && b) (word_context os h.3) ∙ go (is_open (context os)) (is_open l) h.0
  where
    go : (po lo : Bool) → (T lo → T po) → not (po && not lo) && po ≡ lo
    go true true f = refl
    go true false f = refl
    go false true f = absurd (f tt)
    go false false f = refl
word_context (in_loop e b n ∷ os) h = word_context os h.1
word_context (in_lock m n ∷ os) h = word_context os h.1

-- In an open context nothing is reserved.
pub none_reserved : (os : List Open) → Sound os → T (is_open (context os)) → reserved os ≡ 0
none_reserved [] h o = refl
none_reserved (in_branch l w p q n ∷ os) h o = rw (is_true (is_open l) o, is_true (is_open (context os)) (h.0 o)) (none_reserved os h.3 (h.0 o))
none_reserved (in_loop e b n ∷ os) h o = none_reserved os h.1 o
none_reserved (in_lock m n ∷ os) h o = none_reserved os h.1 o

-- The guard on a variable is open exactly if no outermost closed branch assigns it.
and_true : (b : Bool) → b && true ≡ b
and_true true = refl
and_true false = refl

guard_step : (inner l acc c : ℕ) (a po lo : Bool) → is_open l ≡ lo → (T lo → T po) → (T a → po ≡ false → eqb c 0 ≡ false) → is_open inner ≡ is_open acc && eqb c 0 →
    is_open (cond a (two_point.join inner l) inner) ≡ is_open acc && eqb (cond ((po && not lo) && a) (suc c) c) 0
guard_step inner l acc c a po lo e f g k = search rules

pub guard_of_counted : (x : ℕ) (os : List Open) (acc : ℕ) → Sound os → is_open (guard_of two_point x os acc) ≡ is_open acc && eqb (counted x os) 0
guard_of_counted x [] acc h = sym (and_true (is_open acc))
guard_of_counted x (in_branch l w p q n ∷ os) acc h =
    guard_step (guard_of two_point x os acc) l acc (counted x os) (assigns x p || assigns x q) (is_open (context os)) (is_open l) refl h.0
    (λ a o. (h.2 o).0 x (or_left (assigns x p || assigns x q) (assigns x n) a)) (guard_of_counted x os acc h.3)
guard_of_counted x (in_loop e b n ∷ os) acc h = guard_of_counted x os acc h.1
guard_of_counted x (in_lock m n ∷ os) acc h = guard_of_counted x os acc h.1

and_assoc : (a b c : Bool) → (a && b) && c ≡ a && (b && c)
and_assoc true b c = refl
and_assoc false b c = refl

pub guard_assigning : (x : ℕ) (ts : List Thread) (acc : ℕ) → ((j : ℕ) → Good (get_or ts j ended)) → is_open (guard two_point x ts acc) ≡ is_open acc && eqb (assigning x ts) 0
guard_assigning x [] acc h = sym (and_true (is_open acc))
guard_assigning x (t ∷ ts) acc h =
    guard_assigning x ts (guard_of two_point x t.inside acc) (λ j. h (suc j))
    ∙ ap (λ (b : Bool). b && eqb (assigning x ts) 0) (guard_of_counted x t.inside acc (h 0).0)
    ∙ and_assoc (is_open acc) (eqb (counted x t.inside) 0) (eqb (assigning x ts) 0)
    ∙ ap (λ (b : Bool). is_open acc && b) (sym (nought_sum (counted x t.inside) (assigning x ts)))

-- How many branches assign x, when one thread changes.
pub assigning_still : (x : ℕ) (ts : List Thread) (i : ℕ) (t : Thread) → counted x (get_or ts i ended).inside ≡ counted x t.inside → assigning x (set ts i t) ≡ assigning x ts
assigning_still x [] i t h = refl
assigning_still x (u ∷ ts) zero t h = ap (λ (n : ℕ). n + assigning x ts) (sym h)
assigning_still x (u ∷ ts) (suc i) t h = ap (λ (n : ℕ). counted x u.inside + n) (assigning_still x ts i t h)

pub assigning_set : (x : ℕ) (ts : List Thread) (i : ℕ) (t : Thread) → i < length ts → assigning x (set ts i t) + counted x (get_or ts i ended).inside ≡ assigning x ts + counted x t.inside
assigning_set x [] i t l = absurd (omega arith)
assigning_set x (u ∷ ts) zero t l = omega arith
assigning_set x (u ∷ ts) (suc i) t l = let r = assigning_set x ts i t (omega arith) in omega arith

pub assigning_fewer : (x : ℕ) (ts : List Thread) (i : ℕ) (t : Thread) → counted x t.inside ≤ counted x (get_or ts i ended).inside → assigning x (set ts i t) ≤ assigning x ts
assigning_fewer x [] i t h = omega arith
assigning_fewer x (u ∷ ts) zero t h = omega arith
assigning_fewer x (u ∷ ts) (suc i) t h = let r = assigning_fewer x ts i t h in omega arith

-- One thread is counted among all.
pub assigning_at : (x : ℕ) (ts : List Thread) (i : ℕ) → counted x (get_or ts i ended).inside ≤ assigning x ts
assigning_at x [] i = omega arith
assigning_at x (t ∷ ts) zero = omega arith
assigning_at x (t ∷ ts) (suc i) = let r = assigning_at x ts i in omega arith

-- Lists that are changed at one place
module _ {A : Type 0} where
  pub set_get : (l : List A) (x : ℕ) (a : A) (y : ℕ) (d : A) → y < length l → get_or (set l x a) y d ≡ cond (eqb y x) a (get_or l y d)
  set_get [] x a y d h = absurd (omega arith)
  set_get (b ∷ l) zero a zero d h = refl
  set_get (b ∷ l) zero a (suc y) d h = rw (eqb-suc-zero y)
  set_get (b ∷ l) (suc x) a zero d h = rw (eqb-zero-suc x)
  set_get (b ∷ l) (suc x) a (suc y) d h = rw (eqb-suc-suc y x) (set_get l x a y d (omega arith))

  pub set_put : (l : List A) (x : ℕ) (a : A) (y : ℕ) (d : A) → x < length l → get_or (set l x a) y d ≡ cond (eqb y x) a (get_or l y d)
  set_put [] x a y d h = absurd (omega arith)
  set_put (b ∷ l) zero a zero d h = refl
  set_put (b ∷ l) zero a (suc y) d h = rw (eqb-suc-zero y)
  set_put (b ∷ l) (suc x) a zero d h = rw (eqb-zero-suc x)
  set_put (b ∷ l) (suc x) a (suc y) d h = rw (eqb-suc-suc y x) (set_put l x a y d (omega arith))

  pub set_either : (l : List A) (x : ℕ) (a : A) (y : ℕ) (d : A) → (get_or (set l x a) y d ≡ get_or l y d) ⊎ ((y ≡ x) × (get_or (set l x a) y d ≡ a))
  set_either [] x a y d = inl refl
  set_either (b ∷ l) zero a zero d = inr (refl, refl)
  set_either (b ∷ l) zero a (suc y) d = inl refl
  set_either (b ∷ l) (suc x) a zero d = inl refl
  set_either (b ∷ l) (suc x) a (suc y) d = elim (set_either l x a y d) [ inl e ↦ inl e | inr r ↦ inr (ap suc r.0, r.1) ]

-- Parts of a stretch
pub within_part : (c d : Code) (os : List Open) → ((x : ℕ) → T (assigns x d) → T (assigns x c)) → ((n : ℕ) → T (test n (needs d)) → T (test n (needs c))) → (T (fixed_time c) → T (fixed_time d)) → Within c os → Within d os
within_part c d os f g k h = ((λ x a. h.0 x (f x a)), (λ n a. h.1 n (g n a)), k h.2)

pub or_in_left : (n a b : ℕ) → T (test n a) → T (test n (bit_or a b))
or_in_left n a b h = rw (test_or n a b) (or_left (test n a) (test n b) h)

pub or_in_right : (n a b : ℕ) → T (test n b) → T (test n (bit_or a b))
or_in_right n a b h = rw (test_or n a b) (or_right (test n a) (test n b) h)

module _ (os : List Open) where
  pub within_done : Within done os
  within_done = ((λ x a. absurd a), (λ n a. absurd (rw (test_zero n) at a)), tt)

  pub within_assign : (x : ℕ) (e : Expr) (c : Code) → Within (assign x e c) os → Within c os
  within_assign x e c = within_part (assign x e c) c os (λ y a. or_right (eqb y x) (assigns y c) a) (λ n a. a) (λ a. a)

  pub within_next : (e : Expr) (p q c : Code) → Within (branch e p q c) os → Within c os
  within_next e p q c = within_part (branch e p q c) c os
      (λ x a. or_right (assigns x p || assigns x q) (assigns x c) a)
      (λ n a. or_in_right n (bit_or (needs p) (needs q)) (needs c) a)
      (λ a. and_right (fixed_time p && fixed_time q) (fixed_time c) a)

  pub within_body : (m : ℕ) (e : Expr) (b c : Code) → Within (lock m e b c) os → Within b os
  within_body m e b c = within_part (lock m e b c) b os
      (λ x a. or_left (assigns x b) (assigns x c) a)
      (λ n a. or_in_left n (bit_or m (needs b)) (needs c) (or_in_right n m (needs b) a))
      (λ a. and_right (is_literal_one e) (fixed_time b) (and_left (is_literal_one e && fixed_time b) (fixed_time c) a))

  pub within_after : (m : ℕ) (e : Expr) (b c : Code) → Within (lock m e b c) os → Within c os
  within_after m e b c = within_part (lock m e b c) c os
      (λ x a. or_right (assigns x b) (assigns x c) a)
      (λ n a. or_in_right n (bit_or m (needs b)) (needs c) a)
      (λ a. and_right (is_literal_one e && fixed_time b) (fixed_time c) a)

  -- The locks of a with in a closed context are reserved, and its expression is literal one.
  pub within_locks : (m : ℕ) (e : Expr) (b c : Code) → Within (lock m e b c) os → (n : ℕ) → T (test n m) → T (test n (reserved os))
  within_locks m e b c h n a = h.1 n (or_in_left n (bit_or m (needs b)) (needs c) (or_in_left n m (needs b) a))

  pub within_literal : (m : ℕ) (e : Expr) (b c : Code) → Within (lock m e b c) os → T (is_literal_one e)
  within_literal m e b c h = and_left (is_literal_one e) (fixed_time b) (and_left (is_literal_one e && fixed_time b) (fixed_time c) h.2)
