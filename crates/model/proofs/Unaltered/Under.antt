-- One code under another: both are the kind's, and the one flows to the other.
use Rattle.std.proofs.Common.{◌≡◌, ℕ, zero, suc, T, List, [], ◌∷◌, get_or}
use Rattle.lattice.specs.Levels.{Levels, Lawful}
use Rattle.codec.specs.Expressions.{Expr}
use Rattle.codec.specs.Expressions.Op.{constant, variable, sample, held, binary, unary}
use Rattle.model.specs.Values.{joined}
use Rattle.model.specs.Levels.{all_had}
use Rattle.model.proofs.Tests.{and_left, and_right}

pub record Under (k : Levels) (a b : ℕ) : Type 0 where
  pub low : T (k.has a)
  pub high : T (k.has b)
  pub flow : T (k.flows a b)

module _ {k : Levels} (L : Lawful k) where
  pub under_refl : {a : ℕ} → T (k.has a) → Under k a a
  under_refl {a} h = record { low = h; high = h; flow = L.flows_refl a h }

  pub under_open : {a : ℕ} → T (k.has a) → Under k 0 a
  under_open {a} h = record { low = L.open_has; high = h; flow = L.open_least a h }

  pub under_trans : {a b c : ℕ} → Under k a b → Under k b c → Under k a c
  under_trans {a} {b} {c} p q = record { low = p.low; high = q.high; flow = L.flows_trans a b c p.low p.high q.high p.flow q.flow }

  pub under_left : {a b : ℕ} → T (k.has a) → T (k.has b) → Under k a (k.join a b)
  under_left {a} {b} p q = record { low = p; high = L.join_has a b p q; flow = L.join_left a b p q }

  pub under_right : {a b : ℕ} → T (k.has a) → T (k.has b) → Under k b (k.join a b)
  under_right {a} {b} p q = record { low = q; high = L.join_has a b p q; flow = L.join_right a b p q }

  pub under_least : {a b c : ℕ} → Under k a c → Under k b c → Under k (k.join a b) c
  under_least {a} {b} {c} p q = record { low = L.join_has a b p.low q.low; high = p.high; flow = L.join_least a b c p.low q.low p.high p.flow q.flow }

  pub under_join : {a b c d : ℕ} → Under k a c → Under k b d → Under k (k.join a b) (k.join c d)
  under_join p q = under_least (under_trans p (under_left p.high q.high)) (under_trans q (under_right p.high q.high))

  -- What is under the open level is open. Here, and nowhere else, antisymmetry is used: a level counts as open if it is the code 0.
  pub under_zero : {a : ℕ} → Under k a 0 → a ≡ 0
  under_zero {a} p = L.flows_antisym a 0 p.low p.high p.flow (L.open_least a p.low)

  pub open_join : k.join 0 0 ≡ 0
  open_join = under_zero (under_least (under_refl L.open_has) (under_refl L.open_has))

  pub had_at : (ls : List ℕ) (n : ℕ) → T (all_had k ls) → T (k.has (get_or ls n 0))
  had_at [] n h = L.open_has
  had_at (l ∷ ls) zero h = and_left (k.has l) (all_had k ls) h
  had_at (l ∷ ls) (suc n) h = had_at ls n (and_right (k.has l) (all_had k ls) h)

  -- Levels that are under others have a join that is under the others' join.
  pub joined_under : (v w t : ℕ → ℕ) → ((x : ℕ) → Under k (v x) (w x)) → ((x : ℕ) → T (k.has (t x))) → (e : Expr) (a b : ℕ) → Under k a b → Under k (joined k v t e a) (joined k w t e b)
  joined_under v w t hv ht [] a b h = h
  joined_under v w t hv ht (constant z ∷ e) a b h = joined_under v w t hv ht e a b h
  joined_under v w t hv ht (variable x ∷ e) a b h = joined_under v w t hv ht e (k.join a (v x)) (k.join b (w x)) (under_join h (hv x))
  joined_under v w t hv ht (sample x ∷ e) a b h = joined_under v w t hv ht e (k.join a (t x)) (k.join b (t x)) (under_join h (under_refl (ht x)))
  joined_under v w t hv ht (held x ∷ e) a b h = joined_under v w t hv ht e (k.join a (t x)) (k.join b (t x)) (under_join h (under_refl (ht x)))
  joined_under v w t hv ht (binary o ∷ e) a b h = joined_under v w t hv ht e a b h
  joined_under v w t hv ht (unary o ∷ e) a b h = joined_under v w t hv ht e a b h

  -- Where all levels are open, the join is open.
  pub joined_open : (v t : ℕ → ℕ) → ((x : ℕ) → v x ≡ 0) → ((x : ℕ) → t x ≡ 0) → (e : Expr) (a : ℕ) → a ≡ 0 → joined k v t e a ≡ 0
  joined_open v t hv ht [] a h = h
  joined_open v t hv ht (constant z ∷ e) a h = joined_open v t hv ht e a h
  joined_open v t hv ht (variable x ∷ e) a h = joined_open v t hv ht e (k.join a (v x)) (rw (h, hv x) open_join)
  joined_open v t hv ht (sample x ∷ e) a h = joined_open v t hv ht e (k.join a (t x)) (rw (h, ht x) open_join)
  joined_open v t hv ht (held x ∷ e) a h = joined_open v t hv ht e (k.join a (t x)) (rw (h, ht x) open_join)
  joined_open v t hv ht (binary o ∷ e) a h = joined_open v t hv ht e a h
  joined_open v t hv ht (unary o ∷ e) a h = joined_open v t hv ht e a h
