-- A kind of levels as three functions on numbers, and the laws that every kind keeps.
use Rattle.std.specs.Prelude.{◌≡◌, ℕ, Bool, T}

-- Which codes the kind has, which level may flow to which, and the join of two. Code 0 is the open level.
pub record Levels : Type 0 where
  pub has : ℕ → Bool
  pub flows : ℕ → ℕ → Bool
  pub join : ℕ → ℕ → ℕ

-- The laws, over the codes of the kind: a partial order with open at its bottom, and every join a least upper bound.
pub record Lawful (k : Levels) : Type 0 where
  pub open_has : T (k.has 0)
  pub join_has : (a b : ℕ) → T (k.has a) → T (k.has b) → T (k.has (k.join a b))
  pub flows_refl : (a : ℕ) → T (k.has a) → T (k.flows a a)
  pub flows_trans : (a b c : ℕ) → T (k.has a) → T (k.has b) → T (k.has c) → T (k.flows a b) → T (k.flows b c) → T (k.flows a c)
  pub flows_antisym : (a b : ℕ) → T (k.has a) → T (k.has b) → T (k.flows a b) → T (k.flows b a) → a ≡ b
  pub open_least : (a : ℕ) → T (k.has a) → T (k.flows 0 a)
  pub join_left : (a b : ℕ) → T (k.has a) → T (k.has b) → T (k.flows a (k.join a b))
  pub join_right : (a b : ℕ) → T (k.has a) → T (k.has b) → T (k.flows b (k.join a b))
  pub join_least : (a b c : ℕ) → T (k.has a) → T (k.has b) → T (k.has c) → T (k.flows a c) → T (k.flows b c) → T (k.flows (k.join a b) c)
