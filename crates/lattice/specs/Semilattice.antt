-- Every kind's laws follow from five equations of its join, and from flow being "the join of the two is the second".
-- Assumes nothing.
use Rattle.std.specs.Prelude.{◌≡◌, ℕ, T}
use Rattle.std.proofs.Common.{sym, ap, ◌∙◌}
use Rattle.lattice.specs.Levels.{Levels, Lawful}

pub record Semilattice (k : Levels) : Type 0 where
  pub zero_has : T (k.has 0)
  pub closed : (a b : ℕ) → T (k.has a) → T (k.has b) → T (k.has (k.join a b))
  pub up : (a b : ℕ) → T (k.has a) → T (k.has b) → T (k.flows a b) → k.join a b ≡ b
  pub down : (a b : ℕ) → T (k.has a) → T (k.has b) → k.join a b ≡ b → T (k.flows a b)
  pub unit : (a : ℕ) → T (k.has a) → k.join 0 a ≡ a
  pub idem : (a : ℕ) → T (k.has a) → k.join a a ≡ a
  pub comm : (a b : ℕ) → T (k.has a) → T (k.has b) → k.join a b ≡ k.join b a
  pub assoc : (a b c : ℕ) → T (k.has a) → T (k.has b) → T (k.has c) → k.join (k.join a b) c ≡ k.join a (k.join b c)

pub laws_of : (k : Levels) → Semilattice k → Lawful k
laws_of k s =
    let j = k.join in
    let absorbs : (a b : ℕ) → T (k.has a) → T (k.has b) → k.join a (k.join a b) ≡ k.join a b =
    λ a b ha hb. sym (s.assoc a a b ha ha hb) ∙ ap (λ (x : ℕ). k.join x b) (s.idem a ha) in
    record {
      open_has = s.zero_has;
      join_has = s.closed;
      flows_refl = λ a ha. s.down a a ha ha (s.idem a ha);
      flows_trans = λ a b c ha hb hc p q.
          s.down a c ha hc
          (ap (j a) (sym (s.up b c hb hc q)) ∙ sym (s.assoc a b c ha hb hc) ∙ ap (λ (x : ℕ). j x c) (s.up a b ha hb p) ∙ s.up b c hb hc q);
      flows_antisym = λ a b ha hb p q. sym (s.up b a hb ha q) ∙ s.comm b a hb ha ∙ s.up a b ha hb p;
      open_least = λ a ha. s.down 0 a s.zero_has ha (s.unit a ha);
      join_left = λ a b ha hb. s.down a (j a b) ha (s.closed a b ha hb) (absorbs a b ha hb);
      join_right = λ a b ha hb.
          s.down b (j a b) hb (s.closed a b ha hb) (ap (j b) (s.comm a b ha hb) ∙ absorbs b a hb ha ∙ s.comm b a hb ha);
      join_least = λ a b c ha hb hc p q.
          s.down (j a b) c (s.closed a b ha hb) hc (s.assoc a b c ha hb hc ∙ ap (j a) (s.up b c hb hc q) ∙ s.up a c ha hc p);
    }
