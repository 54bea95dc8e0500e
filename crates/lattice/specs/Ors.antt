-- Bitwise or is associative, and so the levels of 16 bits keep the laws. Assumes nothing.
use Rattle.std.specs.Prelude.{◌≡◌, ℕ, T, ◌==◌, bit_and, bit_or}
use Rattle.std.proofs.Common.{subst, arith, eqb→eq, ltb→lt, lt→ltb}
use Rattle.std.proofs.lemmas.Nat.Bits.{bit_at_or, same_from_bits}
use Rattle.std.proofs.lemmas.Nat.{or_comm, or_lt}
use Rattle.std.specs.Int.Bits.{or_self, or_zero_l, or_add_and}
use Rattle.std.proofs.Math.Dec.{eqb_refl}
use Rattle.lattice.specs.Levels.{Lawful}
use Rattle.lattice.specs.Orders.{bit_sets}
use Rattle.lattice.specs.Semilattice.{laws_of}

pub or_assoc : (a b c : ℕ) → bit_or (bit_or a b) c ≡ bit_or a (bit_or b c)
or_assoc a b c = same_from_bits _ _ (λ i. simp bit_at_or (omega arith))

-- b has every bit of a exactly if their or is b: `or_add_and`
pub bits_laws : Lawful bit_sets
bits_laws = laws_of bit_sets (record {
  zero_has = tt;
  closed = λ a b ha hb. lt→ltb (bit_or a b) 65536 (or_lt 16 a b (ltb→lt a 65536 ha) (ltb→lt b 65536 hb));
  up = λ a b ha hb t. omega (arith, or_add_and a b, eqb→eq (bit_and a b) a t);
  down = λ a b ha hb e.
      let same : bit_and a b ≡ a = omega (arith, or_add_and a b) in
      subst (λ (x : ℕ). T (bit_and a b == x)) same (eqb_refl (bit_and a b));
  unit = λ a ha. or_zero_l a;
  idem = λ a ha. or_self a;
  comm = λ a b ha hb. or_comm a b;
  assoc = λ a b c ha hb hc. or_assoc a b c;
})
