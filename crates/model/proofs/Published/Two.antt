-- The two levels are a lawful kind.
use Rattle.std.proofs.Common.{◌≡◌, ℕ, max, leb, arith, le→leb, ltb→lt, lt→ltb, leb→le}
use lib.Dec.{nleb→lt}
use Rattle.lattice.specs.Levels.{Lawful}
use Rattle.lattice.specs.Orders.{two_point}
use Rattle.model.proofs.Tests.{by_test, is_true}

-- The join is the greater of the two.
pub join_max : (a b : ℕ) → two_point.join a b ≡ max a b
join_max a b = by_test (leb a b) (λ h. let g = leb→le a b h in rw (is_true (leb a b) h) (omega arith)) (λ h. let g = nleb→lt a b (rw h tt) in rw h (omega arith))

pub two_lawful : Lawful two_point
two_lawful = record {
  open_has = tt;
  join_has = λ a b p q. let h = ltb→lt a 2 p in let g = ltb→lt b 2 q in rw (join_max a b) (lt→ltb (max a b) 2 (omega arith));
  flows_refl = λ a p. le→leb a a (omega arith);
  flows_trans = λ a b c p q r x y. let h = leb→le a b x in let g = leb→le b c y in le→leb a c (omega arith);
  flows_antisym = λ a b p q x y. let h = leb→le a b x in let g = leb→le b a y in omega arith;
  open_least = λ a p. le→leb 0 a (omega arith);
  join_left = λ a b p q. rw (join_max a b) (le→leb a (max a b) (omega arith));
  join_right = λ a b p q. rw (join_max a b) (le→leb b (max a b) (omega arith));
  join_least = λ a b c p q r x y. let h = leb→le a c x in let g = leb→le b c y in rw (join_max a b) (le→leb (max a b) c (omega arith));
}
