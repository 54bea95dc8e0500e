-- What is open at two levels, and what carries variety.
use Rattle.std.proofs.Common.{◌≡◌, ℕ, zero, suc, pred, ◌+◌, max, Bool, true, false, not, ◌&&◌, ◌||◌, eqb, leb, [], ◌∷◌, get_or, sym, refl, ap, ◌∙◌, arith, rules}
use lib.Dec.{eqb-suc-zero, leb-suc-zero}
use Rattle.model.specs.Levels.{is_open}
use Rattle.codec.specs.Expressions.{Expr}
use Rattle.codec.specs.Expressions.Op.{constant, variable, sample, held, binary, unary}
use Rattle.script.specs.Code.{Script}
use Rattle.model.specs.Machine.{State, level_of}
use Rattle.model.specs.Values.{joined, blank}
use Rattle.model.specs.Automaton.{meets, carries, extract}
use Rattle.lattice.specs.Orders.{two_point}
use Rattle.model.specs.Follows.{pool}
use Rattle.model.proofs.Published.Two.{join_max}

-- A join is open exactly if both parts are.
pub open_join : (a b : ℕ) → is_open (two_point.join a b) ≡ is_open a && is_open b
open_join a b = ap (λ (n : ℕ). is_open n) (join_max a b) ∙ go a
  where
    go : (a : ℕ) → is_open (max a b) ≡ is_open a && is_open b
    go zero = let e : max 0 b ≡ b = omega arith in ap (λ (n : ℕ). is_open n) e
    go (suc a) =
        let e : max (suc a) b ≡ suc (pred (max (suc a) b)) = omega arith in
        ap (λ (n : ℕ). is_open n) e ∙ eqb-suc-zero (pred (max (suc a) b)) ∙ sym (ap (λ (v : Bool). v && is_open b) (eqb-suc-zero a))

pub nought_sum : (a b : ℕ) → eqb (a + b) 0 ≡ eqb a 0 && eqb b 0
nought_sum a b = search rules

pub flows_open : (a : ℕ) → leb a 0 ≡ is_open a
flows_open zero = refl
flows_open (suc a) = leb-suc-zero a ∙ sym (eqb-suc-zero a)

pub not_not : (b : Bool) → not (not b) ≡ b
not_not true = refl
not_not false = refl

-- A join is open exactly if nothing that it joins carries variety.
pub joined_carries : (vl tl : ℕ → ℕ) (e : Expr) (acc : ℕ) → is_open (joined two_point vl tl e acc) ≡ is_open acc && not (meets (λ x. not (is_open (vl x))) (λ t. not (is_open (tl t))) e)
joined_carries vl tl [] acc = unit (is_open acc)
  where
    unit : (b : Bool) → b ≡ b && true
    unit true = refl
    unit false = refl
joined_carries vl tl (constant z ∷ e) acc = joined_carries vl tl e acc
joined_carries vl tl (variable x ∷ e) acc =
    joined_carries vl tl e (two_point.join acc (vl x)) ∙ ap (λ (b : Bool). b && not (meets (λ y. not (is_open (vl y))) (λ t. not (is_open (tl t))) e)) (open_join acc (vl x)) ∙ joins (is_open acc) (is_open (vl x)) (meets (λ y. not (is_open (vl y))) (λ t. not (is_open (tl t))) e)
  where
    joins : (a b m : Bool) → (a && b) && not m ≡ a && not (not b || m)
    joins true true m = refl
    joins true false m = refl
    joins false b m = refl
joined_carries vl tl (sample x ∷ e) acc =
    joined_carries vl tl e (two_point.join acc (tl x)) ∙ ap (λ (b : Bool). b && not (meets (λ y. not (is_open (vl y))) (λ t. not (is_open (tl t))) e)) (open_join acc (tl x)) ∙ joins (is_open acc) (is_open (tl x)) (meets (λ y. not (is_open (vl y))) (λ t. not (is_open (tl t))) e)
  where
    joins : (a b m : Bool) → (a && b) && not m ≡ a && not (not b || m)
    joins true true m = refl
    joins true false m = refl
    joins false b m = refl
joined_carries vl tl (held x ∷ e) acc =
    joined_carries vl tl e (two_point.join acc (tl x)) ∙ ap (λ (b : Bool). b && not (meets (λ y. not (is_open (vl y))) (λ t. not (is_open (tl t))) e)) (open_join acc (tl x)) ∙ joins (is_open acc) (is_open (tl x)) (meets (λ y. not (is_open (vl y))) (λ t. not (is_open (tl t))) e)
  where
    joins : (a b m : Bool) → (a && b) && not m ≡ a && not (not b || m)
    joins true true m = refl
    joins true false m = refl
    joins false b m = refl
joined_carries vl tl (binary b ∷ e) acc = joined_carries vl tl e acc
joined_carries vl tl (unary u ∷ e) acc = joined_carries vl tl e acc

pub level_carries : (sc : Script) (s : State) (i : ℕ) (e : Expr) → is_open (level_of two_point sc s e) ≡ not (carries (extract (pool sc s) i) e)
level_carries sc s i e = joined_carries (λ x. (get_or s.cells x blank).level) (λ t. get_or sc.track_levels t 0) e 0
