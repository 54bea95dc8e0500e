-- Raising the levels of variables that a branch assigns keeps each under its type.
use Rattle.std.proofs.Common.{◌≡◌, ℕ, zero, suc, ◌+◌, Bool, true, false, cond, T, List, [], ◌∷◌, get_or, ◌∙◌, arith}
use Rattle.lattice.specs.Levels.{Levels, Lawful}
use Rattle.model.specs.Values.{Cell, blank}
use Rattle.model.specs.Machine.{raise}
use Rattle.model.proofs.Unaltered.Under.{Under, under_least}

-- The y-th number from x on.
abbrev from : ℕ → ℕ → ℕ
from x zero = x
from x (suc y) = from (suc x) y

from_is : (x y : ℕ) → from x y ≡ x + y
from_is x zero = omega arith
from_is x (suc y) = from_is (suc x) y ∙ omega arith

from_zero : (y : ℕ) → from 0 y ≡ y
from_zero y = from_is 0 y ∙ omega arith

module _ {k : Levels} (L : Lawful k) (types : ℕ → ℕ) (marked : ℕ → Bool) (l : ℕ) (h : (x : ℕ) → T (marked x) → Under k l (types x)) where
  raise_from : (x : ℕ) (cs : List Cell) → ((y : ℕ) → Under k (get_or cs y blank).level (types (from x y))) → (y : ℕ) → Under k (get_or (raise k marked l x cs) y blank).level (types (from x y))
  raise_from x [] f y = f y
  raise_from x (c ∷ cs) f zero = pick (marked x) (h x)
    where
      pick : (b : Bool) → (T b → Under k l (types x)) → Under k (cond b (record { value = c.value; level = k.join c.level l }) c).level (types x)
      pick true g = under_least L (f zero) (g tt)
      pick false g = f zero
  raise_from x (c ∷ cs) f (suc y) = raise_from (suc x) cs (λ n. f (suc n)) y

  pub raise_under : (cs : List Cell) → ((y : ℕ) → Under k (get_or cs y blank).level (types y)) → (y : ℕ) → Under k (get_or (raise k marked l 0 cs) y blank).level (types y)
  raise_under cs f y = rw from_zero at (raise_from 0 cs (λ n. rw from_zero (f n)) y)
