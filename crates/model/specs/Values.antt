-- Expressions at work: the value that one leaves, and its level.
use Rattle.std.specs.Prelude.{ℕ, zero, suc, ◌/◌, Bool, true, false, not, ◌&&◌, ◌||◌, List, [], ◌∷◌, length, get_or, ℤ, pos, negsuc, ◌+ℤ◌, ◌-ℤ◌, ◌*ℤ◌, neg_ℤ, ◌==◌, int_lt, slice_index_or}
use Rattle.std.specs.Int.{int_wrap, w32}
use Rattle.lattice.specs.Levels.{Levels}
use Rattle.codec.specs.Expressions.{Expr, Binary, Unary}
use Rattle.codec.specs.Expressions.Op.{constant, variable, sample, held, binary, unary}
use Rattle.codec.specs.Expressions.Binary.{sum, difference, product, quotient, less, equal, both, either}
use Rattle.codec.specs.Expressions.Unary.{negated, inverted}

-- A truth value as a number: 1 or 0.
abbrev pub truth : Bool → ℤ
truth true = pos 1
truth false = pos 0

-- Whether a number is 0, which counts as false; any other counts as true.
abbrev pub is_zero : ℤ → Bool
is_zero (pos n) = n == 0
is_zero (negsuc n) = false

-- Whether two numbers are equal.
abbrev pub same_number : ℤ → ℤ → Bool
same_number (pos a) (pos b) = a == b
same_number (pos a) (negsuc b) = false
same_number (negsuc a) (pos b) = false
same_number (negsuc a) (negsuc b) = a == b

-- The quotient toward zero; a divisor 0 gives 0.
abbrev pub toward_zero : ℤ → ℤ → ℤ
toward_zero a (pos zero) = pos 0
toward_zero (pos a) (pos (suc b)) = pos (a / suc b)
toward_zero (negsuc a) (pos (suc b)) = neg_ℤ (pos (suc a / suc b))
toward_zero (pos a) (negsuc b) = neg_ℤ (pos (a / suc b))
toward_zero (negsuc a) (negsuc b) = pos (suc a / suc b)

-- An operation on two numbers, the lower one first. Sum, difference, product and quotient wrap to signed 32 bits.
unfoldable pub apply_binary : Binary → ℤ → ℤ → ℤ
apply_binary sum a b = int_wrap w32 (a +ℤ b)
apply_binary difference a b = int_wrap w32 (a -ℤ b)
apply_binary product a b = int_wrap w32 (a *ℤ b)
apply_binary quotient a b = int_wrap w32 (toward_zero a b)
apply_binary less a b = truth (int_lt a b)
apply_binary equal a b = truth (same_number a b)
apply_binary both a b = truth (not (is_zero a) && not (is_zero b))
apply_binary either a b = truth (not (is_zero a) || not (is_zero b))

-- An operation on one number.
unfoldable pub apply_unary : Unary → ℤ → ℤ
apply_unary negated a = int_wrap w32 (neg_ℤ a)
apply_unary inverted a = truth (is_zero a)

-- A variable's value and level.
pub record Cell : Type 0 where
  pub value : ℤ
  pub level : ℕ

-- A variable before it is assigned: 0 and open.
abbrev pub blank : Cell
blank = record { value = pos 0; level = 0 }

-- A sample by its index; an index below 0 or not yet fed gives 0.
abbrev pub sample_at : List ℤ → ℤ → ℤ
sample_at samples (pos n) = slice_index_or samples n (pos 0)
sample_at samples (negsuc n) = pos 0

-- The working number on top.
abbrev pub top : List ℤ → ℤ
top [] = pos 0
top (x ∷ xs) = x

-- The working numbers below the top.
abbrev pub below : List ℤ → List ℤ
below [] = []
below (x ∷ xs) = xs

-- The working numbers after an expression, from cells and tracks.
abbrev pub eval : List Cell → List (List ℤ) → Expr → List ℤ → List ℤ
eval cells tracks [] st = st
eval cells tracks (constant z ∷ e) st = eval cells tracks e (z ∷ st)
eval cells tracks (variable x ∷ e) st = eval cells tracks e ((get_or cells x blank).value ∷ st)
eval cells tracks (sample t ∷ e) st = eval cells tracks e (sample_at (slice_index_or tracks t []) (top st) ∷ below st)
eval cells tracks (held t ∷ e) st = eval cells tracks e (pos (length (slice_index_or tracks t [])) ∷ st)
eval cells tracks (binary b ∷ e) st = eval cells tracks e (apply_binary b (top (below st)) (top st) ∷ below (below st))
eval cells tracks (unary u ∷ e) st = eval cells tracks e (apply_unary u (top st) ∷ below st)

-- The level of an expression: the join, from acc on and left to right, of the levels of its variables and tracks.
abbrev pub joined : Levels → (ℕ → ℕ) → (ℕ → ℕ) → Expr → ℕ → ℕ
joined k vl tl [] acc = acc
joined k vl tl (constant z ∷ e) acc = joined k vl tl e acc
joined k vl tl (variable x ∷ e) acc = joined k vl tl e (k.join acc (vl x))
joined k vl tl (sample t ∷ e) acc = joined k vl tl e (k.join acc (tl t))
joined k vl tl (held t ∷ e) acc = joined k vl tl e (k.join acc (tl t))
joined k vl tl (binary b ∷ e) acc = joined k vl tl e acc
joined k vl tl (unary u ∷ e) acc = joined k vl tl e acc
