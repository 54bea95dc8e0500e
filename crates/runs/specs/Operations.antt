-- What one operation of an expression takes, makes and names.
use Rattle.std.specs.Prelude.{ℕ, zero, suc, ◌+◌, ◌<◌, List, [], ◌∷◌, length, get_or, ℤ, pos, slice_index_or}
use Rattle.lattice.specs.Levels.{Levels}
use Rattle.codec.specs.Expressions as C
use Rattle.codec.specs.Expressions.Op.{constant, variable, sample, held, binary, unary}
use Rattle.model.specs.Values.{Cell, blank, sample_at, apply_binary, apply_unary}
use Rattle.codec.specs.declared.expressions.Op.{Op}
use Rattle.codec.specs.declared.expressions.Op.TheVariants.{Constant, Variable, Sample, Held, Two, One}

-- How many working numbers an operation takes.
abbrev pub taken : Op → ℕ
taken (Constant z) = 0
taken (Variable x) = 0
taken (Sample t) = 1
taken (Held t) = 0
taken (Two b) = 2
taken (One u) = 1

-- The number that an operation makes of the two on top, the lower one first.
abbrev pub made : List Cell → List (List ℤ) → C.Op → ℤ → ℤ → ℤ
made cells tracks (constant z) a b = z
made cells tracks (variable x) a b = (get_or cells x blank).value
made cells tracks (sample t) a b = sample_at (slice_index_or tracks t []) b
made cells tracks (held t) a b = pos (length (slice_index_or tracks t []))
made cells tracks (binary o) a b = apply_binary o a b
made cells tracks (unary u) a b = apply_unary u b

-- One operation's part of a level.
abbrev pub joined_one : Levels → (ℕ → ℕ) → (ℕ → ℕ) → C.Op → ℕ → ℕ
joined_one k vl tl (constant z) acc = acc
joined_one k vl tl (variable x) acc = k.join acc (vl x)
joined_one k vl tl (sample t) acc = k.join acc (tl t)
joined_one k vl tl (held t) acc = k.join acc (tl t)
joined_one k vl tl (binary b) acc = acc
joined_one k vl tl (unary u) acc = acc

-- The n working numbers from slot b on, the top first.
abbrev pub numbers_from : ℕ → ℕ → List ℤ → List ℤ
numbers_from b zero w = []
numbers_from b (suc n) w = slice_index_or w (b + n) (pos 0) ∷ numbers_from b n w

-- What an operation names, of so many variables and tracks.
abbrev pub Named : ℕ → ℕ → Op → Type 0
Named vars tracks (Constant z) = Unit {0}
Named vars tracks (Variable x) = x < vars
Named vars tracks (Sample t) = t < tracks
Named vars tracks (Held t) = t < tracks
Named vars tracks (One u) = Unit {0}
Named vars tracks (Two b) = Unit {0}
