-- Operations of the code as the definition's, one at a time.
use Rattle.std.specs.Prelude.{◌≡◌, ℕ, ◌<◌, false, cond, List, [], ◌∷◌, length}
use Rattle.std.proofs.Math.Option.{Option as Perhaps, none, some}
use Rattle.codec.specs.Expressions as C
use Rattle.codec.specs.Expressions.Op.{constant, variable, sample, held, binary, unary}
use Rattle.codec.specs.Expressions.Binary.{sum, difference, product, quotient, less, equal, both, either}
use Rattle.codec.specs.Expressions.Unary.{negated, inverted}
use Rattle.codec.specs.Tables.{look_up}
use Rattle.codec.specs.Expressions.{Decoded, Taken, decode, plain_operations}
use Rattle.codec.specs.Sound.{depth_after, has_room}
use Rattle.codec.specs.declared.expressions.Binary.{Binary}
use Rattle.codec.specs.declared.expressions.Binary.TheVariants.{Sum, Difference, Product, Quotient, Less, Equal, Both, Either}
use Rattle.codec.specs.declared.expressions.Unary.{Unary}
use Rattle.codec.specs.declared.expressions.Unary.TheVariants.{Negated, Inverted}
use Rattle.codec.specs.declared.expressions.Op.{Op}
use Rattle.codec.specs.declared.expressions.Ops.{Ops}
use Rattle.codec.specs.declared.expressions.Op.TheVariants.{Constant, Variable, Sample, Held, Two, One}

-- What each operation on two numbers stands for.
abbrev pub binary_of : Binary → C.Binary
binary_of Sum = sum
binary_of Difference = difference
binary_of Product = product
binary_of Quotient = quotient
binary_of Less = less
binary_of Equal = equal
binary_of Both = both
binary_of Either = either

-- What each operation on one number stands for.
abbrev pub unary_of : Unary → C.Unary
unary_of Negated = negated
unary_of Inverted = inverted

-- What each operation stands for.
abbrev pub op_of : Op → C.Op
op_of (Constant z) = constant z
op_of (Variable x) = variable x
op_of (Sample t) = sample t
op_of (Held t) = held t
op_of (Two b) = binary (binary_of b)
op_of (One u) = unary (unary_of u)

-- An operation without operand bytes.
abbrev pub alone : Op → Taken
alone o = record { op = op_of o; bytes = 0 }

-- The operation of a code that stands alone.
abbrev pub plain_at : ℕ → Perhaps Taken
plain_at k = look_up plain_operations k []

-- A code of which nothing can be read.
abbrev pub stopped : Decoded
stopped = record { ops = []; whole = false }

-- An operation in front of a code.
abbrev pub joined : C.Op → Decoded → Decoded
joined o d = record { ops = o ∷ d.ops; whole = d.whole }

-- The first operation of a code and the code behind it.
pub record First (code : List ℕ) (o : C.Op) (rest : List ℕ) : Type 0 where
  pub is : decode 0 code ≡ joined o (decode 0 rest)
  pub shorter : length rest < length code

-- How many numbers are held after an operation over n; none where it has no room.
abbrev pub deepened : C.Op → ℕ → Perhaps ℕ
deepened o n = cond (has_room n o) (some (depth_after n o)) none

-- The operations that are left of a code.
abbrev pub left : Ops → C.Expr
left s = (decode 0 s.rest.now).ops
