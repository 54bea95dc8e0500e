-- Expressions: postfix code over working numbers. An expression is a list of operations, each a code and its operand bytes.
use Rattle.std.specs.Prelude.{ℕ, zero, suc, ◌+◌, ◌*◌, ◌/◌, ◌%◌, Bool, true, false, List, [], ◌∷◌, ◌++◌, ℤ}
use Rattle.std.proofs.Math.Option.{Option, none, some}
use Rattle.std.specs.Int.{w32}
use Rattle.std.proofs.Common.{to_z, of_z}
use Rattle.codec.specs.Tables.{Row, ◌reads◌, look_up}

-- The operations on two numbers; the lower one comes first.
pub data Binary : Type 0 where
  sum difference product quotient less equal both either : Binary

-- The operations on one number.
pub data Unary : Type 0 where
  negated inverted : Unary

-- An operation: a constant, a variable, a sample of a track in place of its index, how many samples a track holds, or one on numbers.
pub data Op : Type 0 where
  constant : ℤ → Op
  variable sample held : ℕ → Op
  binary : Binary → Op
  unary : Unary → Op

-- An expression: its operations, from the first on.
abbrev pub Expr : Type 0
Expr = List Op

-- From bytes

-- An expression as far as it can be decoded; `whole` says whether that is to its end.
pub record Decoded : Type 0 where
  pub ops : Expr
  pub whole : Bool

-- A number of 4 bytes.
abbrev pub number_4 : ℕ → ℕ → ℕ → ℕ → ℕ
number_4 a b c d = ((a * 256 + b) * 256 + c) * 256 + d

-- A code's operation, and how many of the bytes behind it are its own; `none` if the code is unknown or cut.
pub record Taken : Type 0 where
  pub op : Op
  pub bytes : ℕ

-- An operation with so many bytes.
abbrev pub takes : Op → ℕ → Option Taken
takes o n = some (record { op = o; bytes = n })

-- Four bytes are a signed number, the highest first.
abbrev pub with_four : List ℕ → Option Taken
with_four [] = none
with_four (a ∷ []) = none
with_four (a ∷ b ∷ []) = none
with_four (a ∷ b ∷ c ∷ []) = none
with_four (a ∷ b ∷ c ∷ d ∷ bs) = takes (constant (to_z w32 (number_4 a b c d))) 4

-- One byte is a number.
abbrev pub with_one : (ℕ → Op) → List ℕ → Option Taken
with_one f [] = none
with_one f (a ∷ bs) = takes (f a) 1

-- No byte.
abbrev pub alone : Op → List ℕ → Option Taken
alone o bs = takes o 0

-- The codes that stand alone.
abbrev pub plain_operations : List (Row Taken)
plain_operations =
    (0x10 reads alone (binary sum)) ∷
    (0x11 reads alone (binary difference)) ∷
    (0x12 reads alone (binary product)) ∷
    (0x13 reads alone (binary quotient)) ∷
    (0x14 reads alone (binary less)) ∷
    (0x15 reads alone (binary equal)) ∷
    (0x16 reads alone (binary both)) ∷
    (0x17 reads alone (binary either)) ∷
    (0x18 reads alone (unary negated)) ∷
    (0x19 reads alone (unary inverted)) ∷ []

-- All codes: a constant has four bytes behind it, a variable or a track one.
abbrev pub operations : List (Row Taken)
operations =
    (0x01 reads with_four) ∷
    (0x02 reads with_one variable) ∷
    (0x03 reads with_one sample) ∷
    (0x04 reads with_one held) ∷
    plain_operations

-- The operation of a code and the bytes behind it.
unfoldable pub operation : ℕ → List ℕ → Option Taken
operation c bs = look_up operations c bs

-- An operation and the rest of the expression, behind its bytes.
abbrev pub and_then : Option Taken → (ℕ → Decoded) → Decoded
and_then none rest = record { ops = []; whole = false }
and_then (some t) rest = let later = rest t.bytes in record { ops = t.op ∷ later.ops; whole = later.whole }

-- The operations behind the next n bytes, to the end or to the first code that is unknown or cut.
unfoldable pub decode : ℕ → List ℕ → Decoded
decode n [] = record { ops = []; whole = true }
decode (suc n) (b ∷ bs) = decode n bs
decode zero (b ∷ bs) = and_then (operation b bs) (λ n. decode n bs)

-- To bytes

-- A number in two bytes, the highest first.
abbrev pub two : ℕ → List ℕ
two n = n / 256 ∷ n % 256 ∷ []

-- A number in four bytes.
abbrev pub four : ℕ → List ℕ
four n = n / 16777216 ∷ n / 65536 % 256 ∷ n / 256 % 256 ∷ n % 256 ∷ []

-- The code of an operation on two numbers.
abbrev pub binary_code : Binary → ℕ
binary_code sum = 0x10
binary_code difference = 0x11
binary_code product = 0x12
binary_code quotient = 0x13
binary_code less = 0x14
binary_code equal = 0x15
binary_code both = 0x16
binary_code either = 0x17

-- The code of an operation on one.
abbrev pub unary_code : Unary → ℕ
unary_code negated = 0x18
unary_code inverted = 0x19

-- The bytes of an operation.
abbrev pub op_bytes : Op → List ℕ
op_bytes (constant z) = 0x01 ∷ four (of_z w32 z)
op_bytes (variable x) = 0x02 ∷ x ∷ []
op_bytes (sample t) = 0x03 ∷ t ∷ []
op_bytes (held t) = 0x04 ∷ t ∷ []
op_bytes (binary b) = binary_code b ∷ []
op_bytes (unary u) = unary_code u ∷ []

-- The bytes of an expression.
abbrev pub expr_bytes : Expr → List ℕ
expr_bytes [] = []
expr_bytes (o ∷ e) = op_bytes o ++ expr_bytes e
