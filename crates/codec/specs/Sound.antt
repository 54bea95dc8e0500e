-- Sound expressions: what they name is declared, and their stack works out.
use Rattle.std.specs.Prelude.{ℕ, suc, ◌-◌, Bool, true, ◌&&◌, [], ◌∷◌, ◌==◌, nat_le, nat_lt}
use Rattle.codec.specs.Expressions.{Decoded, Op, Expr}
use Rattle.codec.specs.Expressions.Op.{constant, variable, sample, held, binary, unary}
use Rattle.codec.specs.Frames.{Head}

-- The variable or track that an operation names is declared.
abbrev pub op_declared : Head → Op → Bool
op_declared h (constant z) = true
op_declared h (variable x) = nat_lt x h.variables
op_declared h (sample t) = nat_lt t h.tracks
op_declared h (held t) = nat_lt t h.tracks
op_declared h (binary b) = true
op_declared h (unary u) = true

-- Every variable and track of an expression is declared.
abbrev pub declared : Head → Expr → Bool
declared h [] = true
declared h (o ∷ e) = op_declared h o && declared h e

-- Over n working numbers an operation finds its operands, and there is room for its result: at most 16 are held.
abbrev pub has_room : ℕ → Op → Bool
has_room n (constant z) = nat_lt n 16
has_room n (variable x) = nat_lt n 16
has_room n (sample t) = nat_le 1 n
has_room n (held t) = nat_lt n 16
has_room n (binary b) = nat_le 2 n
has_room n (unary u) = nat_le 1 n

-- How many numbers are held after it.
abbrev pub depth_after : ℕ → Op → ℕ
depth_after n (constant z) = suc n
depth_after n (variable x) = suc n
depth_after n (sample t) = n
depth_after n (held t) = suc n
depth_after n (binary b) = n - 1
depth_after n (unary u) = n

-- From n working numbers on, every operation has room, and the expression leaves one number.
abbrev pub leaves_one : ℕ → Expr → Bool
leaves_one n [] = n == 1
leaves_one n (o ∷ e) = has_room n o && leaves_one (depth_after n o) e

-- From n working numbers on, an expression was decoded to its end, and leaves one number.
abbrev pub sound : ℕ → Decoded → Bool
sound n d = d.whole && leaves_one n d.ops
