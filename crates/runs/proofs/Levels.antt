-- The level of an expression, an operation at a time.
use Rattle.std.proofs.Common.{◌≡◌, ℕ, T, ltb, ◌∷◌, refl, ltb→lt}
use Rattle.lattice.specs.Levels.{Levels}
use Rattle.model.specs.Values.{joined}
use Rattle.codec.specs.Frames.{Head}
use Rattle.codec.specs.Sound.{declared}
use Rattle.codec.specs.declared.expressions.Op.{Op}
use Rattle.codec.specs.declared.expressions.Op.TheVariants.{Constant, Variable, Sample, Held, Two, One}
use Rattle.model.proofs.Tests.{and_left, and_right}
use Rattle.codec.specs.Expressions.{Expr}
use Rattle.codec.specs.Operations.{op_of}
use Rattle.runs.specs.Operations.{joined_one, Named}

pub joined_more : (k : Levels) (vl tl : ℕ → ℕ) (o : Op) (e : Expr) (acc : ℕ) → joined k vl tl (op_of o ∷ e) acc ≡ joined k vl tl e (joined_one k vl tl (op_of o) acc)
joined_more k vl tl (Constant z) e acc = refl
joined_more k vl tl (Variable x) e acc = refl
joined_more k vl tl (Sample t) e acc = refl
joined_more k vl tl (Held t) e acc = refl
joined_more k vl tl (One u) e acc = refl
joined_more k vl tl (Two b) e acc = refl

pub named_first : (h : Head) (o : Op) (e : Expr) → T (declared h (op_of o ∷ e)) → Named h.variables h.tracks o × T (declared h e)
named_first h (Constant z) e t = (tt, t)
named_first h (Variable x) e t = (ltb→lt x h.variables (and_left _ (declared h e) t), and_right (ltb x h.variables) _ t)
named_first h (Sample x) e t = (ltb→lt x h.tracks (and_left _ (declared h e) t), and_right (ltb x h.tracks) _ t)
named_first h (Held x) e t = (ltb→lt x h.tracks (and_left _ (declared h e) t), and_right (ltb x h.tracks) _ t)
named_first h (One u) e t = (tt, t)
named_first h (Two b) e t = (tt, t)
