-- Stretches of commands: whether they take a fixed time and how long, which variables they assign, which locks they need.
use Rattle.std.specs.Prelude.{ℕ, suc, ◌+◌, max, Bool, true, false, ◌&&◌, ◌||◌, [], ◌∷◌, pos, negsuc, ◌==◌, bit_or}
use Rattle.codec.specs.Expressions.{Expr}
use Rattle.codec.specs.Expressions.Op.{constant, variable, sample, held, binary, unary}
use Rattle.script.specs.Code.{Code}
use Rattle.script.specs.Code.Code.{done, skip, assign, put, branch, loop, lock}

-- The expression that is the constant one, and nothing else: not any expression that is worth one.
abbrev pub is_literal_one : Expr → Bool
is_literal_one [] = false
is_literal_one (constant (pos n) ∷ []) = n == 1
is_literal_one (constant (negsuc n) ∷ []) = false
is_literal_one (constant (pos n) ∷ (o ∷ e)) = false
is_literal_one (constant (negsuc n) ∷ (o ∷ e)) = false
is_literal_one (variable x ∷ e) = false
is_literal_one (sample x ∷ e) = false
is_literal_one (held x ∷ e) = false
is_literal_one (binary b ∷ e) = false
is_literal_one (unary u ∷ e) = false

-- What measuring a stretch answers: whether it takes a fixed time, and its duration in turns. Nothing reads the duration of one that does not.
pub record Measure : Type 0 where
  pub fixed : Bool
  pub duration : ℕ

-- A stretch takes a fixed time if it holds no loop, and no lock but of literal one. A command lasts 1 turn, a branch its longer way and 2, a lock its body and 2.
abbrev pub measure : Code → Measure
measure done = record { fixed = true; duration = 0 }
measure (skip c) = record { fixed = (measure c).fixed; duration = suc (measure c).duration }
measure (assign x e c) = record { fixed = (measure c).fixed; duration = suc (measure c).duration }
measure (put h e c) = record { fixed = (measure c).fixed; duration = suc (measure c).duration }
measure (branch e p q c) = record {
  fixed = ((measure p).fixed && (measure q).fixed) && (measure c).fixed;
  duration = suc (suc (max (measure p).duration (measure q).duration + (measure c).duration));
}
measure (loop e b c) = record { fixed = false; duration = 0 }
measure (lock m e b c) = record {
  fixed = (is_literal_one e && (measure b).fixed) && (measure c).fixed;
  duration = suc (suc ((measure b).duration + (measure c).duration));
}

-- Whether a stretch takes a fixed time.
abbrev pub fixed_time : Code → Bool
fixed_time c = (measure c).fixed

-- How long it lasts.
abbrev pub duration : Code → ℕ
duration c = (measure c).duration

-- Whether a stretch assigns variable x, at any depth.
abbrev pub assigns : ℕ → Code → Bool
assigns x done = false
assigns x (skip c) = assigns x c
assigns x (assign y e c) = x == y || assigns x c
assigns x (put h e c) = assigns x c
assigns x (branch e p q c) = (assigns x p || assigns x q) || assigns x c
assigns x (loop e b c) = assigns x b || assigns x c
assigns x (lock m e b c) = assigns x b || assigns x c

-- The locks that a stretch names, at any depth, as a mask: bit i for lock i.
abbrev pub needs : Code → ℕ
needs done = 0
needs (skip c) = needs c
needs (assign y e c) = needs c
needs (put h e c) = needs c
needs (branch e p q c) = bit_or (bit_or (needs p) (needs q)) (needs c)
needs (loop e b c) = bit_or (needs b) (needs c)
needs (lock m e b c) = bit_or (bit_or m (needs b)) (needs c)
