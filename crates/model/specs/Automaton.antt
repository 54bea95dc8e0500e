-- Le Guernic's monitoring automaton for concurrent programs (2007), its transition function in its own terms.
use Rattle.std.specs.Prelude.{ℕ, suc, pred, Bool, true, false, cond, not, ◌&&◌, ◌||◌, List, [], ◌∷◌, pos, negsuc, ◌==◌, bit_and, bit_or, bit_xor}
use Rattle.std.proofs.Math.Option.{Option, none, some}
use Rattle.codec.specs.Expressions.{Expr}
use Rattle.script.specs.Code.{Code}
use Rattle.model.specs.Stretches.{is_literal_one, assigns, needs}
use Rattle.codec.specs.Expressions.Op.{constant, variable, sample, held, binary, unary}
use Rattle.script.specs.Code.Code.{done, skip, assign, put, branch, loop, lock}

-- Sets of locks, as masks

-- Two masks have no lock in common.
abbrev pub apart : ℕ → ℕ → Bool
apart a b = bit_and a b == 0

-- The locks of the first mask that are not in the second.
abbrev pub without : ℕ → ℕ → ℕ
without a b = bit_xor a (bit_and a b)

-- Functions of expressions and programs. What the publication calls defines is `assigns`, and its needs is `needs`.

-- An expression names something that may carry variety: a variable of v, or an input of s. The publication writes it FV(e) ∩ V ≠ ∅.
abbrev pub meets : (ℕ → Bool) → (ℕ → Bool) → Expr → Bool
meets v s [] = false
meets v s (constant z ∷ e) = meets v s e
meets v s (variable x ∷ e) = v x || meets v s e
meets v s (sample t ∷ e) = s t || meets v s e
meets v s (held t ∷ e) = s t || meets v s e
meets v s (binary b ∷ e) = meets v s e
meets v s (unary u ∷ e) = meets v s e

-- The expression that is the constant nought, which is false.
abbrev pub is_literal_nought : Expr → Bool
is_literal_nought [] = false
is_literal_nought (constant (pos n) ∷ []) = n == 0
is_literal_nought (constant (negsuc n) ∷ []) = false
is_literal_nought (constant (pos n) ∷ (o ∷ e)) = false
is_literal_nought (constant (negsuc n) ∷ (o ∷ e)) = false
is_literal_nought (variable x ∷ e) = false
is_literal_nought (sample x ∷ e) = false
is_literal_nought (held x ∷ e) = false
is_literal_nought (binary b ∷ e) = false
is_literal_nought (unary u ∷ e) = false

-- Whether a program may be stopped. Of a while the publication asks whether its condition is other than false, of a with whether it is other than true; it looks into neither body.
abbrev pub stops : Code → Bool
stops done = false
stops (skip c) = stops c
stops (assign x e c) = stops c
stops (put h e c) = stops c
stops (branch e p q c) = (stops p || stops q) || stops c
stops (loop e b c) = not (is_literal_nought e) || stops c
stops (lock m e b c) = not (is_literal_one e) || stops c

-- One program and then another.
abbrev pub and_then : Code → Code → Code
and_then done d = d
and_then (skip c) d = skip (and_then c d)
and_then (assign x e c) d = assign x e (and_then c d)
and_then (put h e c) d = put h e (and_then c d)
and_then (branch e p q c) d = branch e p q (and_then c d)
and_then (loop e b c) d = loop e b (and_then c d)
and_then (lock m e b c) d = lock m e b (and_then c d)

-- Either of two programs defines a variable.
abbrev pub either_defines : Code → Code → ℕ → Bool
either_defines pe pu x = assigns x pe || assigns x pu

-- The locks that either of two programs needs.
abbrev pub either_needs : Code → Code → ℕ
either_needs pe pu = bit_or (needs pe) (needs pu)

-- States, inputs, outputs

-- A state (V, W, L, w). V is what may carry variety, here a test on variables and one (`secret`) on inputs, which no command defines. W counts, for each
-- variable, the unmerged branches that define it on such a value. L is the mask of the locks that they reserve. w is the branching context of the thread,
-- written with its last letter first; true is ⊤.
pub record Q : Type 0 where
  pub V : ℕ → Bool
  pub secret : ℕ → Bool
  pub W : ℕ → ℕ
  pub L : ℕ
  pub w : List Bool

-- What the automaton is told: a branch, a merge of its two ways, a sync on locks, skip, an assignment, an output.
pub data Input : Type 0 where
  -- The locks that are owned, the condition, the branch that will be executed and the one that will not.
  at_branch : ℕ → Expr → Code → Code → Input
  at_merge : Code → Code → Input
  at_sync : ℕ → Expr → Input
  at_skip : Input
  at_assign : ℕ → Expr → Input
  at_output : Expr → Input

-- OK, NO, and the output of the default value.
pub data Output : Type 0 where
  ok no default : Output

-- A word has no ⊤: the branching context is clear.
abbrev pub all_bottom : List Bool → Bool
all_bottom [] = true
all_bottom (b ∷ w) = not b && all_bottom w

-- An expression carries variety in a state.
abbrev pub carries : Q → Expr → Bool
carries q e = meets q.V q.secret e

-- A state with another V.
abbrev pub with_V : Q → (ℕ → Bool) → Q
with_V q v = record { V = v; secret = q.secret; W = q.W; L = q.L; w = q.w }

-- A state with another word.
abbrev pub with_w : Q → List Bool → Q
with_w q w = record { V = q.V; secret = q.secret; W = q.W; L = q.L; w = w }

-- A branch on a condition that carries variety, in a clear context: (V ∪ v, W ⊎ v, L ∪ l, w⊤).
abbrev pub entering : Q → (ℕ → Bool) → ℕ → Q
entering q v l = record {
  V = λ x. q.V x || v x;
  secret = q.secret;
  W = λ x. cond (v x) (suc (q.W x)) (q.W x);
  L = bit_or q.L l;
  w = true ∷ q.w;
}

-- The merge of such a branch: (V, W \ v, L \ l, w).
abbrev pub leaving : Q → (ℕ → Bool) → ℕ → List Bool → Q
leaving q v l w = record {
  V = q.V;
  secret = q.secret;
  W = λ x. cond (v x) (pred (q.W x)) (q.W x);
  L = without q.L l;
  w = w;
}

-- A merge, by the word's last letter.
abbrev pub merged : Q → List Bool → Code → Code → Option (Output × Q)
merged q [] pe pu = none
merged q (false ∷ w) pe pu = some (ok, with_w q w)
merged q (true ∷ w) pe pu = cond (stops pe || stops pu) none (some (ok, leaving q (either_defines pe pu) (either_needs pe pu) w))

-- The transition function; none where there is no transition.
abbrev pub react : Q → Input → Option (Output × Q)
react q (at_branch owned e pe pu) =
    cond (not (carries q e) || not (all_bottom q.w))
    (some (ok, with_w q (false ∷ q.w)))
    (cond (apart (either_needs pe pu) (bit_or owned q.L))
    (some (ok, entering q (either_defines pe pu) (either_needs pe pu)))
    none)
react q (at_merge pe pu) = merged q q.w pe pu
react q (at_sync m e) = cond (not (carries q e) && (not (all_bottom q.w) || apart m q.L)) (some (ok, q)) none
react q at_skip = some (ok, q)
react q (at_assign x e) =
    cond (carries q e || not (q.W x == 0))
    (some (ok, with_V q (λ y. (y == x) || q.V y)))
    (some (ok, with_V q (λ y. not (y == x) && q.V y)))
react q (at_output e) =
    cond (all_bottom q.w)
    (cond (carries q e) (some (default, q)) (some (ok, q)))
    (some (no, q))

-- Concurrent programs: a word for each thread.

-- The automaton's state for a concurrent program: V, W and L are shared, and each thread has a word of its own.
pub record Pool : Type 0 where
  pub V : ℕ → Bool
  pub secret : ℕ → Bool
  pub W : ℕ → ℕ
  pub L : ℕ
  pub w : ℕ → List Bool

-- Thread i's own state.
abbrev pub extract : Pool → ℕ → Q
extract p i = record { V = p.V; secret = p.secret; W = p.W; L = p.L; w = p.w i }

-- The shared state after thread i has moved.
abbrev pub update : Pool → ℕ → Q → Pool
update p i q = record { V = q.V; secret = q.secret; W = q.W; L = q.L; w = λ j. cond (j == i) q.w (p.w j) }
