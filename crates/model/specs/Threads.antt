-- Threads: where one stands, the blocks that are open around it, and what follows from them: its context level, its locks, the guards.
use Rattle.std.specs.Prelude.{ℕ, zero, suc, Bool, cond, not, ◌&&◌, ◌||◌, List, [], ◌∷◌, ◌==◌, bit_and, bit_or}
use Rattle.lattice.specs.Levels.{Levels}
use Rattle.codec.specs.Expressions.{Expr}
use Rattle.script.specs.Code.{Code}
use Rattle.script.specs.Code.Code.{done}
use Rattle.model.specs.Levels.{is_open}
use Rattle.model.specs.Stretches.{assigns, needs}

-- An open block: one that a thread is inside. A branch keeps its level, which way was taken, both ways, and what follows;
-- a loop its test, its body and what follows; a lock its mask and what follows.
pub data Open : Type 0 where
  in_branch : ℕ → Bool → Code → Code → Code → Open
  in_loop : Expr → Code → Code → Open
  in_lock : ℕ → Code → Open

-- A thread is running, or it idles at the end of a way: so many idle turns are still to come before the turn that closes its branch.
pub data Pace : Type 0 where
  running : Pace
  idling : ℕ → Pace

-- A thread: the code up to the end of its innermost open block, its pace, and its open blocks, innermost first.
pub record Thread : Type 0 where
  pub code : Code
  pub pace : Pace
  pub inside : List Open

-- A thread that is through, or is none.
abbrev pub ended : Thread
ended = record { code = done; pace = running; inside = [] }

-- The context level of a thread, by its open blocks: the level of the innermost branch that it is in, or open.
abbrev pub context : List Open → ℕ
context [] = 0
context (in_branch l w p q n ∷ k) = l
context (in_loop e b n ∷ k) = context k
context (in_lock m n ∷ k) = context k

-- The locks that a thread owns: those named by the locks that it is inside.
abbrev pub owned : List Open → ℕ
owned [] = 0
owned (in_branch l w p q n ∷ k) = owned k
owned (in_loop e b n ∷ k) = owned k
owned (in_lock m n ∷ k) = bit_or m (owned k)

-- The locks that a thread reserves: its outermost branch of a level that is not open reserves every lock that either way names.
abbrev pub reserved : List Open → ℕ
reserved [] = 0
reserved (in_branch l w p q n ∷ k) = bit_or (cond (is_open (context k) && not (is_open l)) (bit_or (needs p) (needs q)) 0) (reserved k)
reserved (in_loop e b n ∷ k) = reserved k
reserved (in_lock m n ∷ k) = reserved k

-- The guard on variable x from one thread's open blocks: the levels of the branches that assign it in either way, outermost first.
abbrev pub guard_of : Levels → ℕ → List Open → ℕ → ℕ
guard_of k x [] acc = acc
guard_of k x (in_branch l w p q n ∷ os) acc = let inner = guard_of k x os acc in cond (assigns x p || assigns x q) (k.join inner l) inner
guard_of k x (in_loop e b n ∷ os) acc = guard_of k x os acc
guard_of k x (in_lock m n ∷ os) acc = guard_of k x os acc

-- The guard on variable x: from acc on, the levels of all entered branches that assign it, by rising thread.
abbrev pub guard : Levels → ℕ → List Thread → ℕ → ℕ
guard k x [] acc = acc
guard k x (t ∷ ts) acc = guard k x ts (guard_of k x t.inside acc)

-- The locks that these threads own or reserve.
abbrev pub held_by : List Thread → ℕ
held_by [] = 0
held_by (u ∷ us) = bit_or (bit_or (owned u.inside) (reserved u.inside)) (held_by us)

-- The locks that stand against thread i: those that another owns, and those that are reserved.
abbrev pub against : ℕ → List Thread → ℕ
against i [] = 0
against zero (t ∷ ts) = bit_or (reserved t.inside) (held_by ts)
against (suc i) (t ∷ ts) = bit_or (bit_or (owned t.inside) (reserved t.inside)) (against i ts)

-- Two masks have a lock in common.
abbrev pub clash : ℕ → ℕ → Bool
clash a b = not (bit_and a b == 0)

-- A thread that runs on at some code.
abbrev pub at_code : Code → List Open → Thread
at_code c os = record { code = c; pace = running; inside = os }

-- A thread that has n idle turns left.
abbrev pub at_idle : ℕ → List Open → Thread
at_idle n os = record { code = done; pace = idling n; inside = os }
