-- A state with every level open, and what the machine finds in it.
use Rattle.std.proofs.Common.{◌≡◌, ℕ, zero, suc, Bool, true, false, cond, ◌||◌, List, [], ◌∷◌, map, length, get_or, ℤ, pos, sym, refl, ap, ◌∙◌, ap₂}
use lib.Bits.{bit_or}
use lib.ListN.{get_or-map}
use lib.Seq.{map-set}
use Rattle.lattice.specs.Levels.{Levels, Lawful}
use Rattle.codec.specs.Expressions.{Expr}
use Rattle.script.specs.Code.{Code, Script}
use Rattle.model.specs.Stretches.{assigns}
use Rattle.codec.specs.Expressions.Op.{constant, variable, sample, held, binary, unary}
use Rattle.model.specs.Values.{Cell, blank, eval, top, below, sample_at, apply_binary, apply_unary}
use Rattle.model.specs.Threads.{Open, Thread, ended, context, owned, reserved, guard_of, guard}
use Rattle.model.specs.Machine.{State, raise, value_of, level_of, set_thread, set_cell, close_branch}
use Rattle.model.specs.Threads.Open.{in_branch, in_loop, in_lock}
use Rattle.model.specs.Levels.{opened}
use Rattle.model.proofs.Tests.{and_false, getD_zeros}
use Rattle.model.proofs.Unaltered.Under.{open_join, joined_open}

abbrev pub erase_cell : Cell → Cell
erase_cell c = record { value = c.value; level = 0 }

abbrev pub erase_open : Open → Open
erase_open (in_branch l w p q n) = in_branch 0 w p q n
erase_open (in_loop e b n) = in_loop e b n
erase_open (in_lock m n) = in_lock m n

abbrev pub erase_thread : Thread → Thread
erase_thread t = record { code = t.code; pace = t.pace; inside = map erase_open t.inside }

abbrev pub erase : State → State
erase s = record { cells = map erase_cell s.cells; threads = map erase_thread s.threads; tracks = s.tracks; channels = s.channels; turns = s.turns }

-- What is read

pub cell_erased : (cs : List Cell) (x : ℕ) → get_or (map erase_cell cs) x blank ≡ erase_cell (get_or cs x blank)
cell_erased cs x = get_or-map erase_cell cs x blank

pub thread_erased : (ts : List Thread) (i : ℕ) → get_or (map erase_thread ts) i ended ≡ erase_thread (get_or ts i ended)
thread_erased ts i = get_or-map erase_thread ts i ended

pub eval_erased : (cs : List Cell) (tr : List (List ℤ)) (e : Expr) (st : List ℤ) → eval (map erase_cell cs) tr e st ≡ eval cs tr e st
eval_erased cs tr [] st = refl
eval_erased cs tr (constant z ∷ e) st = eval_erased cs tr e (z ∷ st)
eval_erased cs tr (variable x ∷ e) st = ap (λ (c : Cell). eval (map erase_cell cs) tr e (c.value ∷ st)) (cell_erased cs x) ∙ eval_erased cs tr e ((get_or cs x blank).value ∷ st)
eval_erased cs tr (sample t ∷ e) st = eval_erased cs tr e (sample_at (get_or tr t []) (top st) ∷ below st)
eval_erased cs tr (held t ∷ e) st = eval_erased cs tr e (pos (length (get_or tr t [])) ∷ st)
eval_erased cs tr (binary b ∷ e) st = eval_erased cs tr e (apply_binary b (top (below st)) (top st) ∷ below (below st))
eval_erased cs tr (unary u ∷ e) st = eval_erased cs tr e (apply_unary u (top st) ∷ below st)

pub context_erased : (os : List Open) → context (map erase_open os) ≡ 0
context_erased [] = refl
context_erased (in_branch l w p q n ∷ os) = refl
context_erased (in_loop e b n ∷ os) = context_erased os
context_erased (in_lock m n ∷ os) = context_erased os

pub owned_erased : (os : List Open) → owned (map erase_open os) ≡ owned os
owned_erased [] = refl
owned_erased (in_branch l w p q n ∷ os) = owned_erased os
owned_erased (in_loop e b n ∷ os) = owned_erased os
owned_erased (in_lock m n ∷ os) = ap (λ (o : ℕ). bit_or m o) (owned_erased os)

pub reserved_erased : (os : List Open) → reserved (map erase_open os) ≡ 0
reserved_erased [] = refl
reserved_erased (in_branch l w p q n ∷ os) = rw and_false (reserved_erased os)
reserved_erased (in_loop e b n ∷ os) = reserved_erased os
reserved_erased (in_lock m n ∷ os) = reserved_erased os

-- What is written

pub close_erased : (n : ℕ) (o : Open) (os : List Open) (c : Code) → erase_thread (close_branch n o os c) ≡ close_branch n (erase_open o) (map erase_open os) c
close_erased zero o os c = refl
close_erased (suc n) o os c = refl

pub set_thread_erased : (s : State) (i : ℕ) (t : Thread) → erase (set_thread s i t) ≡ set_thread (erase s) i (erase_thread t)
set_thread_erased s i t = ap (λ (ts : List Thread). record { cells = map erase_cell s.cells; threads = ts; tracks = s.tracks; channels = s.channels; turns = s.turns }) (map-set erase_thread s.threads i t)

pub set_cell_erased : (s : State) (x : ℕ) (c : Cell) → erase (set_cell s x c) ≡ set_cell (erase s) x (erase_cell c)
set_cell_erased s x c = ap (λ (cs : List Cell). record { cells = cs; threads = map erase_thread s.threads; tracks = s.tracks; channels = s.channels; turns = s.turns }) (map-set erase_cell s.cells x c)

pub cond_erased : (b : Bool) (t u : Thread) → erase_thread (cond b t u) ≡ cond b (erase_thread t) (erase_thread u)
cond_erased true t u = refl
cond_erased false t u = refl

module _ {k : Levels} (L : Lawful k) where
  pub guard_of_erased : (x : ℕ) (os : List Open) (a : ℕ) → a ≡ 0 → guard_of k x (map erase_open os) a ≡ 0
  guard_of_erased x [] a h = h
  guard_of_erased x (in_branch l w p q n ∷ os) a h = rw (guard_of_erased x os a h) (pick (assigns x p || assigns x q))
    where
      pick : (b : Bool) → cond b (k.join 0 0) 0 ≡ 0
      pick true = open_join L
      pick false = refl
  guard_of_erased x (in_loop e b n ∷ os) a h = guard_of_erased x os a h
  guard_of_erased x (in_lock m n ∷ os) a h = guard_of_erased x os a h

  pub guard_erased : (x : ℕ) (ts : List Thread) (a : ℕ) → a ≡ 0 → guard k x (map erase_thread ts) a ≡ 0
  guard_erased x [] a h = h
  guard_erased x (t ∷ ts) a h = guard_erased x ts (guard_of k x (map erase_open t.inside) a) (guard_of_erased x t.inside a h)

  pub raise_erased : (marked : ℕ → Bool) (l x : ℕ) (cs : List Cell) → map erase_cell (raise k marked l x cs) ≡ raise k marked 0 x (map erase_cell cs)
  raise_erased marked l x [] = refl
  raise_erased marked l x (c ∷ cs) = ap₂ (λ (a : Cell) (r : List Cell). a ∷ r) (pick (marked x)) (raise_erased marked l (suc x) cs)
    where
      pick : (b : Bool) → erase_cell (cond b (record { value = c.value; level = k.join c.level l }) c) ≡ cond b (record { value = c.value; level = k.join 0 0 }) (erase_cell c)
      pick true = λ i. record { value = c.value; level = sym (open_join L) i }
      pick false = refl

  pub level_erased : (sc : Script) (s : State) (e : Expr) → level_of k (opened sc) (erase s) e ≡ 0
  level_erased sc s e =
      joined_open L (λ x. (get_or (map erase_cell s.cells) x blank).level) (λ t. get_or (map (λ (l : ℕ). zero) sc.track_levels) t 0)
      (λ x. ap (λ (c : Cell). c.level) (cell_erased s.cells x)) (getD_zeros sc.track_levels) e 0 refl

  pub value_erased : (sc : Script) (s : State) (e : Expr) → value_of k (opened sc) (erase s) e ≡ value_of k sc s e
  value_erased sc s e = ap top (eval_erased s.cells s.tracks e [])
