-- What typing keeps true of a state: each cell's level is under its type, and each thread's blocks and code are typed.
use Rattle.std.proofs.Common.{◌≡◌, ℕ, zero, suc, T, List, [], ◌∷◌, get_or, set, refl}
use Rattle.lattice.specs.Levels.{Levels, Lawful}
use Rattle.model.specs.Levels.{is_open}
use Rattle.codec.specs.Expressions.{Expr}
use Rattle.script.specs.Code.{Code, Script}
use Rattle.script.specs.Code.Code.{assign, put, branch, loop, lock}
use Rattle.model.specs.Values.{Cell, blank}
use Rattle.model.specs.Threads.{Open, Thread, ended, context}
use Rattle.model.specs.Machine.{State, level_of}
use Rattle.model.specs.Threads.Open.{in_branch, in_loop, in_lock}
use Rattle.model.specs.Inspection.{types, type_of}
use Rattle.model.proofs.Tests.{and_3, and_4}
use Rattle.model.proofs.Unaltered.Under.{Under, under_refl, joined_under}

-- A lawful kind, with codes of its own for every variable, track and channel.
pub record World (k : Levels) (sc : Script) (typing : List ℕ) : Type 0 where
  pub laws : Lawful k
  pub variable_had : (x : ℕ) → T (k.has (get_or typing x 0))
  pub track_had : (t : ℕ) → T (k.has (get_or sc.track_levels t 0))
  pub channel_had : (h : ℕ) → T (k.has (get_or sc.channel_levels h 0))

module _ (k : Levels) (sc : Script) (typing : List ℕ) where
  -- The blocks around a stretch that types at t.
  abbrev pub Stack : ℕ → List Open → Type 0
  Stack t [] = t ≡ 0
  Stack t (in_branch l w p q n ∷ os) = (u : ℕ) × Under k l t × T (types k sc typing t p) × T (types k sc typing t q) × T (types k sc typing u n) × Stack u os
  Stack t (in_loop e b n ∷ os) = (t ≡ 0) × T (types k sc typing 0 (loop e b n)) × Stack 0 os
  Stack t (in_lock m n ∷ os) = (t ≡ 0) × T (types k sc typing 0 n) × Stack 0 os

  pub record Typed (c : Code) (os : List Open) : Type 0 where
    pub level : ℕ
    pub code : T (types k sc typing level c)
    pub inside : Stack level os

  abbrev pub Threads : List Thread → Type 0
  Threads [] = Unit {0}
  Threads (t ∷ ts) = Typed t.code t.inside × Threads ts

  abbrev pub Cells : List Cell → Type 0
  Cells cs = (x : ℕ) → Under k (get_or cs x blank).level (get_or typing x 0)

  pub record Kept (s : State) : Type 0 where
    pub cells : Cells s.cells
    pub threads : Threads s.threads

-- What a command that types says of its parts.
module _ (k : Levels) (sc : Script) (typing : List ℕ) (t : ℕ) where
  pub assign_parts : (x : ℕ) (e : Expr) (c : Code) → T (types k sc typing t (assign x e c)) → T (k.flows (type_of k sc typing e) (get_or typing x 0)) × T (k.flows t (get_or typing x 0)) × T (types k sc typing t c)
  assign_parts x e c h = and_3 _ _ _ h

  pub put_parts : (x : ℕ) (e : Expr) (c : Code) → T (types k sc typing t (put x e c)) → T (k.flows (type_of k sc typing e) (get_or sc.channel_levels x 0)) × T (k.flows t (get_or sc.channel_levels x 0)) × T (types k sc typing t c)
  put_parts x e c h = and_3 _ _ _ h

  pub branch_parts : (e : Expr) (p q c : Code) → T (types k sc typing t (branch e p q c)) → T (types k sc typing (k.join t (type_of k sc typing e)) p) × T (types k sc typing (k.join t (type_of k sc typing e)) q) × T (types k sc typing t c)
  branch_parts e p q c h = and_3 _ _ _ h

  pub loop_parts : (e : Expr) (b c : Code) → T (types k sc typing t (loop e b c)) → T (is_open t) × T (is_open (type_of k sc typing e)) × T (types k sc typing t b) × T (types k sc typing t c)
  loop_parts e b c h = and_4 _ _ _ _ h

  pub lock_parts : (m : ℕ) (e : Expr) (b c : Code) → T (types k sc typing t (lock m e b c)) → T (is_open t) × T (is_open (type_of k sc typing e)) × T (types k sc typing t b) × T (types k sc typing t c)
  lock_parts m e b c h = and_4 _ _ _ _ h

module _ {k : Levels} {sc : Script} {typing : List ℕ} (W : World k sc typing) where
  pub type_had : (e : Expr) → T (k.has (type_of k sc typing e))
  type_had e = (joined_under W.laws (λ x. get_or typing x 0) (λ x. get_or typing x 0) (λ t. get_or sc.track_levels t 0) (λ x. under_refl W.laws (W.variable_had x)) W.track_had e 0 0 (under_refl W.laws W.laws.open_has)).low

  pub level_under : (s : State) → Cells k sc typing s.cells → (e : Expr) → Under k (level_of k sc s e) (type_of k sc typing e)
  level_under s h e = joined_under W.laws (λ x. (get_or s.cells x blank).level) (λ x. get_or typing x 0) (λ t. get_or sc.track_levels t 0) h W.track_had e 0 0 (under_refl W.laws W.laws.open_has)

  pub context_under : (t : ℕ) (os : List Open) → Stack k sc typing t os → Under k (context os) t
  context_under t [] h = rw h (under_refl W.laws W.laws.open_has)
  context_under t (in_branch l w p q n ∷ os) h = h.1
  context_under t (in_loop e b n ∷ os) h = rw h.0 (context_under 0 os h.2)
  context_under t (in_lock m n ∷ os) h = rw h.0 (context_under 0 os h.2)

pub threads_at : {k : Levels} {sc : Script} {typing : List ℕ} (ts : List Thread) (i : ℕ) → Threads k sc typing ts → Typed k sc typing (get_or ts i ended).code (get_or ts i ended).inside
threads_at [] i h = record { level = 0; code = tt; inside = refl }
threads_at (t ∷ ts) zero h = h.0
threads_at (t ∷ ts) (suc i) h = threads_at ts i h.1

pub threads_set : {k : Levels} {sc : Script} {typing : List ℕ} (ts : List Thread) (i : ℕ) (t : Thread) → Threads k sc typing ts → Typed k sc typing t.code t.inside → Threads k sc typing (set ts i t)
threads_set [] i t h ht = h
threads_set (u ∷ ts) zero t h ht = (ht, h.1)
threads_set (u ∷ ts) (suc i) t h ht = (h.0, threads_set ts i t h.1 ht)
