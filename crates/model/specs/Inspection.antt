-- Inspection, and what it is good for: a script that passes is answered as it would be with every level open.
use Rattle.std.specs.Prelude.{◌≡◌, ℕ, Bool, true, ◌&&◌, T, List, [], ◌∷◌, length, slice_index}
use Rattle.lattice.specs.Levels.{Levels, Lawful}
use Rattle.codec.specs.Expressions.{Expr}
use Rattle.script.specs.Code.{Code, Script}
use Rattle.script.specs.Code.Code.{done, skip, assign, put, branch, loop, lock}
use Rattle.model.specs.Levels.{is_open, all_had, Levelled, opened}
use Rattle.model.specs.Values.{joined}
use Rattle.scheduler.specs.Turns.{Meaning}
use Rattle.model.specs.Calls.{Call, begin, answers}

-- A typing gives each variable a level.
module _ (k : Levels) (sc : Script) (typing : List ℕ) where
  -- The level of an expression by the typing.
  abbrev pub type_of : Expr → ℕ
  type_of e = joined k (λ x. slice_index typing x) (λ t. slice_index sc.track_levels t) e 0

  -- A stretch types at level t: what is assigned or put, and t, may flow to where it goes; a branch types at the join of t and its condition;
  -- a loop and a lock need t and their expression open.
  abbrev pub types : ℕ → Code → Bool
  types t done = true
  types t (skip c) = types t c
  types t (assign x e c) = (k.flows (type_of e) (slice_index typing x) && k.flows t (slice_index typing x)) && types t c
  types t (put h e c) = (k.flows (type_of e) (slice_index sc.channel_levels h) && k.flows t (slice_index sc.channel_levels h)) && types t c
  types t (branch e p q c) = (types (k.join t (type_of e)) p && types (k.join t (type_of e)) q) && types t c
  types t (loop e b c) = (is_open t && is_open (type_of e)) && (types t b && types t c)
  types t (lock m e b c) = (is_open t && is_open (type_of e)) && (types t b && types t c)

  -- Every thread types at open.
  abbrev pub all_type : List Code → Bool
  all_type [] = true
  all_type (c ∷ cs) = types 0 c && all_type cs

-- A script passes inspection under a typing: a level for each variable, each a code of the kind, under which every thread types.
pub record Passes (k : Levels) (sc : Script) (typing : List ℕ) : Type 0 where
  pub long : length typing ≡ sc.variables
  pub codes : T (all_had k typing)
  pub typed : T (all_type k sc typing sc.codes)

-- If a script passes under some typing, every list of calls is answered as with every level open.
abbrev pub Transparent : (k : Levels) (sc : Script) {S : Type 0} → Meaning S → Type 0
Transparent k sc {S} schedule =
    (typing : List ℕ) → Passes k sc typing → (g : S) (xs : List Call) →
    answers k sc schedule xs (begin sc) g ≡ answers k (opened sc) schedule xs (begin (opened sc)) g

-- Of every kind of levels that keeps the laws and every script of its levels, with one scheduler, obedient or not.
abbrev pub EveryTypedRunIsUnaltered : {S : Type 0} → Meaning S → Type 0
EveryTypedRunIsUnaltered schedule = (k : Levels) (sc : Script) → Lawful k → Levelled k sc → Transparent k sc schedule
