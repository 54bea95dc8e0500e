-- Which threads are ready, and what turns do.
use Rattle.std.specs.Prelude.{◌≡◌, ℕ, zero, suc, ◌<◌, Bool, true, false, ◌&&◌, List, get_or, ℤ, Some, None, Option, slice_index_or}
use Rattle.lattice.specs.Levels.{Levels}
use Rattle.codec.specs.Frames.{Frame}
use Rattle.script.specs.Code.{Script}
use Rattle.model.specs.Machine.{State, status_is_ready, status_is_finished, rules, ready_set, take_turn, advance}
use Rattle.scheduler.specs.Turns.{Meaning}
use Rattle.survey.specs.declared.table.Step.{Step}
use Rattle.runs.specs.declared.Mark.{Mark}
use Rattle.runs.specs.declared.Core.{Core}
use Rattle.survey.specs.Table.{step_at_place}
use Rattle.runs.specs.Flat.{nil_place, Sized, FitNow, Mem}
use Rattle.runs.specs.Statuses.{status_now}
use Rattle.runs.specs.Views.{Runs}

-- Every thread can be asked.
pub record AllFit (c : Core) (table : List Step) (code : List ℕ) (ms : List Mark) : Type 0 where
  pub sized : Sized c table ms
  pub here : (i : ℕ) → i < c.head.threads → (let p = get_or c.threads i nil_place in let st = step_at_place table p.at in FitNow p.pace st.kind c table code p st)

-- A choice among n threads.
abbrev pub Within : Option ℕ → ℕ → Type 0
Within None n = Unit {0}
Within (Some i) n = i < n

-- f holds of the first n numbers.
unfoldable pub all_first : (ℕ → Bool) → ℕ → Bool
all_first f zero = true
all_first f (suc n) = all_first f n && f n

-- `ready` says of each thread whether it is ready.
abbrev pub ReadyList : Levels → List Step → List ℕ → List ℤ → Core → List Mark → List Bool → ℕ → Type 0
ReadyList k table code ss c ms ready n = (j : ℕ) → j < n → slice_index_or ready j false ≡ status_is_ready (status_now k table code ss j c ms)

-- The first n threads are finished.
abbrev pub over_first : Levels → List Step → List ℕ → List ℤ → Core → List Mark → ℕ → Bool
over_first k table code ss c ms n = all_first (λ j. status_is_finished (status_now k table code ss j c ms)) n

-- A turn as the model gives it, to the state and to the scheduler.
pub record Turned {G : Type 0} (k : Levels) (schedule : Meaning G) (table : List Step) (code : List ℕ) (ss : List ℤ) (x y : Mem) (g h : G) (sc : Script) (after : ℕ → List Frame) (s : State) : Type 0 where
  pub runs : Runs sc after table code ss y (take_turn (rules k sc) s (schedule g (ready_set (rules k sc) s)).0)
  pub scheduler : h ≡ (schedule g (ready_set (rules k sc) s)).1

-- n turns or fewer: how many, and what then stands.
pub record Advanced {G : Type 0} (k : Levels) (schedule : Meaning G) (table : List Step) (code : List ℕ) (ss : List ℤ) (n r : ℕ) (y : Mem) (g h : G) (sc : Script) (after : ℕ → List Frame) (s : State) : Type 0 where
  pub answer : r ≡ (advance (rules k sc) schedule n s g).0
  pub runs : Runs sc after table code ss y (advance (rules k sc) schedule n s g).1
  pub scheduler : h ≡ (advance (rules k sc) schedule n s g).2
