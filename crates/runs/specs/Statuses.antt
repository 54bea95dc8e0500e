-- What a thread's status is by its place and marks.
use Rattle.std.specs.Prelude.{ℕ, zero, suc, ◌+◌, false, cond, not, ◌&&◌, ◌||◌, List, get_or, ℤ, ◌==◌, bit_or, slice_index_or}
use Rattle.lattice.specs.Levels.{Levels}
use Rattle.model.specs.Levels.{is_open}
use Rattle.model.specs.Machine.{chosen_status, Status as ModelStatus}
use Rattle.model.specs.Threads.{clash}
use Rattle.model.specs.Values.{is_zero}
use Rattle.model.specs.Machine.Status.{ready, finished, waiting, barred}
use Rattle.survey.specs.declared.table.Kind.{Kind}
use Rattle.survey.specs.declared.table.Kind.TheVariants.{Other, Begin, End, Skip, Assign, Put, If, Else, EndIf, While, EndWhile, With, EndWith}
use Rattle.runs.specs.declared.Status.{Status}
use Rattle.runs.specs.declared.Status.TheVariants.{Ready, Finished, Waiting, Barred}
use Rattle.survey.specs.declared.table.Step.{Step}
use Rattle.runs.specs.declared.Mark.{Mark}
use Rattle.runs.specs.declared.Pace.{Pace}
use Rattle.runs.specs.declared.Pace.TheVariants.{Running, Idling, Finished as Over}
use Rattle.runs.specs.declared.Place.{Place}
use Rattle.runs.specs.declared.Core.{Core}
use Rattle.runs.specs.Flat.{nil_mark, nil_place, first_mark, level_inside, level_at, value_at}
use Rattle.survey.specs.Table.{step_at_place, bytes_of}

-- A status as the model has it.
abbrev pub status_of : Status → ModelStatus
status_of Ready = ready
status_of Finished = finished
status_of Waiting = waiting
status_of Barred = barred

-- The locks that a block reserves, by its step and the levels outside and inside it.
abbrev pub reserved_one : Step → ℕ → ℕ → ℕ
reserved_one st outside inside = cond (is_open outside && not (is_open inside)) st.needed 0

module _ (table : List Step) (ms : List Mark) where
  -- The locks that the first d blocks from b on give together, each of them f of its step and the levels outside and inside it.
  unfoldable pub locks_of : (Step → ℕ → ℕ → ℕ) → ℕ → ℕ → ℕ
  locks_of f b zero = 0
  locks_of f b (suc d) = let mk = get_or ms (b + d) nil_mark in bit_or (f (step_at_place table mk.opener) (level_inside ms b d) mk.level) (locks_of f b d)

  -- Their own locks.
  abbrev pub owned_marks : ℕ → ℕ → ℕ
  owned_marks b d = locks_of (λ st outside inside. st.mask) b d

  -- The locks that they reserve.
  abbrev pub reserved_marks : ℕ → ℕ → ℕ
  reserved_marks b d = locks_of reserved_one b d

  -- What thread j holds against thread i.
  abbrev pub held_one : ℕ → ℕ → Place → ℕ
  held_one i j p = bit_or (cond (j == i) 0 (owned_marks (first_mark j) p.depth)) (reserved_marks (first_mark j) p.depth)

  -- The locks of the first n threads that stand against thread i.
  unfoldable pub against_first : ℕ → List Place → ℕ → ℕ
  against_first i ps zero = 0
  against_first i ps (suc n) = bit_or (against_first i ps n) (held_one i n (slice_index_or ps n nil_place))

module _ (k : Levels) (table : List Step) (code : List ℕ) (i : ℕ) where
  -- The status at an if.
  abbrev pub if_status : Core → List Mark → Place → Step → ModelStatus
  if_status c ms p st =
      let here = level_inside ms (first_mark i) p.depth in
      let l = k.join here (level_at k c (bytes_of code st)) in
      chosen_status (not st.fixed && not (is_open l)) ((is_open here && not (is_open l)) && clash st.needed (against_first table ms i c.threads c.head.threads))

module _ (k : Levels) (table : List Step) (code : List ℕ) (ss : List ℤ) (i : ℕ) where
  -- The status at a with.
  abbrev pub with_status : Core → List Mark → Place → Step → ModelStatus
  with_status c ms p st =
      chosen_status (not (is_open (level_at k c (bytes_of code st))))
      (is_open (level_inside ms (first_mark i) p.depth) && (is_zero (value_at c ss (bytes_of code st)) || clash st.mask (against_first table ms i c.threads c.head.threads)))

  -- The status by the thread's pace and the kind of its next frame.
  abbrev pub status_by : Pace → Kind → Core → List Mark → Place → Step → ModelStatus
  status_by (Idling n) kd c ms p st = ready
  status_by Over kd c ms p st = finished
  status_by Running Other c ms p st = ready
  status_by Running Begin c ms p st = ready
  status_by Running End c ms p st = ready
  status_by Running Skip c ms p st = ready
  status_by Running Assign c ms p st = ready
  status_by Running Put c ms p st = ready
  status_by Running If c ms p st = if_status k table code i c ms p st
  status_by Running Else c ms p st = ready
  status_by Running EndIf c ms p st = ready
  status_by Running While c ms p st = chosen_status (not (is_open (level_at k c (bytes_of code st)))) false
  status_by Running EndWhile c ms p st = ready
  status_by Running With c ms p st = with_status c ms p st
  status_by Running EndWith c ms p st = ready

  -- The status of thread i.
  abbrev pub status_now : Core → List Mark → ModelStatus
  status_now c ms = let p = get_or c.threads i nil_place in let st = step_at_place table p.at in status_by p.pace st.kind c ms p st
