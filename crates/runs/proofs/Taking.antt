-- A whole turn: the thread's step, and the count.
use Rattle.std.proofs.Common.{◌≡◌, ℕ, suc, ◌+◌, ◌<◌, List, ℤ, sym, subst, arith}
use mathlib.Core.Option.{some}
use Rattle.lattice.specs.Levels.{Levels}
use Rattle.codec.specs.Frames.{Frame}
use Rattle.script.specs.Code.{Script}
use Rattle.model.specs.Machine.{State, step, take_turn, rules}
use Rattle.survey.specs.declared.table.Step.{Step}
use Rattle.runs.specs.declared.Mark.{Mark}
use Rattle.runs.specs.declared.Entry.{Entry}
use Rattle.runs.specs.declared.Core.{Core}
use Rattle.runs.specs.Headers.{Few}
use Rattle.runs.specs.Flat.{mem, Mem, after_turn, Fit}
use Rattle.runs.specs.Views.{HoldsState, Runs, RunningMem}
use Rattle.runs.proofs.Stepping.{turn_views, with_turns, tick}
use Rattle.runs.specs.Leaves.{Leaves}
use Rattle.runs.proofs.Fits.{views_fit}
use Rattle.runs.proofs.Leaving.{leaves_moved, leaves_on, turn_leaves}

module _ (table : List Step) (code : List ℕ) (ss : List ℤ) (c : Core) (ms : List Mark) (es : List Entry) (i : ℕ) (within : i < c.head.threads) where
  pub runs_fit : RunningMem table code ss (mem c ms es) → Fit c table code ms es i
  runs_fit h = views_fit c.turns h.0 h.1 table code c ms es h.3.ts h.3.views i within (omega arith)

  pub turn_of_runs : (k : Levels) (x : Mem) (f : Few x.core.head) → c.turns < 1000000 → x ≡ after_turn k table code ss i (mem c ms es) → (sc : Script) (after : ℕ → List Frame) (s : State) → Runs sc after table code ss (mem c ms es) s
      → Runs sc after table code ss (mem (with_turns x.core (c.turns + 1) f) x.marks x.entries) (take_turn (rules k sc) s (some i))
  turn_of_runs k x f more e sc after s h =
      let now = turn_views c.turns k sc after table code ss c ms es h.ts h.views h.fed i within in
      let S : State → Type 0 = λ z. HoldsState (suc c.turns) c.turns sc after table code ss (after_turn k table code ss i (mem c ms es)) (step k sc z i) in
      let X : Mem → Type 0 = λ z. HoldsState (suc c.turns) c.turns sc after table code ss z (step k sc s i) in
      tick c.turns sc after table code ss x.core x.marks x.entries (step k sc s i) f more (subst X (sym e) (subst S (sym h.is) now))

  pub turn_of_leaves : (k : Levels) (x : Mem) (n : ℕ) (f : Few x.core.head) → x ≡ after_turn k table code ss i (mem c ms es) → RunningMem table code ss (mem c ms es) → Leaves (mem c ms es) (mem (with_turns x.core n f) x.marks x.entries)
  turn_of_leaves k x n f e h =
      let P : Mem → Type 0 = Leaves (mem c ms es) in
      leaves_on (mem c ms es) x _ (subst P (sym e) (turn_leaves k table code ss i c ms es h.3.views.ports (runs_fit h))) (leaves_moved x.core x.marks x.entries _ _ n f)
