-- What a call finds out of its slabs before it acts: whether they hold a state of the run.
use Rattle.std.specs.Prelude.{ℕ, Bool, ◌&&◌, List, ◌==◌, nat_le, slice_index_or}
use Rattle.lattice.specs.Levels.{Levels}
use Rattle.codec.specs.declared.frames.Head.{Head}
use Rattle.script.specs.Code.{Script}
use Rattle.script.specs.Trees.{head_of, script_frames}
use Rattle.model.specs.Machine.{State}
use Rattle.survey.specs.Table.{Tabled}
use Rattle.survey.specs.declared.table.Step.{Step}
use Rattle.runs.specs.declared.Port.{Port}
use Rattle.runs.specs.declared.Core.{Core}
use Rattle.runs.specs.declared.declaring.Declared.{Declared}
use Rattle.runs.specs.Flat.{nil_port}
use Rattle.runs.specs.Kept.{entries_needed, samples_needed}
use Rattle.runs.specs.Memory.{Memory, StandsFor}
use Rattle.runs.specs.Turns.{all_first}

-- Two headers are the same.
abbrev pub same_head : Head → Head → Bool
same_head a b =
    (a.version == b.version && a.kind == b.kind)
    && ((a.threads == b.threads && a.variables == b.variables) && ((a.tracks == b.tracks && a.channels == b.channels) && a.locks == b.locks))

-- Two tracks or channels have the same level and size.
abbrev pub ports_agree : Port → Port → Bool
ports_agree p q = p.level == q.level && p.size == q.size

-- The first n of them do.
abbrev pub all_ports_agree : List Port → List Port → ℕ → Bool
all_ports_agree ps qs n = all_first (λ h. ports_agree (slice_index_or ps h nil_port) (slice_index_or qs h nil_port)) n

-- A run declares what a script does.
abbrev pub declares_same : Core → Declared → Bool
declares_same c d = same_head c.head d.head && (all_ports_agree c.tracks d.tracks c.head.tracks && all_ports_agree c.channels d.channels c.head.channels)

-- Slabs of these lengths are long enough for a run.
abbrev pub is_long_enough : Core → ℕ → ℕ → ℕ → Bool
is_long_enough c samples entries marks = nat_le (samples_needed c) samples && (nat_le (entries_needed c) entries && nat_le 128 marks)

-- No state stands in memory.
abbrev pub HasNoState : ℕ → Levels → Memory → Type 0
HasNoState kind k m = (sc : Script) (s : State) → StandsFor kind k m sc s → ⊥

-- Memory stands for a state of a script, whose steps these are.
pub record SomeState (kind : ℕ) (k : Levels) (m : Memory) (table : List Step) : Type 0 where
  pub script : Script
  pub state : State
  pub stands : StandsFor kind k m script state
  pub tabled : Tabled (head_of script) m.script table (script_frames script)
