-- A script as a table of steps, one for each frame.
use Rattle.std.specs.Prelude.{◌≡◌, ℕ, ◌-◌, ◌<◌, ◌≤◌, true, false, ◌&&◌, ◌||◌, List, [], ◌∷◌, length, take, drop, bit_or, slice_index_or}
use Rattle.codec.specs.Expressions.{Expr, decode}
use Rattle.codec.specs.Frames.{Head, Frame}
use Rattle.codec.specs.Frames.Frame.{header, track, channel, thread, thread_end, if, else, end_if, while, end_while, with, end_with, last}
use Rattle.lattice.specs.Levels.{Levels}
use Rattle.script.specs.Code.{Code, Script}
use Rattle.script.specs.Code.Code.{branch}
use Rattle.script.specs.Trees.{ValidScript, flatten, head_of, script_frames, Sound}
use Rattle.script.specs.Slabs.{Holds as SlabHolds}
use Rattle.model.specs.Stretches.{fixed_time, assigns, needs}
use Rattle.model.specs.Machine.{lag}
use Rattle.model.specs.Places.{past}
use Rattle.survey.specs.Stretches.{has_bit}
use Rattle.survey.specs.declared.table.Kind.TheVariants.{Other, Begin, End, Skip, Assign, Put, If, Else, EndIf, While, EndWhile, With, EndWith}
use Rattle.survey.specs.declared.table.Step.{Step}

-- What is read past the table.
abbrev pub nil_step : Step
nil_step = record { kind = Other; number = 0; mask = 0; start = 0; stop = 0; other = 0; fixed = false; first = 0; second = 0; needed = 0; assigned = 0 }

-- The step at a place.
abbrev pub step_at_place : List Step → ℕ → Step
step_at_place table p = slice_index_or table p nil_step

-- The bytes of a step's expression.
abbrev pub bytes_of : List ℕ → Step → List ℕ
bytes_of code st = take (st.stop - st.start) (drop st.start code)

-- Bytes that are a sound expression.
pub record Good (h : Head) (bytes : List ℕ) : Type 0 where
  pub sound : Sound h (decode 0 bytes).ops

-- The bytes of a step are the expression e, and it is sound.
pub record Holds (h : Head) (code : List ℕ) (st : Step) (e : Expr) : Type 0 where
  pub ops : (decode 0 (bytes_of code st)).ops ≡ e
  pub good : Good h (bytes_of code st)
  pub ordered : st.start ≤ st.stop
  pub within : st.stop ≤ length code

-- What a step at place p says of its own frame, the first of these.
abbrev pub Reads : Head → List ℕ → ℕ → Step → List Frame → Type 0
Reads h code p st [] = st.kind ≡ Other
Reads h code p st (header d ∷ fs) = st.kind ≡ Other
Reads h code p st (track i l z ∷ fs) = st.kind ≡ Other
Reads h code p st (channel i l z ∷ fs) = st.kind ≡ Other
Reads h code p st (thread i ∷ fs) = st.kind ≡ Begin
Reads h code p st (thread_end ∷ fs) = st.kind ≡ End
Reads h code p st (Frame.skip ∷ fs) = st.kind ≡ Skip
Reads h code p st (Frame.assign x e ∷ fs) = (st.kind ≡ Assign) × (st.number ≡ x) × Holds h code st e
Reads h code p st (Frame.put x e ∷ fs) = (st.kind ≡ Put) × (st.number ≡ x) × Holds h code st e
Reads h code p st (if e ∷ fs) = (st.kind ≡ If) × (st.other ≡ past p fs) × Holds h code st e × (st.mask ≡ 0)
Reads h code p st (else ∷ fs) = (st.kind ≡ Else) × (st.other ≡ past p fs)
Reads h code p st (end_if ∷ fs) = st.kind ≡ EndIf
Reads h code p st (while e ∷ fs) = (st.kind ≡ While) × (st.other ≡ past p fs) × Holds h code st e × (st.mask ≡ 0) × (st.needed ≡ 0) × (st.assigned ≡ 0)
Reads h code p st (end_while ∷ fs) = st.kind ≡ EndWhile
Reads h code p st (with m e ∷ fs) = (st.kind ≡ With) × (st.mask ≡ m) × Holds h code st e × (st.needed ≡ 0) × (st.assigned ≡ 0)
Reads h code p st (end_with ∷ fs) = st.kind ≡ EndWith
Reads h code p st (last m ∷ fs) = st.kind ≡ Other

-- What the step of an if says of its two ways.
pub record Ways (st : Step) (a b : Code) : Type 0 where
  pub fixed : st.fixed ≡ (fixed_time a && fixed_time b)
  pub first : st.first ≡ lag true a b
  pub second : st.second ≡ lag false a b
  pub needed : st.needed ≡ bit_or (needs a) (needs b)
  pub assigned : (x : ℕ) → x < 64 → has_bit st.assigned x ≡ (assigns x a || assigns x b)

-- The table says of every frame what it is, and of every if what its two ways are.
pub record Tabled (h : Head) (code : List ℕ) (table : List Step) (fs : List Frame) : Type 0 where
  pub here : (p : ℕ) → Reads h code p (step_at_place table p) (drop p fs)
  pub ways : (p : ℕ) (e : Expr) (a b c : Code) (r : List Frame) → drop p fs ≡ flatten (branch e a b c) r → Ways (step_at_place table p) a b
  pub long : length table ≡ length fs
  pub few : length fs ≤ 512

-- Filling a table of at least 512 steps: its first places are the steps of whatever valid script the slab holds.
abbrev pub Tabulates : List ℕ → List Step → Type 0
Tabulates slab table =
    (kind : ℕ) (k : Levels) (sc : Script) → ValidScript kind k sc → SlabHolds kind k slab (script_frames sc) → 512 ≤ length table
    → Tabled (head_of sc) slab (take (length (script_frames sc)) table) (script_frames sc)
