-- What reading, writing and finding a script promise.
use Rattle.std.specs.Prelude.{◌≡◌, ℕ, suc, ◌<◌, ◌≤◌, Bool, true, false, cond, ◌⊎◌, List, [], ◌∷◌, ◌++◌, length, drop, replicate, IfErr, Some, Ok, Option, Result, MatchResult, ◌≢◌, nat_lt}
use Rattle.std.proofs.Common.{inl, inr}
use Rattle.std.proofs.Math.Option.{Option as Perhaps, none, some}
use Rattle.std.specs.Option as options
use Rattle.std.specs.List.{AllByRecursion}
use Rattle.lattice.specs.Levels.{Levels}
use Rattle.codec.specs.Frames as M
use Rattle.codec.specs.Frames.{Read}
use Rattle.codec.specs.Shapes.{read_of}
use Rattle.codec.specs.Slots.{perhaps}
use Rattle.codec.specs.Writable.{Writable}
use Rattle.codec.specs.declared.frames.Frame.{Frame}
use Rattle.script.specs.Code.{Script}
use Rattle.script.specs.Format.{Phase, Seen, Verdict, phase_through, fault, is_ended, named_kind, nothing_seen, phase_after, read_script, read_text, seen_after, through}
use Rattle.script.specs.Format.Phase.{start}
use Rattle.script.specs.Format.Verdict.{refused, accepted}
use Rattle.script.specs.Trees.{ValidScript, script_frames}
use Rattle.script.specs.Text.{script_text, text_of}
use Rattle.script.specs.Slabs.{Declares, Holds, frame_in, frame_number, slab_of}
use Rattle.script.specs.Refusals.{refusal, run_refusal}
use Rattle.script.specs.declared.Accepted.{Accepted}
use Rattle.script.specs.declared.Declarations.{Declarations}
use Rattle.script.specs.declared.faults.RunFault.{RunFault}
use Rattle.script.specs.declared.faults.RunFault.TheVariants.{NoState}

-- One statement or another, by a test.
abbrev pub by_test : Bool → Type 0 → Type 0 → Type 0
by_test true P Q = P
by_test false P Q = Q

-- Reading

-- By the definition's verdict: the slab before and at the end, and the answer.
abbrev pub ReadAs : {K : Type 0} → Verdict → List ℕ → List ℕ → Result (Accepted K) RunFault → Type 0
ReadAs (refused n l) slab end r = (end ≡ replicate (length slab) 0) × MatchResult r (λ _. ⊥) (λ e. run_refusal e ≡ refusal n l)
ReadAs (accepted fs) slab end r = (end ≡ slab_of fs ++ drop 26112 slab) × MatchResult r (λ a. Declares fs a.declarations) (λ _. ⊥)

-- A slab that is too short is left as it was.
abbrev pub TooShort : {A : Type 0} → List ℕ → List ℕ → Result A RunFault → Type 0
TooShort slab end r = (end ≡ slab) × MatchResult r (λ _. ⊥) (λ e. e ≡ NoState)

-- By the slab's length, and then by the verdict on the lines.
abbrev pub ReadGives : {K : Type 0} → ℕ → Levels → List ℕ → List ℕ → List ℕ → Result (Accepted K) RunFault → Type 0
ReadGives kind k lines slab end r = by_test (nat_lt (length slab) 26112) (TooShort slab end r) (ReadAs (read_script kind k lines) slab end r)

-- Lines that are the text of a valid script, and of no other.
pub record ValidText (kind : ℕ) (k : Levels) (lines : List ℕ) : Type 0 where
  pub script : Script
  pub valid : ValidScript kind k script
  pub writable : AllByRecursion Writable (script_frames script)
  pub text : script_text script ≡ lines
  pub only : (other : Script) → ValidScript kind k other → AllByRecursion Writable (script_frames other) → script_text other ≡ lines → other ≡ script

-- Accepted are the texts of valid scripts, and no other lines.
abbrev pub AcceptsExactly : {K : Type 0} → ℕ → Levels → List ℕ → List ℕ → Result (Accepted K) RunFault → Type 0
AcceptsExactly kind k lines slab r = MatchResult r (λ _. ValidText kind k lines) (λ _. 26112 ≤ length slab → ValidText kind k lines → ⊥)

module _ (kind : ℕ) (k : Levels) where
  -- From a state on, the first of these lines are frames without fault, and the rest are left.
  abbrev pub Passed : Phase → Seen → List (ℕ ⊎ Read) → List M.Frame → List (ℕ ⊎ Read) → Type 0
  Passed p n ls [] rest = ls ≡ rest
  Passed p n [] (f ∷ fs) rest = ⊥
  Passed p n (inl number ∷ ls) (f ∷ fs) rest = ⊥
  Passed p n (inr r ∷ ls) (f ∷ fs) rest = (r.frame ≡ f) × (fault kind k p n r ≡ none) × Passed (phase_after p f) (seen_after n f) ls fs rest

  -- The fault of the next line; where no line is left before the script's end, that is 5.
  abbrev pub next_fault : Phase → Seen → List (ℕ ⊎ Read) → Perhaps ℕ
  next_fault p n [] = cond (is_ended p) none (some 5)
  next_fault p n (inl number ∷ ls) = some number
  next_fault p n (inr r ∷ ls) = fault kind k p n r

  -- Number n at line l is the first fault of a text: the lines before it have none, and it is that of the next line.
  pub record FirstFault (lines : List ℕ) (n l : ℕ) : Type 0 where
    pub frames : List M.Frame
    pub rest : List (ℕ ⊎ Read)
    pub passed : Passed start nothing_seen (read_text lines) frames rest
    pub at : l ≡ suc (length frames)
    pub told : next_fault (phase_through start frames) (through nothing_seen frames) rest ≡ some n

  -- A refusal of lines tells their first fault.
  pub record TellsFirst (lines : List ℕ) (e : RunFault) : Type 0 where
    pub number : ℕ
    pub line : ℕ
    pub tells : run_refusal e ≡ refusal number line
    pub first : FirstFault lines number line

-- What `read` promises: the answer and the slab by the verdict, and what that verdict means.
pub record Reads {K : Type 0} (kind : ℕ) (k : Levels) (lines slab end : List ℕ) (r : Result (Accepted K) RunFault) : Type 0 where
  pub gives : ReadGives kind k lines slab end r
  pub exactly : AcceptsExactly kind k lines slab r
  pub first : IfErr r (λ e. 26112 ≤ length slab → TellsFirst kind k lines e)

-- Finding

-- The script that a slab holds, what it declares, and that it holds no other.
pub record Held (kind : ℕ) (k : Levels) (slab : List ℕ) (d : Declarations) : Type 0 where
  pub frames : List M.Frame
  pub holds : Holds kind k slab frames
  pub declares : Declares frames d
  pub only : (gs : List M.Frame) → Holds kind k slab gs → gs ≡ frames

-- What `holds` promises: None where the slab holds no script.
abbrev pub HoldsGives : ℕ → Levels → List ℕ → Option Declarations → Type 0
HoldsGives kind k slab r = options.MatchOption r ((fs : List M.Frame) → Holds kind k slab fs → ⊥) (Held kind k slab)

-- What `frame_at` promises: the frame at the front of the slot, which is the script's where the slab holds one.
pub record FrameFound (slab : List ℕ) (i : ℕ) (r : Option Frame) : Type 0 where
  pub bytes : perhaps read_of r ≡ frame_in slab i
  pub held : (kind : ℕ) (k : Levels) (fs : List M.Frame) → Holds kind k slab fs → perhaps read_of r ≡ frame_number i fs

-- What `kind_named` promises: the kind in the header, and that a reading under any other kind refuses with 3 at line 1.
pub record NamesKind (lines : List ℕ) (r : Option ℕ) : Type 0 where
  pub named : perhaps (λ n. n) r ≡ named_kind lines
  pub other : (n : ℕ) → r ≡ Some n → (kind : ℕ) (k : Levels) → (n ≢ kind) → read_script kind k lines ≡ refused 3 1

-- Writing

-- The lines of the script that the slab holds, and what stood behind them.
pub record Wrote (kind : ℕ) (k : Levels) (slab out end : List ℕ) (n : ℕ) : Type 0 where
  pub frames : List M.Frame
  pub holds : Holds kind k slab frames
  pub only : (gs : List M.Frame) → Holds kind k slab gs → gs ≡ frames
  pub long : n ≡ length (text_of frames)
  pub is : end ≡ text_of frames ++ drop n out

-- Zeros, where the slab holds no script or its lines do not fit.
pub record NotWritten (kind : ℕ) (k : Levels) (slab out end : List ℕ) (e : RunFault) : Type 0 where
  pub is : e ≡ NoState
  pub zeros : end ≡ replicate (length out) 0
  pub lacks : (fs : List M.Frame) → Holds kind k slab fs → length out < length (text_of fs)

-- Written, or not.
abbrev pub WriteGives : ℕ → Levels → List ℕ → List ℕ → List ℕ → Result ℕ RunFault → Type 0
WriteGives kind k slab out end r = MatchResult r (Wrote kind k slab out end) (NotWritten kind k slab out end)

-- A slab as reading these lines left it gives the very lines back, if they fit.
abbrev pub ComesBack : ℕ → Levels → List ℕ → List ℕ → List ℕ → Result ℕ RunFault → Type 0
ComesBack kind k slab out end r =
    (lines rest : List ℕ) (fs : List M.Frame) → read_script kind k lines ≡ accepted fs → slab ≡ slab_of fs ++ rest → length lines ≤ length out
    → (r ≡ Ok (length lines)) × (end ≡ lines ++ drop (length lines) out)

-- What `write` promises.
pub record Writes (kind : ℕ) (k : Levels) (slab out end : List ℕ) (r : Result ℕ RunFault) : Type 0 where
  pub gives : WriteGives kind k slab out end r
  pub back : ComesBack kind k slab out end r
