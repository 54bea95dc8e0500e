-- What the lines of a script come to, one at a time and all together.
use Rattle.std.specs.Prelude.{◌≡◌, ℕ, suc, ◌*◌, ◌<◌, ◌≤◌, ◌⊎◌, List, length, take, drop}
use Rattle.std.proofs.Math.Option.{Option as Perhaps, none, some}
use Rattle.std.proofs.Common.{inl, inr}
use Rattle.lattice.specs.Levels.{Levels}
use Rattle.codec.specs.Frames.{Frame, Read, frame_bytes}
use Rattle.script.specs.Format.{nothing_seen, fault, read_script, through}
use Rattle.script.specs.Format.Verdict.{refused, accepted}
use Rattle.script.specs.declared.faults.ScriptFault.{ScriptFault}
use Rattle.codec.specs.declared.lines.Slot.{Slot}
use Rattle.script.specs.declared.state.State.{State}
use Rattle.codec.specs.Slots.{padded}
use Rattle.script.specs.Stages.{Stepped, phase_of, seen_of}
use Rattle.script.specs.Slabs.{slots_of}
use Rattle.script.specs.Refusals.{refusal, script_refusal}

module _ (kind : ℕ) (k : Levels) where
  -- The fault of a line.
  abbrev pub line_fault : State → ℕ ⊎ Read → Perhaps ℕ
  line_fault s (inl number) = some number
  line_fault s (inr r) = fault kind k (phase_of s) (seen_of s) r

  -- A line without fault, and t is the state behind its frame.
  pub record Behind (s : State) (l : ℕ ⊎ Read) (t : State) : Type 0 where
    pub read : Read
    pub is : l ≡ inr read
    pub passes : fault kind k (phase_of s) (seen_of s) read ≡ none
    pub stepped : Stepped s read.frame t

  -- A line without fault: its frame is in the slot, and t is the state behind it.
  pub record Took (s : State) (l : ℕ ⊎ Read) (t : State) (slot : Slot) : Type 0 where
    pub read : Read
    pub is : l ≡ inr read
    pub passes : fault kind k (phase_of s) (seen_of s) read ≡ none
    pub stepped : Stepped s read.frame t
    pub few : s.frames < 512
    pub holds : slot.bytes ≡ padded 51 (frame_bytes read.frame)

  -- A line with a fault, and the fault that tells it.
  pub record Refuses (s : State) (l : ℕ ⊎ Read) (e : ScriptFault) : Type 0 where
    pub number : ℕ
    pub is : line_fault s l ≡ some number
    pub tells : script_refusal e ≡ refusal number (suc s.frames)

module _ (kind : ℕ) (k : Levels) where
  -- Lines that are accepted: their frames are in the first slots, and the bytes past the slots are as they were.
  pub record Fills (lines slab end : List ℕ) (t : State) : Type 0 where
    pub frames : List Frame
    pub verdict : read_script kind k lines ≡ accepted frames
    pub count : length frames ≡ t.frames
    pub few : t.frames ≤ 512
    pub declares : seen_of t ≡ through nothing_seen frames
    pub slots : take (t.frames * 51) end ≡ slots_of frames
    pub past : drop 26112 end ≡ drop 26112 slab

  -- Lines that are refused, and the fault that tells it.
  pub record Fails (lines : List ℕ) (e : ScriptFault) : Type 0 where
    pub number : ℕ
    pub line : ℕ
    pub verdict : read_script kind k lines ≡ refused number line
    pub tells : script_refusal e ≡ refusal number line
