-- The frame in a slot as the next of a script.
use Rattle.std.specs.Prelude.{◌≡◌, ℕ, List}
use Rattle.std.proofs.Math.Option.{none}
use Rattle.lattice.specs.Levels.{Levels}
use Rattle.codec.specs.Frames.{Frame, frame_bytes}
use Rattle.codec.specs.Writable.{Writable}
use Rattle.codec.specs.Slots.{padded}
use Rattle.codec.specs.Shapes.{whole}
use Rattle.script.specs.Format.{fault}
use Rattle.script.specs.Stages.{Stepped, phase_of, seen_of}
use Rattle.script.specs.declared.state.State.{State}

module _ (kind : ℕ) (k : Levels) (s : State) (slot : List ℕ) where
  -- A frame in a slot that passes its tests.
  pub record Fitting (f : Frame) : Type 0 where
    pub writable : Writable f
    pub holds : slot ≡ padded 51 (frame_bytes f)
    pub passes : fault kind k (phase_of s) (seen_of s) (whole f) ≡ none

  -- The state behind the frame in a slot.
  pub record Next (t : State) : Type 0 where
    pub frame : Frame
    pub fitting : Fitting frame
    pub stepped : Stepped s frame t

  -- No frame in the slot passes.
  abbrev pub NoNext : Type 0
  NoNext = (f : Frame) → Fitting f → ⊥
