-- Script slabs: 512 slots of 51 bytes, a frame a slot, and which script a slab holds.
use Rattle.std.specs.Prelude.{◌≡◌, ℕ, zero, suc, ◌+◌, ◌*◌, ◌<◌, ◌≤◌, cond, ◌&&◌, List, [], ◌∷◌, length, take, drop, nat_le, nat_lt}
use Rattle.std.proofs.Math.Option.{Option as Perhaps, none, some}
use Rattle.std.specs.List.{flat_map}
use Rattle.lattice.specs.Levels.{Levels}
use Rattle.codec.specs.Frames.{Frame, Read, frame_bytes, frame_of}
use Rattle.codec.specs.Slots.{padded}
use Rattle.codec.specs.Shapes.{head_of, whole}
use Rattle.script.specs.Format.{nothing_seen, read_script, through}
use Rattle.script.specs.Format.Verdict.{accepted}
use Rattle.script.specs.Text.{text_of}
use Rattle.script.specs.Findings.{length_at}
use Rattle.script.specs.declared.Declarations.{Declarations}

-- Frames in their slots, one after the other, zeros behind each.
abbrev pub slots_of : List Frame → List ℕ
slots_of fs = flat_map (λ f. padded 51 (frame_bytes f)) fs

-- The 26,112 bytes of a slab that holds these frames: the slots that are left are zero.
abbrev pub slab_of : List Frame → List ℕ
slab_of fs = padded 26112 (slots_of fs)

-- A slab holds a script: its slots are the script's frames, and the script's text is accepted.
pub record Holds (kind : ℕ) (k : Levels) (slab : List ℕ) (fs : List Frame) : Type 0 where
  pub room : 26112 ≤ length slab
  pub slots : take 26112 slab ≡ slab_of fs
  pub accepts : read_script kind k (text_of fs) ≡ accepted fs

-- What frames declare: the header, the samples and entries of all tracks and channels, and how many frames there are.
pub record Declares (fs : List Frame) (d : Declarations) : Type 0 where
  pub head_is : head_of d.head ≡ (through nothing_seen fs).head
  pub samples_are : d.samples ≡ (through nothing_seen fs).track_room
  pub entries_are : d.entries ≡ (through nothing_seen fs).channel_room
  pub frames_are : d.frames ≡ length fs

-- Slot i of a slab.
abbrev pub slot_at : List ℕ → ℕ → List ℕ
slot_at slab i = take 51 (drop (i * 51) slab)

-- Slot i, one of 512, whole in the slab.
pub record SlotFound (slab : List ℕ) (i : ℕ) (slot : List ℕ) : Type 0 where
  pub few : i < 512
  pub room : i * 51 + 51 ≤ length slab
  pub is : slot ≡ slot_at slab i
  pub long : length slot ≡ 51

-- The frame at the front of slot i; none past slot 511 and past the slab.
abbrev pub frame_in : List ℕ → ℕ → Perhaps Read
frame_in slab i = cond (nat_lt i 512 && nat_le (i * 51 + 51) (length slab)) (frame_of (take (length_at (slot_at slab i)) (slot_at slab i))) none

-- Frame i of a script, counted from 0.
abbrev pub frame_number : ℕ → List Frame → Perhaps Read
frame_number i [] = none
frame_number zero (f ∷ fs) = some (whole f)
frame_number (suc i) (f ∷ fs) = frame_number i fs
