-- The frame in a slot of a slab that holds a script.
use Rattle.std.proofs.Common.{◌≡◌, ℕ, zero, suc, ◌+◌, ◌-◌, ◌*◌, ◌<◌, ◌≤◌, List, [], ◌∷◌, ◌++◌, length, get_or, take, drop, replicate, Option, None, sym, refl, ap, ◌∙◌, ⊎_elim, arith, le-ltb, lt-ltb, le-leb}
use mathlib.Core.Option.{none, some}
use Rattle.std.proofs.lemmas.Bool.{cases_lt}
use borrow.Author.Tests.{lt-leb}
use Rattle.std.proofs.lemmas.List.{drop_at, drop-drop, drop-replicate, drop-take, take-replicate, take-take}
use Rattle.std.specs.List.{AllByRecursion}
use Rattle.lattice.specs.Levels.{Levels}
use Rattle.codec.specs.Frames as M
use Rattle.codec.specs.Frames.{frame_of}
use Rattle.codec.specs.Frames.Frame.{skip}
use Rattle.codec.specs.Shapes.{read_of, whole}
use Rattle.codec.specs.Slots.{perhaps}
use Rattle.codec.specs.Writable.{Writable}
use Rattle.codec.specs.declared.frames.Frame.{Frame}
use Rattle.codec.proofs.Encoding.{frame_forth}
use Rattle.script.specs.Findings.{length_at}
use Rattle.script.specs.Slabs.{Holds, frame_in, frame_number, SlotFound, slab_of, slot_at, slots_of}
use Rattle.script.specs.Promises.{FrameFound}
use Rattle.script.proofs.Holding.{held_few, held_writable}
use Rattle.script.proofs.SlotTakings.{fronts}
use Rattle.script.proofs.Texting.{slot_number, slots_long, writable_number}

numbered_in : (fs : List M.Frame) (i : ℕ) → i < length fs → frame_number i fs ≡ some (whole (get_or fs i skip))
numbered_in [] i h = absurd (omega arith)
numbered_in (f ∷ fs) zero h = refl
numbered_in (f ∷ fs) (suc i) h = numbered_in fs i (omega arith)

-- Past its frames a script has none.
pub numbered_past : (fs : List M.Frame) (i : ℕ) → length fs ≤ i → frame_number i fs ≡ none
numbered_past [] i h = refl
numbered_past (f ∷ fs) zero h = absurd (omega arith)
numbered_past (f ∷ fs) (suc i) h = numbered_past fs i (omega arith)

-- A slot behind the frames is zero, and has no frame at its front.
zero_slot : (slab : List ℕ) (fs : List M.Frame) (i : ℕ) → AllByRecursion Writable fs → length fs ≤ i → i < 512 → take 26112 slab ≡ slab_of fs → slot_at slab i ≡ replicate 51 0
zero_slot slab fs i w h few e =
    let a = i * 51 in
    let m = length (slots_of fs) in
    let long : m ≡ length fs * 51 = slots_long fs w in
    let n : a + (26112 - a) ≡ 26112 = omega arith in
    let back : m + (a - m) ≡ a = omega arith in
    let zeros : List ℕ = replicate (26112 - m) 0 in
    sym (take-take 51 (26112 - a) (drop a slab) (omega arith))
    ∙ ap (take 51) (sym (drop-take a (26112 - a) slab) ∙ ap (λ (x : ℕ). drop a (take x slab)) n ∙ ap (drop a) e
    ∙ ap (λ (x : ℕ). drop x (slots_of fs ++ zeros)) (sym back) ∙ sym (drop-drop (a - m) m (slots_of fs ++ zeros)) ∙ ap (drop (a - m)) (drop_at (slots_of fs) zeros m refl)
    ∙ drop-replicate (a - m) (26112 - m) 0)
    ∙ take-replicate 51 ((26112 - m) - (a - m)) 0 (omega arith)

zero_front : (slot : List ℕ) → slot ≡ replicate 51 0 → frame_of (take (length_at slot) slot) ≡ none
unfolding frame_of
zero_front slot e = ap (λ (s : List ℕ). frame_of (take (length_at s) s)) e

-- A slot is in the slab, or it is not.
in_slab : (slab : List ℕ) (i : ℕ) → i < 512 → i * 51 + 51 ≤ length slab → frame_in slab i ≡ frame_of (take (length_at (slot_at slab i)) (slot_at slab i))
in_slab slab i few room = rw (lt-ltb i 512 few, le-leb (i * 51 + 51) (length slab) room)

no_slot : (slab : List ℕ) (i : ℕ) → (i < 512 → length slab < i * 51 + 51) → none ≡ frame_in slab i
no_slot slab i h = ⊎_elim (λ l. rw (lt-ltb i 512 l, lt-leb (i * 51 + 51) (length slab) (h l))) (λ l. rw (le-ltb i 512 l)) (cases_lt i 512)

module _ (kind : ℕ) (k : Levels) (slab : List ℕ) (fs : List M.Frame) (h : Holds kind k slab fs) (i : ℕ) where
  pub frame_held : frame_in slab i ≡ frame_number i fs
  frame_held = ⊎_elim inside past (cases_lt i (length fs))
    where
      all : AllByRecursion Writable fs
      all = held_writable kind k slab fs h

      bound : length fs ≤ 512
      bound = held_few kind k slab fs h

      inside : i < length fs → frame_in slab i ≡ frame_number i fs
      inside l =
          let w = writable_number fs i all l in
          in_slab slab i (omega (arith, bound)) (omega (arith, bound, h.room))
          ∙ ap frame_of (fronts (slot_at slab i) (get_or fs i skip) w (slot_number slab fs i all l bound h.slots)).bytes
          ∙ frame_forth (get_or fs i skip) w.1
          ∙ sym (numbered_in fs i l)

      beyond : length fs ≤ i → i < 512 → frame_in slab i ≡ none
      beyond l few = in_slab slab i few (omega (arith, h.room)) ∙ zero_front (slot_at slab i) (zero_slot slab fs i all l few h.slots)

      past : length fs ≤ i → frame_in slab i ≡ frame_number i fs
      past l = ⊎_elim (beyond l) (λ far. sym (no_slot slab i (λ l. absurd (omega arith)))) (cases_lt i 512) ∙ sym (numbered_past fs i l)

pub found : (slab : List ℕ) (i : ℕ) (r : Option Frame) → perhaps read_of r ≡ frame_in slab i → FrameFound slab i r
found slab i r e = record { bytes = e; held = λ kind k fs h. e ∙ frame_held kind k slab fs h i }

-- Where there is no slot there is no frame; else it is at the slot's front.
pub found_none : (slab : List ℕ) (i : ℕ) → (i < 512 → length slab < i * 51 + 51) → FrameFound slab i None
found_none slab i h = found slab i None (no_slot slab i h)

pub found_front : (slab slot front : List ℕ) (i : ℕ) (r : Option Frame) → SlotFound slab i slot → front ≡ take (length_at slot) slot → perhaps read_of r ≡ frame_of front → FrameFound slab i r
found_front slab slot front i r s f h = found slab i r (h ∙ ap frame_of (f ∙ ap (λ (x : List ℕ). take (length_at x) x) s.is) ∙ sym (in_slab slab i s.few s.room))
