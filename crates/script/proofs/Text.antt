-- What is accepted is the text of a valid script, and the text of every valid script that can be written is accepted.
use Rattle.std.proofs.Common.{◌≡◌, ℕ, suc, Bool, true, false, cond, ◌&&◌, T, ltb, List, [], ◌∷◌, map, sym, refl, ap, ◌∙◌, subst, arith}
use mathlib.Core.Option.{Option, none, some}
use Rattle.std.specs.List.{AllByRecursion}
use Rattle.lattice.specs.Levels.{Levels}
use Rattle.script.specs.Code.{Script}
use Rattle.codec.specs.Lines.{split, written}
use Rattle.codec.specs.Frames.{Frame, Read, frame_of, frame_bytes}
use Rattle.codec.specs.Frames.Frame.{header, track, channel, thread, thread_end, if, else, end_if, while, end_while, with, end_with, last}
use Rattle.script.specs.Format.{Phase, Seen, ◌asks◌, tests, fault, phase_after, seen_after, nothing_seen, is_ended, or_fault_2, whole_line, read_lines, read_script}
use Rattle.script.specs.Format.Phase.{start}
use Rattle.script.specs.Format.Verdict.{refused, accepted}
use Rattle.script.specs.Trees.{script_frames, ValidScript}
use Rattle.codec.specs.Writable.{Bytes, Writable}
use Rattle.script.specs.Text.{script_text}
use Rattle.script.proofs.Accepting.{Passing, passing, passing_parts, judged_accepted}
use Rattle.script.proofs.Scripts.{script_accepted}
use Rattle.script.proofs.Complete.{whole_lines, valid_read}
use Rattle.codec.proofs.Writing.{Sized, split_written, written_split}
use Rattle.codec.proofs.Encoding.{Whole, frame_back, frame_forth, frame_fits}

-- From a script to its text and back

pub sized : (f : Frame) → Writable f → Sized (frame_bytes f)
sized (header h) w = (omega arith, omega arith, w.0)
sized (track i l z) w = (omega arith, omega arith, w.0)
sized (channel i l z) w = (omega arith, omega arith, w.0)
sized (thread i) w = (omega arith, omega arith, w.0)
sized thread_end w = (omega arith, omega arith, w.0)
sized Frame.skip w = (omega arith, omega arith, w.0)
sized (Frame.assign x e) w = (omega arith, omega arith, w.0)
sized (Frame.put h e) w = (omega arith, omega arith, w.0)
sized (if e) w = (omega arith, omega arith, w.0)
sized else w = (omega arith, omega arith, w.0)
sized end_if w = (omega arith, omega arith, w.0)
sized (while e) w = (omega arith, omega arith, w.0)
sized end_while w = (omega arith, omega arith, w.0)
sized (with m e) w = (omega arith, omega arith, w.0)
sized end_with w = (omega arith, omega arith, w.0)
sized (last m) w = (omega arith, omega arith, w.0)

pub all_sized : (fs : List Frame) → AllByRecursion Writable fs → AllByRecursion Sized (map frame_bytes fs)
all_sized [] w = tt
all_sized (f ∷ fs) w = (sized f w.0, all_sized fs w.1)

pub lines_of : (fs : List Frame) → AllByRecursion Writable fs → map whole_line (map some (map frame_bytes fs)) ≡ whole_lines fs
lines_of [] w = refl
lines_of (f ∷ fs) w = λ i. or_fault_2 (frame_forth f w.0.1 i) ∷ lines_of fs w.1 i

pub text_read : (kind : ℕ) (k : Levels) (sc : Script) → ValidScript kind k sc → AllByRecursion Writable (script_frames sc) → read_script kind k (script_text sc) ≡ accepted (script_frames sc)
unfolding read_script
text_read kind k sc v w =
    let e : map whole_line (split (script_text sc)) ≡ whole_lines (script_frames sc) = ap (map whole_line) (split_written (map frame_bytes (script_frames sc)) (all_sized (script_frames sc) w)) ∙ lines_of (script_frames sc) w in
    ap (read_lines kind k start nothing_seen) e ∙ valid_read kind k sc v

-- From accepted bytes to their script's text

-- The bytes of each frame of lines that were read.
abbrev Held : List (List ℕ) → List Frame → Type 0
Held [] [] = Unit {0}
Held [] (f ∷ fs) = ⊥
Held (b ∷ bs) [] = ⊥
Held (b ∷ bs) (f ∷ fs) = ((w : Bool) × (frame_of b ≡ some (record { frame = f; whole = w })) × Whole f w) × Held bs fs

module _ (kind : ℕ) (k : Levels) where
  and_true : (a b : Bool) → T (a && b) → a ≡ true
  and_true true b h = refl
  and_true false b h = absurd h

  pub whole : (p : Phase) (n : Seen) (f : Frame) (w : Bool) → Passing (tests kind k p n f w) → Whole f w
  whole p n (header h) w t = tt
  whole p n (track i l z) w t = tt
  whole p n (channel i l z) w t = tt
  whole p n (thread i) w t = tt
  whole p n thread_end w t = tt
  whole p n Frame.skip w t = tt
  whole p n (Frame.assign x e) w t = and_true w _ t.1.1.0
  whole p n (Frame.put h e) w t = and_true w _ t.1.1.0
  whole p n (if e) w t = and_true w _ t.1.1.0
  whole p n else w t = tt
  whole p n end_if w t = tt
  whole p n (while e) w t = and_true w _ t.1.1.0
  whole p n end_while w t = tt
  whole p n (with m e) w t = and_true w _ t.1.1.0
  whole p n end_with w t = tt
  whole p n (last m) w t = tt

  pub record Lined (xs : List (Option (List ℕ))) (fs : List Frame) : Type 0 where
    pub bytes : List (List ℕ)
    pub is : xs ≡ map some bytes
    pub held : Held bytes fs

  no_lines : (t : Bool) (l : ℕ) (fs : List Frame) → cond t (accepted []) (refused 5 l) ≡ accepted fs → Lined [] fs
  no_lines true l fs e = let h : [] ≡ fs = cc in subst (Lined []) h (record { bytes = []; is = refl; held = tt })
  no_lines false l fs e = cc

  one_line : (bs : List ℕ) (xs : List (Option (List ℕ))) (p : Phase) (n : Seen) (fs : List Frame) (o : Option Read) → frame_of bs ≡ o
      → ((p : Phase) (n : Seen) (fs : List Frame) → read_lines kind k p n (map whole_line xs) ≡ accepted fs → Lined xs fs)
      → read_lines kind k p n (or_fault_2 o ∷ map whole_line xs) ≡ accepted fs → Lined (some bs ∷ xs) fs
  unfolding read_lines fault
  one_line bs xs p n fs none eo ih e = cc
  one_line bs xs p n fs (some r) eo ih e =
      let later = read_lines kind k (phase_after p r.frame) (seen_after n r.frame) (map whole_line xs) in
      let j = judged_accepted (suc n.frames) r.frame (fault kind k p n r) later fs e in
      let t = passing_parts (tests kind k p n r.frame r.whole) ((8 asks ltb n.frames 512) ∷ []) (passing _ j.1) in
      let m = ih (phase_after p r.frame) (seen_after n r.frame) j.0 j.2 in
      subst (Lined (some bs ∷ xs)) (sym j.3) (record {
        bytes = bs ∷ m.bytes;
        is = ap (λ (ys : List (Option (List ℕ))). some bs ∷ ys) m.is;
        held = ((r.whole, eo, whole p n r.frame r.whole t.0), m.held);
      })

  lined : (xs : List (Option (List ℕ))) (p : Phase) (n : Seen) (fs : List Frame) → read_lines kind k p n (map whole_line xs) ≡ accepted fs → Lined xs fs
  unfolding read_lines
  lined [] p n fs e = no_lines (is_ended p) (suc n.frames) fs e
  lined (none ∷ xs) p n fs e = cc
  lined (some bs ∷ xs) p n fs e = one_line bs xs p n fs (frame_of bs) refl (lined xs) e

held_bytes : (bss : List (List ℕ)) (fs : List Frame) → AllByRecursion Sized bss → Held bss fs → (map frame_bytes fs ≡ bss) × AllByRecursion Writable fs
held_bytes [] [] s h = (refl, tt)
held_bytes [] (f ∷ fs) s h = absurd h
held_bytes (b ∷ bss) [] s h = absurd h
held_bytes (b ∷ bss) (f ∷ fs) s h =
    let r : Read = record { frame = f; whole = h.0.0 } in
    let t = held_bytes bss fs s.1 h.1 in
    let same = frame_back b r s.0.2 h.0.1 h.0.2 in
    ((λ i. same i ∷ t.0 i), ((subst Bytes (sym same) s.0.2, frame_fits r b s.0.2 h.0.1 h.0.2), t.1))

-- Accepted bytes are the text of a valid script, which can be written.
pub record Text (kind : ℕ) (k : Levels) (bytes : List ℕ) (fs : List Frame) : Type 0 where
  pub script : Script
  pub frames_are : script_frames script ≡ fs
  pub text_is : script_text script ≡ bytes
  pub valid : ValidScript kind k script
  pub writable : AllByRecursion Writable (script_frames script)

pub text_accepted : (kind : ℕ) (k : Levels) (bytes : List ℕ) (fs : List Frame) → read_script kind k bytes ≡ accepted fs → Text kind k bytes fs
unfolding read_script
text_accepted kind k bytes fs e =
    let t = script_accepted kind k bytes fs e in
    let l = lined kind k (split bytes) start nothing_seen fs e in
    let w = written_split bytes l.bytes l.is in
    let h = held_bytes l.bytes fs w.1 l.held in
    record {
      script = t.script;
      frames_are = t.is;
      text_is = ap (λ (gs : List Frame). written (map frame_bytes gs)) t.is ∙ ap written h.0 ∙ w.0;
      valid = t.valid;
      writable = subst (AllByRecursion Writable) (sym t.is) h.1;
    }
