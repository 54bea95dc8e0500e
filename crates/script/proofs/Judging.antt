-- A frame's own tests, and then the one that counts it.
use Rattle.std.proofs.Common.{◌≡◌, ℕ, suc, ◌+◌, ◌<◌, ◌≤◌, Bool, true, false, cond, ltb, List, [], ◌∷◌, ◌++◌, Ok, Err, Result, MatchResult, inr, sym, refl, ap, ◌∙◌, add-one, le-ltb, lt-ltb}
use mathlib.Core.Option.{Option, none, some}
use Rattle.lattice.specs.Levels.{Levels}
use Rattle.codec.specs.Frames.{Frame, Read, frame_of}
use Rattle.script.specs.Format.{Test, fault, first_fault, or_fault_2, tests}
use Rattle.script.specs.declared.state.State.{State}
use Rattle.script.specs.Stages.{Judged, Moved, Stepped, numbered, phase_of, seen_of}
use Rattle.script.specs.declared.faults.Cause.{Cause}
use Rattle.script.specs.Refusals.{cause_number}
use Rattle.script.specs.Takings.{Behind, line_fault}

-- One more test behind tests that pass, and behind one that fails.
passed_then : (ts : List Test) (u : Test) → first_fault ts ≡ none → first_fault (ts ++ (u ∷ [])) ≡ cond u.passes none (some u.number)
passed_then [] u e = refl
passed_then (t ∷ ts) u e = go t.passes e (passed_then ts u)
  where
    go : (b : Bool) → cond b (first_fault ts) (some t.number) ≡ none → (first_fault ts ≡ none → first_fault (ts ++ (u ∷ [])) ≡ cond u.passes none (some u.number))
        → cond b (first_fault (ts ++ (u ∷ []))) (some t.number) ≡ cond u.passes none (some u.number)
    go true h later = later h
    go false h later = cc

failed_then : (ts : List Test) (u : Test) (n : ℕ) → first_fault ts ≡ some n → first_fault (ts ++ (u ∷ [])) ≡ some n
failed_then [] u n e = cc
failed_then (t ∷ ts) u n e = go t.passes e (failed_then ts u n)
  where
    go : (b : Bool) → cond b (first_fault ts) (some t.number) ≡ some n → (first_fault ts ≡ some n → first_fault (ts ++ (u ∷ [])) ≡ some n)
        → cond b (first_fault (ts ++ (u ∷ []))) (some t.number) ≡ some n
    go true h later = later h
    go false h later = h

module _ (kind : ℕ) (k : Levels) (s : State) (r : Read) where
  abbrev own : List Test
  own = tests kind k (phase_of s) (seen_of s) r.frame r.whole

  pub own_fault : (n : ℕ) → first_fault own ≡ some n → fault kind k (phase_of s) (seen_of s) r ≡ some n
  unfolding fault
  own_fault n e = failed_then own (numbered 8 (ltb s.frames 512)) n e

  pub one_too_many : first_fault own ≡ none → 512 ≤ s.frames → fault kind k (phase_of s) (seen_of s) r ≡ some 8
  unfolding fault
  one_too_many e h = passed_then own (numbered 8 (ltb s.frames 512)) e ∙ rw (le-ltb s.frames 512 h)

  pub no_fault : first_fault own ≡ none → s.frames < 512 → fault kind k (phase_of s) (seen_of s) r ≡ none
  unfolding fault
  no_fault e h = passed_then own (numbered 8 (ltb s.frames 512)) e ∙ rw (lt-ltb s.frames 512 h)

-- The state with the frame counted.
abbrev pub with_frames : State → ℕ → State
with_frames t n = record t { frames = n }

pub counted : (s t : State) (f : Frame) → Moved s f t → Stepped s f (with_frames t (s.frames + 1))
counted s t f m =
    let n : s.frames + 1 ≡ suc t.frames = add-one s.frames ∙ ap suc (sym m.uncounted) in
    record { phase_is = m.phase_is; seen_is = ap (λ (x : ℕ). seen_of (with_frames t x)) n ∙ m.seen_is }

-- The frame of bytes, by the tests of a frame.

pub framed_is : (o : Option Read) (r : Read) → or_fault_2 o ≡ inr r → o ≡ some r
framed_is none r e = cc
framed_is (some q) r e = cc

pub taken : (kind : ℕ) (k : Levels) (s : State) (bytes : List ℕ) (r : Read) (o : Result State Cause) → some r ≡ frame_of bytes → Judged kind k s r o
    → MatchResult o (Behind kind k s (or_fault_2 (frame_of bytes))) (λ c. line_fault kind k s (or_fault_2 (frame_of bytes)) ≡ some (cause_number c))
taken kind k s bytes r (Ok t) e j = record { read = r; is = ap or_fault_2 (sym e); passes = j.0; stepped = j.1 }
taken kind k s bytes r (Err c) e j = ap (λ x. line_fault kind k s (or_fault_2 x)) (sym e) ∙ j
