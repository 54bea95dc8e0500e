-- One line: its frame, its tests and its slot.
use Rattle.std.proofs.Common.{◌≡◌, ℕ, suc, ◌+◌, ltb, List, [], ◌∷◌, Ok, Err, Result, MatchResult, sym, ap, ◌∙◌, add-one, ltb→lt}
use mathlib.Core.Option.{some}
use Rattle.std.specs.Result.{IsErrAnd}
use Rattle.lattice.specs.Levels.{Levels}
use Rattle.codec.specs.Lines.{line_bytes}
use Rattle.codec.specs.Frames.{Read, frame_of}
use Rattle.script.specs.Format.{Test, ◌asks◌, tests, fault, whole_line, or_fault_2}
use Rattle.script.proofs.Accepting.{passing, passing_parts}
use Rattle.script.proofs.Judging.{framed_is}
use Rattle.codec.proofs.Encoding.{frame_back}
use Rattle.script.proofs.Text.{whole}
use Rattle.codec.proofs.Writing.{line_back}
use Rattle.script.specs.declared.faults.Cause.{Cause}
use Rattle.script.specs.declared.faults.Cause.TheVariants.{Shape, Range, Level, Order, Undeclared, Expression, Limit}
use Rattle.script.specs.declared.faults.ScriptFault.{ScriptFault}
use Rattle.script.specs.declared.faults.ScriptFault.TheVariants.{InFrame}
use Rattle.codec.specs.declared.lines.Slot.{Slot}
use Rattle.script.specs.declared.state.State.{State}
use Rattle.codec.specs.Slots.{Padded, front, padded}
use Rattle.script.specs.Stages.{phase_of, seen_of}
use Rattle.script.specs.Refusals.{cause_number, refusal, script_refusal}
use Rattle.script.specs.Takings.{Behind, Refuses, Took, line_fault}

tells_frame : (c : Cause) (n : ℕ) → script_refusal (InFrame c (n + 1)) ≡ refusal (cause_number c) (suc n)
tells_frame Shape n = ap (refusal 2) (add-one n)
tells_frame Range n = ap (refusal 3) (add-one n)
tells_frame Level n = ap (refusal 4) (add-one n)
tells_frame Order n = ap (refusal 5) (add-one n)
tells_frame Undeclared n = ap (refusal 6) (add-one n)
tells_frame Expression n = ap (refusal 7) (add-one n)
tells_frame Limit n = ap (refusal 8) (add-one n)

module _ (kind : ℕ) (k : Levels) (s : State) where
  abbrev all_tests : Read → List Test
  all_tests r = tests kind k (phase_of s) (seen_of s) r.frame r.whole

  took : (line : List ℕ) (slot : Slot) (t : State) → line_bytes (some line) ≡ some (front slot) → Padded slot → Behind kind k s (or_fault_2 (frame_of (front slot))) t
      → Took kind k s (whole_line (line_bytes (some line))) t slot
  unfolding fault
  took line slot t h z b =
      let r = b.read in
      let back = line_back (some line) (front slot) h in
      let p = passing_parts (all_tests r) ((8 asks ltb s.frames 512) ∷ []) (passing _ b.passes) in
      let framed : frame_of (front slot) ≡ some r = framed_is (frame_of (front slot)) r b.is in
      record {
        read = r;
        is = ap whole_line h ∙ b.is;
        passes = b.passes;
        stepped = b.stepped;
        few = ltb→lt s.frames 512 p.1.0;
        holds = z.zeros ∙ ap (padded 51) (sym (frame_back (front slot) r back.sized.2 framed (whole kind k (phase_of s) (seen_of s) r.frame r.whole p.0)));
      }

  refused_frame : (line : List ℕ) (slot : Slot) (c : Cause) → line_bytes (some line) ≡ some (front slot) → line_fault kind k s (or_fault_2 (frame_of (front slot))) ≡ some (cause_number c)
      → Refuses kind k s (whole_line (line_bytes (some line))) (InFrame c (s.frames + 1))
  refused_frame line slot c h f =
      record { number = cause_number c; is = ap (λ o. line_fault kind k s (whole_line o)) h ∙ f; tells = tells_frame c s.frames }

  -- What the frame of a line is refused for, told of that line.
  pub told : (line : List ℕ) (slot : Slot) (o : Result State Cause) (r : Result State ScriptFault) → line_bytes (some line) ≡ some (front slot) → Padded slot
      → MatchResult o (Behind kind k s (or_fault_2 (frame_of (front slot)))) (λ c. line_fault kind k s (or_fault_2 (frame_of (front slot))) ≡ some (cause_number c))
      → MatchResult o (λ t. r ≡ Ok t) (λ c. IsErrAnd r (λ e. e ≡ InFrame c (s.frames + 1)))
      → MatchResult r (λ t. Took kind k s (whole_line (line_bytes (some line))) t slot) (Refuses kind k s (whole_line (line_bytes (some line))))
  told line slot (Ok t) r h z b e = rw e (took line slot t h z b)
  told line slot (Err c) (Ok t) h z f e = absurd e
  told line slot (Err c) (Err d) h z f e = rw e (refused_frame line slot c h f)
