-- A slot of any bytes holds a frame or it does not.
use Rattle.std.proofs.Common.{◌≡◌, ℕ, ◌-◌, ◌<◌, ◌≤◌, true, false, ltb, List, [], ◌∷◌, ◌++◌, length, take, drop, replicate, Ok, Err, Result, MatchOption, MatchResult, sym, refl, ap, ◌∙◌, subst, arith}
use mathlib.Core.Option.{some}
use Rattle.std.proofs.ByRecursion.{All-take}
use Rattle.std.proofs.lemmas.List.{take_at, drop_at, take-append-drop}
use Rattle.std.specs.List.{IsSplitAt}
use Rattle.std.specs.Result.{result_ok}
use Rattle.lattice.specs.Levels.{Levels}
use Rattle.codec.specs.Frames.{Frame, Read, frame_of, frame_bytes}
use Rattle.script.specs.Format.{Test, ◌asks◌, tests, fault, or_fault_2}
use Rattle.codec.specs.Writable.{Bytes, Writable}
use Rattle.script.proofs.Accepting.{passing, passing_parts}
use Rattle.script.proofs.Judging.{framed_is}
use Rattle.codec.proofs.Encoding.{frame_back, frame_forth, frame_fits}
use Rattle.script.proofs.Text.{sized, whole}
use Rattle.script.specs.declared.state.State.{State}
use Rattle.codec.specs.Slots.{padded}
use Rattle.codec.specs.Shapes as S
use Rattle.script.specs.declared.faults.Cause.{Cause}
use Rattle.script.specs.Refusals.{cause_number}
use Rattle.script.specs.Stages.{phase_of, seen_of}
use Rattle.script.specs.Takings.{Behind, line_fault}
use Rattle.script.specs.Nexts.{Fitting, Next, NoNext}
use Rattle.script.specs.Findings.{all_zero, length_at}
use Rattle.script.proofs.SlotLengths.{length_is, zeros_from, zeros_to}

-- What a slot with a frame at its front says.
pub record Fronts (slot : List ℕ) (f : Frame) : Type 0 where
  pub long : length_at slot ≡ length (frame_bytes f)
  pub short : length_at slot ≤ 51
  pub bytes : take (length_at slot) slot ≡ frame_bytes f
  pub zeros : drop (length_at slot) slot ≡ replicate (51 - length (frame_bytes f)) 0

pub fronts : (slot : List ℕ) (f : Frame) → Writable f → slot ≡ padded 51 (frame_bytes f) → Fronts slot f
fronts slot f w e =
    let long : length_at slot ≡ length (frame_bytes f) = ap length_at e ∙ length_is f w.1 in
    let z = sized f w in
    record {
      long = long;
      short = omega (arith, z.1);
      bytes = (λ i. take (long i) (e i)) ∙ take_at (frame_bytes f) (replicate (51 - length (frame_bytes f)) 0) (length (frame_bytes f)) refl;
      zeros = (λ i. drop (long i) (e i)) ∙ drop_at (frame_bytes f) (replicate (51 - length (frame_bytes f)) 0) (length (frame_bytes f)) refl;
    }

module _ (kind : ℕ) (k : Levels) (s : State) (slot : List ℕ) where
  pub too_long : length slot ≡ 51 → length slot < length_at slot → NoNext kind k s slot
  too_long e h f w = let z = (fronts slot f w.writable w.holds).short in omega arith

  abbrev all_tests : Read → List Test
  all_tests r = tests kind k (phase_of s) (seen_of s) r.frame r.whole

  -- The slot cut behind the frame at its front.
  module _ (front behind : List ℕ) (cut : IsSplitAt slot (length_at slot) front behind) where
    pub not_zero : false ≡ all_zero behind → NoNext kind k s slot
    not_zero h f w =
        let z = fronts slot f w.writable w.holds in
        cc (sym (zeros_to (51 - length (frame_bytes f))) ∙ ap all_zero (sym (cut.2 ∙ z.zeros)) ∙ sym h)

    framed : (f : Frame) → Fitting kind k s slot f → frame_of front ≡ some (S.whole f)
    framed f w =
        let z = fronts slot f w.writable w.holds in
        ap frame_of (cut.1 ∙ z.bytes) ∙ frame_forth f w.writable.1

    pub faulted : (n : ℕ) → line_fault kind k s (or_fault_2 (frame_of front)) ≡ some n → NoNext kind k s slot
    faulted n e f w = cc (sym w.passes ∙ ap (λ o. line_fault kind k s (or_fault_2 o)) (sym (framed f w)) ∙ e)

    pub next_is : (t : State) → length slot ≡ 51 → Bytes slot → true ≡ all_zero behind → Behind kind k s (or_fault_2 (frame_of front)) t → Next kind k s slot t
    unfolding fault
    next_is t long small zero b =
        let r = b.read in
        let h : frame_of front ≡ some r = framed_is (frame_of front) r b.is in
        let p = passing_parts (all_tests r) ((8 asks ltb s.frames 512) ∷ []) (passing _ b.passes) in
        let w = whole kind k (phase_of s) (seen_of s) r.frame r.whole p.0 in
        let bytes : Bytes front = subst Bytes (sym cut.1) (All-take (λ x. x < 256) (length_at slot) slot small) in
        let back : frame_bytes r.frame ≡ front = frame_back front r bytes h w in
        let fits = frame_fits r front bytes h w in
        let rest : behind ≡ replicate (51 - length (frame_bytes r.frame)) 0 =
        zeros_from behind (sym zero) ∙ ap (λ (x : ℕ). replicate x 0) (omega (arith, ap length back, cut.3, cut.4)) in
        let same : r ≡ S.whole r.frame = let q = sym h ∙ ap frame_of (sym back) ∙ frame_forth r.frame fits in cc in
        record {
          frame = r.frame;
          fitting = record {
            writable = (subst Bytes (sym back) bytes, fits);
            holds = sym (take-append-drop (length_at slot) slot) ∙ (λ i. (sym cut.1 ∙ sym back) i ++ (sym cut.2 ∙ rest) i);
            passes = ap (λ (x : Read). fault kind k (phase_of s) (seen_of s) x) (sym same) ∙ b.passes;
          };
          stepped = b.stepped;
        }

    pub taken : (o : Result State Cause) → length slot ≡ 51 → Bytes slot → true ≡ all_zero behind
        → MatchResult o (Behind kind k s (or_fault_2 (frame_of front))) (λ c. line_fault kind k s (or_fault_2 (frame_of front)) ≡ some (cause_number c))
        → MatchOption (result_ok o) (NoNext kind k s slot) (Next kind k s slot)
    taken (Ok t) long small zero b = next_is t long small zero b
    taken (Err c) long small zero e = faulted (cause_number c) e
