-- Reading in a loop: what is left gives what the whole gives, and the slots so far hold the frames so far.
use Rattle.std.proofs.Common.{◌≡◌, ℕ, suc, ◌+◌, ◌*◌, ◌<◌, ◌≤◌, true, false, ◌⊎◌, List, [], ◌∷◌, ◌++◌, map, length, take, drop, sym, refl, ap, ◌∙◌, ap₂, inl, inr, append-nil, add-one, arith}
use mathlib.Core.Option.{some}
use borrow.Rule.Slice.PartMut.{put_mid}
use Rattle.std.proofs.lemmas.List.{flat_map_more, length_push}
use Rattle.std.proofs.lemmas.Slice.{drop-put_mid, take-put_mid}
use Rattle.lattice.specs.Levels.{Levels}
use Rattle.codec.specs.Lines.{line_bytes, lines, split}
use Rattle.codec.specs.Frames.{Frame, Read, frame_bytes}
use Rattle.script.specs.Format.{Seen, Verdict, nothing_seen, is_ended, read_lines, read_script, seen_after, whole_line, through}
use Rattle.codec.specs.Frames.Frame.{header, track, channel, thread, thread_end, skip, assign, put, if, else, end_if, while, end_while, with, end_with, last}
use Rattle.script.specs.Format.Phase.{start}
use Rattle.script.specs.Format.Verdict.{refused, accepted}
use Rattle.script.proofs.Stepping.{behind, behind_none, split_more, split_cut, read_more, read_fault, read_line_fault, read_missing, read_over}
use Rattle.script.specs.declared.faults.Cause.TheVariants.{Order}
use Rattle.script.specs.declared.faults.ScriptFault.{ScriptFault}
use Rattle.script.specs.declared.faults.ScriptFault.TheVariants.{InLine, InFrame}
use Rattle.codec.specs.declared.lines.Slot.{Slot}
use Rattle.script.specs.declared.state.State.{State}
use Rattle.codec.specs.Slots.{no_end, padded}
use Rattle.script.specs.Stages.{phase_of, seen_of}
use Rattle.script.specs.Refusals.{refusal, script_refusal}
use Rattle.script.specs.Takings.{Fails, Fills, Refuses, Took, line_fault}
use Rattle.script.specs.Slabs.{slots_of}

pub through_more : (n : Seen) (fs : List Frame) (f : Frame) → through n (fs ++ (f ∷ [])) ≡ seen_after (through n fs) f
through_more n [] f = refl
through_more n (g ∷ fs) f = through_more (seen_after n g) fs f

pub frames_after : (n : Seen) (f : Frame) → (seen_after n f).frames ≡ suc n.frames
frames_after n (header h) = refl
frames_after n (track i l z) = refl
frames_after n (channel i l z) = refl
frames_after n (thread i) = refl
frames_after n thread_end = refl
frames_after n skip = refl
frames_after n (assign x e) = refl
frames_after n (put h e) = refl
frames_after n (if e) = refl
frames_after n else = refl
frames_after n end_if = refl
frames_after n (while e) = refl
frames_after n end_while = refl
frames_after n (with m e) = refl
frames_after n end_with = refl
frames_after n (last m) = refl

module _ (kind : ℕ) (k : Levels) where
  -- The verdict on the lines behind a state.
  abbrev pub left : State → List ℕ → Verdict
  left s rest = read_lines kind k (phase_of s) (seen_of s) (map whole_line (split rest))

  pub record Filled (lines : List ℕ) (s : State) (rest slab begin : List ℕ) : Type 0 where
    pub frames : List Frame
    pub verdict : behind frames (left s rest) ≡ read_script kind k lines
    pub count : length frames ≡ s.frames
    pub declares : seen_of s ≡ through nothing_seen frames
    pub few : s.frames ≤ 512
    pub slots : take (s.frames * 51) slab ≡ slots_of frames
    pub past : drop 26112 slab ≡ drop 26112 begin

  pub begins : (lines slab : List ℕ) (s : State) → phase_of s ≡ start → seen_of s ≡ nothing_seen → Filled lines s lines slab slab
  unfolding read_script
  begins lines slab s p n =
      let z : s.frames ≡ 0 = ap (λ (m : Seen). m.frames) n in
      record {
        frames = [];
        verdict = behind_none (left s lines) ∙ (λ i. read_lines kind k (p i) (n i) (map whole_line (split lines)));
        count = sym z;
        declares = n;
        few = omega arith;
        slots = ap (λ (m : ℕ). take (m * 51) slab) z;
        past = refl;
      }

  lines_are : (rest l after : List ℕ) → rest ≡ l ++ (10 ∷ after) → no_end l → map whole_line (split rest) ≡ whole_line (line_bytes (some l)) ∷ map whole_line (split after)
  lines_are rest l after e h = ap (map whole_line) (ap split e ∙ split_more l after h)

  pub steps : (lines rest l after slab begin : List ℕ) (s t : State) (slot : Slot) → 26112 ≤ length slab → length slot.bytes ≡ 51
      → Filled lines s rest slab begin → rest ≡ l ++ (10 ∷ after) → no_end l → Took kind k s (whole_line (line_bytes (some l))) t slot
      → (z : List ℕ) (n : ℕ) → z ≡ slot.bytes → n ≡ 51 → Filled lines t after (put_mid (s.frames * 51) n slab z) begin
  steps lines rest l after slab begin s t slot room long h e ne w z n ez en =
      let f = w.read.frame in
      let few = w.few in
      let more : t.frames ≡ suc s.frames = ap (λ (m : Seen). m.frames) w.stepped.seen_is ∙ frames_after (seen_of s) f in
      let wide : length z ≡ 51 = ap length ez ∙ long in
      record {
        frames = h.frames ++ (f ∷ []);
        verdict =
            ap (behind (h.frames ++ (f ∷ []))) (λ i. read_lines kind k (w.stepped.phase_is i) (w.stepped.seen_is i) (map whole_line (split after)))
            ∙ sym (read_more kind k (phase_of s) (seen_of s) h.frames w.read (map whole_line (split after)) w.passes)
            ∙ ap (λ (x : ℕ ⊎ Read). behind h.frames (read_lines kind k (phase_of s) (seen_of s) (x ∷ map whole_line (split after)))) (sym w.is)
            ∙ ap (λ (ls : List (ℕ ⊎ Read)). behind h.frames (read_lines kind k (phase_of s) (seen_of s) ls)) (sym (lines_are rest l after e ne))
            ∙ h.verdict;
        count = length_push h.frames f ∙ ap (λ (m : ℕ). m + 1) h.count ∙ add-one s.frames ∙ sym more;
        declares = w.stepped.seen_is ∙ ap (λ (m : Seen). seen_after m f) h.declares ∙ sym (through_more nothing_seen h.frames f);
        few = omega arith;
        slots =
            take-put_mid (s.frames * 51) n slab z (t.frames * 51) (omega arith) (omega arith)
            ∙ ap₂ (λ (x y : List ℕ). x ++ y) h.slots (ez ∙ w.holds)
            ∙ flat_map_more (λ (g : Frame). padded 51 (frame_bytes g)) [] h.frames f;
        past = drop-put_mid (s.frames * 51) n slab z 26112 (omega arith) (omega arith) (wide ∙ sym en) ∙ h.past;
      }

  pub fills : (lines rest slab begin : List ℕ) (s : State) → Filled lines s rest slab begin → rest ≡ [] → true ≡ is_ended (phase_of s) → Fills kind k lines begin slab s
  unfolding split lines
  fills lines rest slab begin s h e t =
      record {
        frames = h.frames;
        verdict =
            sym h.verdict ∙ ap (λ (r : List ℕ). behind h.frames (left s r)) e
            ∙ read_over kind k (phase_of s) (seen_of s) h.frames (sym t) ∙ ap accepted (append-nil h.frames);
        count = h.count;
        few = h.few;
        declares = h.declares;
        slots = h.slots;
        past = h.past;
      }

  pub fails_missing : (lines rest slab begin : List ℕ) (s : State) → Filled lines s rest slab begin → rest ≡ [] → false ≡ is_ended (phase_of s) → Fails kind k lines (InFrame Order (s.frames + 1))
  unfolding split lines
  fails_missing lines rest slab begin s h e t =
      record {
        number = 5;
        line = suc s.frames;
        verdict = sym h.verdict ∙ ap (λ (r : List ℕ). behind h.frames (left s r)) e ∙ read_missing kind k (phase_of s) (seen_of s) h.frames (sym t);
        tells = ap (refusal 5) (add-one s.frames);
      }

  cut : (rest : List ℕ) → 0 < length rest → no_end rest → map whole_line (split rest) ≡ inl 1 ∷ []
  cut [] l h = absurd (omega arith)
  cut (b ∷ rest) l h = ap (map whole_line) (split_cut b rest h)

  pub fails_cut : (lines rest slab begin : List ℕ) (s : State) (e : ScriptFault) → Filled lines s rest slab begin → 0 < length rest → no_end rest → e ≡ InLine (record { line = s.frames + 1 }) → Fails kind k lines e
  fails_cut lines rest slab begin s e h l ne ee =
      record {
        number = 1;
        line = suc s.frames;
        verdict =
            sym h.verdict ∙ ap (λ (ls : List (ℕ ⊎ Read)). behind h.frames (read_lines kind k (phase_of s) (seen_of s) ls)) (cut rest l ne)
            ∙ read_line_fault kind k (phase_of s) (seen_of s) h.frames 1 [];
        tells = ap script_refusal ee ∙ ap (refusal 1) (add-one s.frames);
      }

  by_line : (fs : List Frame) (s : State) (l : ℕ ⊎ Read) (ls : List (ℕ ⊎ Read)) (number : ℕ) → line_fault kind k s l ≡ some number
      → behind fs (read_lines kind k (phase_of s) (seen_of s) (l ∷ ls)) ≡ refused number (suc s.frames)
  by_line fs s (inl m) ls number e =
      let z : m ≡ number = cc in
      read_line_fault kind k (phase_of s) (seen_of s) fs m ls ∙ ap (λ (x : ℕ). refused x (suc s.frames)) z
  by_line fs s (inr r) ls number e = read_fault kind k (phase_of s) (seen_of s) fs r ls number e

  pub fails_line : (lines rest l after slab begin : List ℕ) (s : State) (e : ScriptFault) → Filled lines s rest slab begin → rest ≡ l ++ (10 ∷ after) → no_end l
      → Refuses kind k s (whole_line (line_bytes (some l))) e → Fails kind k lines e
  fails_line lines rest l after slab begin s e h el ne w =
      record {
        number = w.number;
        line = suc s.frames;
        verdict =
            sym h.verdict ∙ ap (λ (ls : List (ℕ ⊎ Read)). behind h.frames (read_lines kind k (phase_of s) (seen_of s) ls)) (lines_are rest l after el ne)
            ∙ by_line h.frames s (whole_line (line_bytes (some l))) (map whole_line (split after)) w.number w.is;
        tells = w.tells;
      }
