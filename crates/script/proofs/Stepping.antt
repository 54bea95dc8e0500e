-- Reading in a loop: a line at a time from the left.
use Rattle.std.proofs.Common.{◌≡◌, ℕ, suc, true, false, eqb, ◌⊎◌, List, [], ◌∷◌, ◌++◌, map, sym, refl, ap, ◌∙◌, inl, inr, append_assoc}
use mathlib.Core.Option.{Option, none, some}
use Rattle.std.specs.List.{AllByRecursion}
use Rattle.lattice.specs.Levels.{Levels}
use Rattle.codec.specs.Lines.{in_front, lines, line_bytes, split}
use Rattle.codec.specs.Frames.{Frame, Read}
use Rattle.script.specs.Format.{Phase, Seen, Verdict, judged, phase_after, seen_after, fault, read_lines, is_ended}
use Rattle.script.specs.Format.Verdict.{refused, accepted}

-- Lines from the left

abbrev pub NoEnd : List ℕ → Type 0
NoEnd l = AllByRecursion (λ b. eqb b 0x0A ≡ false) l

pub lines_more : (l r : List ℕ) → NoEnd l → lines (l ++ (0x0A ∷ r)) ≡ some l ∷ lines r
unfolding lines in_front
lines_more [] r h = refl
lines_more (b ∷ l) r h = rw (h.0, lines_more l r h.1)

-- A last line without 0A.
pub lines_cut : (b : ℕ) (l : List ℕ) → NoEnd (b ∷ l) → lines (b ∷ l) ≡ none ∷ []
unfolding lines in_front
lines_cut b [] h = rw h.0
lines_cut b (c ∷ l) h = rw (h.0, lines_cut c l h.1)

pub split_more : (l r : List ℕ) → NoEnd l → split (l ++ (0x0A ∷ r)) ≡ line_bytes (some l) ∷ split r
unfolding split
split_more l r h = ap (map line_bytes) (lines_more l r h)

pub split_cut : (b : ℕ) (l : List ℕ) → NoEnd (b ∷ l) → split (b ∷ l) ≡ none ∷ []
unfolding split line_bytes
split_cut b l h = ap (map line_bytes) (lines_cut b l h)

-- The verdict on all lines, where the frames of the lines so far stand in front of the verdict on the rest.
unfoldable pub behind : List Frame → Verdict → Verdict
behind fs (refused number line) = refused number line
behind fs (accepted gs) = accepted (fs ++ gs)

pub behind_none : (v : Verdict) → behind [] v ≡ v
unfolding behind
behind_none (refused number line) = refl
behind_none (accepted gs) = refl

behind_more : (fs : List Frame) (f : Frame) (line : ℕ) (v : Verdict) → behind fs (judged line f none v) ≡ behind (fs ++ (f ∷ [])) v
unfolding behind
behind_more fs f line (refused number l) = refl
behind_more fs f line (accepted gs) = ap accepted (sym (append_assoc fs (f ∷ []) gs))

module _ (kind : ℕ) (k : Levels) (p : Phase) (n : Seen) (fs : List Frame) where
  pub read_more : (r : Read) (ls : List (ℕ ⊎ Read)) → fault kind k p n r ≡ none
      → behind fs (read_lines kind k p n (inr r ∷ ls)) ≡ behind (fs ++ (r.frame ∷ [])) (read_lines kind k (phase_after p r.frame) (seen_after n r.frame) ls)
  unfolding read_lines
  read_more r ls e =
      ap (λ (o : Option ℕ). behind fs (judged (suc n.frames) r.frame o (read_lines kind k (phase_after p r.frame) (seen_after n r.frame) ls))) e
      ∙ behind_more fs r.frame (suc n.frames) (read_lines kind k (phase_after p r.frame) (seen_after n r.frame) ls)

  pub read_fault : (r : Read) (ls : List (ℕ ⊎ Read)) (number : ℕ) → fault kind k p n r ≡ some number → behind fs (read_lines kind k p n (inr r ∷ ls)) ≡ refused number (suc n.frames)
  unfolding read_lines behind
  read_fault r ls number e = ap (λ (o : Option ℕ). behind fs (judged (suc n.frames) r.frame o (read_lines kind k (phase_after p r.frame) (seen_after n r.frame) ls))) e

  pub read_line_fault : (number : ℕ) (ls : List (ℕ ⊎ Read)) → behind fs (read_lines kind k p n (inl number ∷ ls)) ≡ refused number (suc n.frames)
  unfolding read_lines behind
  read_line_fault number ls = refl

  pub read_missing : is_ended p ≡ false → behind fs (read_lines kind k p n []) ≡ refused 5 (suc n.frames)
  unfolding read_lines behind
  read_missing e = rw e

  pub read_over : is_ended p ≡ true → behind fs (read_lines kind k p n []) ≡ accepted (fs ++ [])
  unfolding read_lines behind
  read_over e = rw e
