-- The kind that a text names, and what another kind makes of it.
use Rattle.std.proofs.Common.{◌≡◌, ℕ, Bool, true, false, ◌&&◌, eqb, ◌⊎◌, List, [], ◌∷◌, ◌++◌, map, Option, sym, refl, ap, ◌∙◌, inl, inr, ne_eqb}
use mathlib.Core.Option.{Option as Perhaps, none, some}
use Rattle.lattice.specs.Levels.{Levels}
use Rattle.codec.specs.Lines.{line_bytes, lines, split}
use Rattle.codec.specs.Frames.{Frame, Head, Read}
use Rattle.codec.specs.Frames.Frame.{header, track, channel, thread, thread_end, skip, assign, put, if, else, end_if, while, end_while, with, end_with, last}
use Rattle.codec.specs.Slots.{no_end, perhaps}
use Rattle.script.specs.Format.{fault, first_kind, head_in_range, kind_in, named_kind, nothing_seen, read_lines, read_script, read_text, whole_line}
use Rattle.script.specs.Format.Phase.{start}
use Rattle.script.specs.Format.Verdict.{refused}
use Rattle.script.specs.Promises.{NamesKind}
use Rattle.script.proofs.Stepping.{split_cut, split_more}

-- The first line says it.
pub no_line : (text : List ℕ) → no_end text → none ≡ named_kind text
unfolding split lines
no_line [] h = refl
no_line (b ∷ l) h = ap (λ (ls : List (Perhaps (List ℕ))). first_kind (map whole_line ls)) (sym (split_cut b l h))

first_line : (text line after : List ℕ) → text ≡ line ++ (10 ∷ after) → no_end line → named_kind text ≡ first_kind (whole_line (line_bytes (some line)) ∷ [])
first_line text line after e h =
    ap named_kind e
    ∙ ap (λ (ls : List (Perhaps (List ℕ))). first_kind (map whole_line ls)) (split_more line after h)
    ∙ only-first (whole_line (line_bytes (some line))) (map whole_line (split after))
  where
    only-first : (l : ℕ ⊎ Read) (ls : List (ℕ ⊎ Read)) → first_kind (l ∷ ls) ≡ first_kind (l ∷ [])
    only-first (inl n) ls = refl
    only-first (inr r) ls = refl

-- Another kind.
module _ (kind : ℕ) (k : Levels) where
  out_of_range : (h : Head) → (h.kind ≡ kind → ⊥) → head_in_range kind h ≡ false
  out_of_range h ne = rw (ne_eqb h.kind kind ne) (go (eqb h.version 1))
    where
      go : (b : Bool) → b && false ≡ false
      go true = refl
      go false = refl

  other_frame : (f : Frame) (w : Bool) (n : ℕ) → kind_in f ≡ some n → (n ≡ kind → ⊥) → fault kind k start nothing_seen (record { frame = f; whole = w }) ≡ some 3
  unfolding fault
  other_frame (header h) w n e ne = let same : h.kind ≡ n = cc in rw (out_of_range h (λ q. ne (sym same ∙ q)))
  other_frame (track i l z) w n e ne = cc
  other_frame (channel i l z) w n e ne = cc
  other_frame (thread i) w n e ne = cc
  other_frame thread_end w n e ne = cc
  other_frame skip w n e ne = cc
  other_frame (assign x o) w n e ne = cc
  other_frame (put h o) w n e ne = cc
  other_frame (if o) w n e ne = cc
  other_frame else w n e ne = cc
  other_frame end_if w n e ne = cc
  other_frame (while o) w n e ne = cc
  other_frame end_while w n e ne = cc
  other_frame (with m o) w n e ne = cc
  other_frame end_with w n e ne = cc
  other_frame (last m) w n e ne = cc

  other_lines : (ls : List (ℕ ⊎ Read)) (n : ℕ) → first_kind ls ≡ some n → (n ≡ kind → ⊥) → read_lines kind k start nothing_seen ls ≡ refused 3 1
  unfolding read_lines
  other_lines [] n e ne = cc
  other_lines (inl m ∷ ls) n e ne = cc
  other_lines (inr r ∷ ls) n e ne = rw (other_frame r.frame r.whole n e ne)

  other_text : (text : List ℕ) (n : ℕ) → named_kind text ≡ some n → (n ≡ kind → ⊥) → read_script kind k text ≡ refused 3 1
  unfolding read_script
  other_text text n e ne = other_lines (read_text text) n e ne

pub names : (text : List ℕ) (r : Option ℕ) → perhaps (λ n. n) r ≡ named_kind text → NamesKind text r
names text r e = record { named = e; other = λ n q kind k ne. other_text kind k text n (sym e ∙ ap (perhaps (λ m. m)) q) ne }

pub named_line : (text line after : List ℕ) (o : Perhaps (List ℕ)) (r : Option ℕ) → no_end line × (text ≡ line ++ (10 ∷ after)) → o ≡ line_bytes (some line)
    → perhaps (λ n. n) r ≡ first_kind (whole_line o ∷ []) → NamesKind text r
named_line text line after o r h e k = names text r (k ∙ ap (λ (x : Perhaps (List ℕ)). first_kind (whole_line x ∷ [])) e ∙ sym (first_line text line after h.1 h.0))
