-- The next line of a text.
use Rattle.std.proofs.Common.{◌≡◌, ℕ, ◌+◌, ◌<◌, List, [], ◌∷◌, ◌++◌, length, IfSome, Some, None, Option, Result, sym, refl, ap, ◌∙◌, arith, length-append, MatchResult}
use mathlib.Core.Option.{Option as Perhaps, none, some}
use Rattle.std.specs.Option.{ok_or}
use Rattle.codec.specs.Lines.{line_bytes, lines, split}
use Rattle.codec.specs.Slots.{Padded, front, no_end, perhaps}
use Rattle.codec.specs.declared.lines.Slot.{Slot}
use Rattle.script.specs.declared.faults.LineFault.{LineFault}
use Rattle.script.proofs.Stepping.{split_more, split_cut}
use Rattle.protocol.specs.RunLines.{NoLine, bytes_taken}

pub nothing_left : (text : List ℕ) → length text ≡ 0 → NoLine text
unfolding split lines
nothing_left [] h = refl
nothing_left (b ∷ text) h = absurd (omega arith)

taken : (o : Option Slot) (e : LineFault) → bytes_taken (ok_or o e) ≡ perhaps front o
taken None e = refl
taken (Some s) e = refl

abbrev fault_at : ℕ → LineFault
fault_at number = record { line = number }

at_number : (o : Option Slot) (number : ℕ) → IfSome o Padded → MatchResult (ok_or o (fault_at number)) Padded (λ e. e.line ≡ number)
at_number None number h = refl
at_number (Some s) number h = h

pub line_taken : (text line rest : List ℕ) (number : ℕ) (o : Option Slot) (r : Result Slot LineFault) → no_end line → text ≡ line ++ (10 ∷ rest)
    → perhaps front o ≡ line_bytes (some line) → IfSome o Padded → r ≡ ok_or o (fault_at number)
    → (split text ≡ bytes_taken r ∷ split rest) × MatchResult r Padded (λ e. e.line ≡ number) × (length rest < length text)
line_taken text line rest number o r n e b p is =
    let long : length text ≡ length line + length (10 ∷ rest) = ap length e ∙ length-append line (10 ∷ rest) in
    rw is (
      ap split e ∙ split_more line rest n ∙ ap (λ (x : Perhaps (List ℕ)). x ∷ split rest) (sym (taken o (fault_at number) ∙ b)),
      at_number o number p,
      omega arith,
    )

pub line_cut : (text : List ℕ) → 0 < length text → no_end text → split text ≡ none ∷ split []
unfolding split lines
line_cut [] h n = absurd (omega arith)
line_cut (b ∷ text) h n = split_cut b text n
