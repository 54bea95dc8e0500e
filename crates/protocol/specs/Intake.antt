-- What a program does with its input before it reads a script.
use Rattle.std.specs.Prelude.{◌≡◌, ℕ, suc, ◌<◌, ◌≤◌, Bool, false, cond, ◌&&◌, List, [], ◌∷◌, ◌++◌, length, take, drop, Result, MatchResult, ◌==◌, slice_index, codes}
use Rattle.std.proofs.Math.Option.{Option as Perhaps, none, some}
use Rattle.codec.specs.Lines.{lines}
use Rattle.script.specs.Refusals.{refusal, run_refusal}
use Rattle.script.specs.declared.faults.RunFault.{RunFault}
use Rattle.protocol.specs.declared.intake.Kind.{Kind}
use Rattle.protocol.specs.declared.intake.Kind.TheVariants.{TwoPoint, Bits}

-- An input of more than 16,384 bytes is refused with 8 at line 0.
abbrev pub ShortEnough : List ℕ → Result (Unit {0}) RunFault → Type 0
ShortEnough input r = MatchResult r (λ _. length input ≤ 16384) (λ e. (16384 < length input) × (run_refusal e ≡ refusal 8 0))

-- The number of each kind of levels that a program has.
abbrev pub kind_number : Kind → ℕ
kind_number TwoPoint = 1
kind_number Bits = 2

-- Each kind in words.
abbrev pub kind_name : Kind → List ℕ
kind_name TwoPoint = codes "open and closed"
kind_name Bits = codes "sets of sixteen bits"

-- The kind of levels to read under, by the kind that the header names; a kind that a program has not is read as kind 01, and refused there.
abbrev pub kind_for : Perhaps ℕ → ℕ
kind_for none = 1
kind_for (some n) = cond (n == 2) 2 1

-- A line that begins with the digits 7F.
abbrev pub begins_last : List ℕ → Bool
begins_last line = slice_index line 0 == 0x37 && slice_index line 1 == 0x46

-- The same of a line that may have no end; such a one is the last of all.
abbrev pub ends_script : Perhaps (List ℕ) → Bool
ends_script none = false
ends_script (some line) = begins_last line

-- How many of these lines are the script's: up to the first that begins with 7F, or all.
unfoldable pub script_lines : List (Perhaps (List ℕ)) → ℕ
script_lines [] = 0
script_lines (l ∷ ls) = cond (ends_script l) 1 (suc (script_lines ls))

-- A text in two parts, whose lines are those of the script and those behind it.
pub record Parted (text script rest : List ℕ) : Type 0 where
  pub whole : script ++ rest ≡ text
  pub front : lines script ≡ take (script_lines (lines text)) (lines text)
  pub back : lines rest ≡ drop (script_lines (lines text)) (lines text)
