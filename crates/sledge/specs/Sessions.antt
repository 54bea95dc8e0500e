-- What a session writes where it comes to no run: one line, which tells why.
use Rattle.std.specs.Prelude.{◌≡◌, ℕ, ◌<◌, ◌≤◌, cond, List, [], ◌∷◌, ◌++◌, length, Result, MatchResult, ◌==◌}
use Rattle.lattice.specs.Orders.{two_point, bit_sets}
use Rattle.codec.specs.Expressions.{two}
use Rattle.codec.specs.Lines.{written}
use Rattle.script.specs.Format.{Verdict, named_kind, read_script}
use Rattle.script.specs.Format.Verdict.{refused}
use Rattle.script.specs.Refusals.{refusal, run_refusal}
use Rattle.protocol.specs.Intake.{Parted, kind_for}
use Rattle.protocol.specs.Replies.{refused_at, reply_bytes}
use Rattle.sledge.specs.declared.stop.Stop.{Stop}
use Rattle.sledge.specs.declared.stop.Stop.TheVariants.{Refused, NoMemory}

-- The line of a refusal.
abbrev pub refusal_line : ℕ → ℕ → List ℕ
refusal_line number line = written ((0x6F ∷ number ∷ two line) ∷ [])

-- A stop for a refusal of this number at this line, or for want of memory.
abbrev pub StopsWith : ℕ → ℕ → Stop → Type 0
StopsWith n l (Refused fault) = run_refusal fault ≡ refusal n l
StopsWith n l (NoMemory e) = Unit {0}

-- A refusal was told in its line; want of memory is not told.
abbrev pub Told : Stop → ℕ → List ℕ → List ℕ → Type 0
Told (Refused fault) line before after = after ≡ before ++ written (reply_bytes (refused_at fault line) ∷ [])
Told (NoMemory e) line before after = ⊥

-- It stops there and has written nothing.
abbrev pub Stopped : ℕ → ℕ → List ℕ → List ℕ → Result (Unit {0}) Stop → Type 0
Stopped n l before after r = MatchResult r (λ _. ⊥) (StopsWith n l) × (after ≡ before)

-- The verdict on a script, under the kind of levels that its header names.
abbrev pub verdict_on : List ℕ → Verdict
verdict_on script = cond (kind_for (named_kind script) == 2) (read_script 2 bit_sets script) (read_script 1 two_point script)

-- What goes for an input whose script has a fault, by number and line.
pub record Faulty (input : List ℕ) (P : ℕ → ℕ → Type 0) : Type 0 where
  pub script : List ℕ
  pub rest : List ℕ
  pub parted : Parted input script rest
  pub told : (n l : ℕ) → verdict_on script ≡ refused n l → P n l

-- The same for an input that is too long, which is looked at first.
pub record Refusals (input : List ℕ) (P : ℕ → ℕ → Type 0) : Type 0 where
  pub long : 16384 < length input → P 8 0
  pub faulty : length input ≤ 16384 → Faulty input P
