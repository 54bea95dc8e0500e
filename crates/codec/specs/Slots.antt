-- Slots of 51 bytes: a frame's bytes, zeros behind them.
use Rattle.std.specs.Prelude.{◌≡◌, ℕ, ◌-◌, ◌≤◌, false, List, ◌++◌, length, take, replicate, Some, None, Option, ◌==◌}
use Rattle.std.proofs.Math.Option.{Option as Perhaps, none, some}
use Rattle.std.specs.List.{AllByRecursion}
use Rattle.codec.specs.declared.lines.Slot.{Slot}

-- What a function of the code answers, as the definition's option.
abbrev pub perhaps : {A B : Type 0} → (A → B) → Option A → Perhaps B
perhaps f None = none
perhaps f (Some x) = some (f x)

-- A list filled up with zeros.
abbrev pub padded : ℕ → List ℕ → List ℕ
padded n xs = xs ++ replicate (n - length xs) 0

-- The bytes of the frame in a slot.
abbrev pub front : Slot → List ℕ
front s = take s.len s.bytes

-- A slot is zero behind its frame.
pub record Padded (s : Slot) : Type 0 where
  pub short : s.len ≤ 51
  pub zeros : s.bytes ≡ padded 51 (take s.len s.bytes)

-- No byte ends a line.
abbrev pub no_end : List ℕ → Type 0
no_end bs = AllByRecursion (λ b. (b == 0x0A) ≡ false) bs
