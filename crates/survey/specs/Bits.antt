-- A variable's bit in a mask of 64.
use Rattle.std.specs.Prelude.{ℕ, ◌^◌, cond, nat_lt}

-- Bit x alone; none past 63.
abbrev pub bit : ℕ → ℕ
bit x = cond (nat_lt x 64) (2 ^ x) 0
