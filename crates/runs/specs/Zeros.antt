-- Numbers that are all zero.
use Rattle.std.specs.Prelude.{◌≡◌, ℕ, ◌<◌, List, length, ℤ, pos, slice_index_or}

-- Every one of them is 0.
abbrev pub AllZero : List ℤ → Type 0
AllZero xs = (k : ℕ) → k < length xs → slice_index_or xs k (pos 0) ≡ pos 0
