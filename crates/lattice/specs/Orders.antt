-- The two kinds of levels.
use Rattle.std.specs.Prelude.{cond, ◌==◌, bit_and, bit_or, nat_le, nat_lt}
use Rattle.lattice.specs.Levels.{Levels}

-- Kind 01: open (0) and closed (1); closed does not flow to open.
abbrev pub two_point : Levels
two_point = record { has = λ a. nat_lt a 2; flows = λ a b. nat_le a b; join = λ a b. cond (nat_le a b) b a }

-- Kind 02: sets of sixteen bits; a level flows to those that have all of its bits, and a join has the bits of both.
abbrev pub bit_sets : Levels
bit_sets = record { has = λ a. nat_lt a 65536; flows = λ a b. (bit_and a b == a); join = λ a b. bit_or a b }
