-- A slot of any bytes: how long the frame at its front is.
use Rattle.std.specs.Prelude.{ℕ, ◌+◌, Bool, cond, List, length, drop, ◌==◌, slice_index}
use Rattle.std.specs.List.{list_all}
use Rattle.codec.specs.Expressions.{decode, expr_bytes}

-- Nothing but zeros.
abbrev pub all_zero : List ℕ → Bool
all_zero bs = list_all (λ b. b == 0) bs

-- How many bytes of a code can be read as operations; padding cannot, since code 00 is unknown.
abbrev pub code_length : List ℕ → ℕ
code_length bs = length (expr_bytes (decode 0 bs).ops)

-- The length of the frame at the front of a slot, by its kind; 0 where the kind is unknown.
abbrev pub length_at : List ℕ → ℕ
length_at s =
    cond (slice_index s 0 == 0x01) 8
    (cond (slice_index s 0 == 0x02) 8
    (cond (slice_index s 0 == 0x03) 8
    (cond (slice_index s 0 == 0x20) 2
    (cond (slice_index s 0 == 0x21) 1
    (cond (slice_index s 0 == 0x30) 1
    (cond (slice_index s 0 == 0x41) 1
    (cond (slice_index s 0 == 0x42) 1
    (cond (slice_index s 0 == 0x44) 1
    (cond (slice_index s 0 == 0x46) 1
    (cond (slice_index s 0 == 0x31) (2 + code_length (drop 2 s))
    (cond (slice_index s 0 == 0x32) (2 + code_length (drop 2 s))
    (cond (slice_index s 0 == 0x40) (1 + code_length (drop 1 s))
    (cond (slice_index s 0 == 0x43) (1 + code_length (drop 1 s))
    (cond (slice_index s 0 == 0x45) (3 + code_length (drop 3 s))
    (cond (slice_index s 0 == 0x7F) 3 0)))))))))))))))
