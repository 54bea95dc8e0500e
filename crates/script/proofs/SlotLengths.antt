-- How long the frame at the front of a slot is.
use Rattle.std.proofs.Common.{◌≡◌, ℕ, zero, suc, ◌-◌, ◌/◌, ◌%◌, ◌*◌, ◌≤◌, Bool, true, false, ◌&&◌, eqb, List, [], ◌∷◌, ◌++◌, length, replicate, sum_by, length-append, refl, ap, ◌∙◌, arith, w32, to_z, of_z, eqb-true}
use Rattle.std.specs.List.{AllByRecursion}
use Rattle.std.proofs.lemmas.Int.{to_z-of_z}
use mathlib.Core.Option.{Option, none, some}
use Rattle.std.proofs.lemmas.List.Sums.{sum_by-cons}
use Rattle.codec.specs.Expressions.{Expr, Op, Taken, and_then, decode, operation, op_bytes, expr_bytes, number_4}
use Rattle.codec.specs.Expressions.Op.{constant, variable, sample, held, binary, unary}
use Rattle.codec.specs.Expressions.Binary.{sum, difference, product, quotient, less, equal, both, either}
use Rattle.codec.specs.Expressions.Unary.{negated, inverted}
use Rattle.codec.specs.Frames.{Frame, frame_bytes}
use Rattle.codec.specs.Frames.Frame.{header, track, channel, thread, thread_end, skip, assign, put, if, else, end_if, while, end_while, with, end_with, last}
use Rattle.codec.specs.Writable.{OpFits, FrameFits}
use Rattle.codec.specs.Slots.{padded}
use Rattle.script.specs.Findings.{all_zero, code_length, length_at}

-- Zeros

and_left : (a b : Bool) → a && b ≡ true → a ≡ true
and_left true b e = refl
and_left false b e = e

and_right : (a b : Bool) → a && b ≡ true → b ≡ true
and_right true b e = e
and_right false b e = cc

pub zeros_from : (bs : List ℕ) → all_zero bs ≡ true → bs ≡ replicate (length bs) 0
zeros_from [] e = refl
zeros_from (b ∷ bs) e = λ i. eqb-true b 0 (and_left (eqb b 0) (all_zero bs) e) i ∷ zeros_from bs (and_right (eqb b 0) (all_zero bs) e) i

pub zeros_to : (n : ℕ) → all_zero (replicate n 0) ≡ true
zeros_to zero = refl
zeros_to (suc n) = zeros_to n

-- Codes

number_four : (n : ℕ) → number_4 (n / 16777216) (n / 65536 % 256) (n / 256 % 256) (n % 256) ≡ n
number_four n = omega arith

op_short : (o : Op) → length (op_bytes o) ≤ 5
op_short (constant z) = omega arith
op_short (variable x) = omega arith
op_short (sample t) = omega arith
op_short (held t) = omega arith
op_short (binary b) = omega arith
op_short (unary u) = omega arith

pub expr_short : (e : Expr) → length (expr_bytes e) ≤ 5 * length e
expr_short [] = omega arith
expr_short (o ∷ e) = omega (arith, length-append (op_bytes o) (expr_bytes e), op_short o, expr_short e)

-- An expression has as many bytes as its operations together.
pub expr_sum : (e : Expr) → sum_by (λ o. length (op_bytes o)) e ≡ length (expr_bytes e)
expr_sum [] = refl
expr_sum (o ∷ e) = omega (arith, sum_by-cons (λ (o : Op). length (op_bytes o)) o e, length-append (op_bytes o) (expr_bytes e), expr_sum e)

-- A code has no more operations than bytes.
pub decode_few : (n : ℕ) (bs : List ℕ) → length (decode n bs).ops ≤ length bs
unfolding decode
decode_few n [] = omega arith
decode_few (suc n) (b ∷ bs) = omega (arith, decode_few n bs)
decode_few zero (b ∷ bs) = go (operation b bs) (λ n. decode_few n bs)
  where
    go : (o : Option Taken) → ((n : ℕ) → length (decode n bs).ops ≤ length bs) → length (and_then o (λ n. decode n bs)).ops ≤ suc (length bs)
    go none few = omega arith
    go (some t) few = omega (arith, few t.bytes)

pub decode_zeros : (e : Expr) (m : ℕ) → AllByRecursion OpFits e → (decode 0 (expr_bytes e ++ replicate m 0)).ops ≡ e
unfolding decode operation
decode_zeros [] zero h = refl
decode_zeros [] (suc m) h = refl
decode_zeros (constant z ∷ e) m h =
    ap (λ (n : ℕ). constant (to_z w32 n) ∷ (decode 0 (expr_bytes e ++ replicate m 0)).ops) (number_four (of_z w32 z))
    ∙ (λ i. constant (to_z-of_z w32 z h.0 i) ∷ decode_zeros e m h.1 i)
decode_zeros (variable x ∷ e) m h = ap (λ (r : Expr). variable x ∷ r) (decode_zeros e m h.1)
decode_zeros (sample t ∷ e) m h = ap (λ (r : Expr). sample t ∷ r) (decode_zeros e m h.1)
decode_zeros (held t ∷ e) m h = ap (λ (r : Expr). held t ∷ r) (decode_zeros e m h.1)
decode_zeros (binary sum ∷ e) m h = ap (λ (r : Expr). binary sum ∷ r) (decode_zeros e m h.1)
decode_zeros (binary difference ∷ e) m h = ap (λ (r : Expr). binary difference ∷ r) (decode_zeros e m h.1)
decode_zeros (binary product ∷ e) m h = ap (λ (r : Expr). binary product ∷ r) (decode_zeros e m h.1)
decode_zeros (binary quotient ∷ e) m h = ap (λ (r : Expr). binary quotient ∷ r) (decode_zeros e m h.1)
decode_zeros (binary less ∷ e) m h = ap (λ (r : Expr). binary less ∷ r) (decode_zeros e m h.1)
decode_zeros (binary equal ∷ e) m h = ap (λ (r : Expr). binary equal ∷ r) (decode_zeros e m h.1)
decode_zeros (binary both ∷ e) m h = ap (λ (r : Expr). binary both ∷ r) (decode_zeros e m h.1)
decode_zeros (binary either ∷ e) m h = ap (λ (r : Expr). binary either ∷ r) (decode_zeros e m h.1)
decode_zeros (unary negated ∷ e) m h = ap (λ (r : Expr). unary negated ∷ r) (decode_zeros e m h.1)
decode_zeros (unary inverted ∷ e) m h = ap (λ (r : Expr). unary inverted ∷ r) (decode_zeros e m h.1)

code_is : (e : Expr) (m : ℕ) → AllByRecursion OpFits e → code_length (expr_bytes e ++ replicate m 0) ≡ length (expr_bytes e)
code_is e m h = ap (λ (r : Expr). length (expr_bytes r)) (decode_zeros e m h)

pub length_is : (f : Frame) → FrameFits f → length_at (padded 51 (frame_bytes f)) ≡ length (frame_bytes f)
length_is (header h) w = refl
length_is (track i l z) w = refl
length_is (channel i l z) w = refl
length_is (thread i) w = refl
length_is thread_end w = refl
length_is skip w = refl
length_is (assign x e) w = omega (arith, code_is e (51 - suc (suc (length (expr_bytes e)))) w.2)
length_is (put h e) w = omega (arith, code_is e (51 - suc (suc (length (expr_bytes e)))) w.2)
length_is (if e) w = omega (arith, code_is e (51 - suc (length (expr_bytes e))) w.2)
length_is else w = refl
length_is end_if w = refl
length_is (while e) w = omega (arith, code_is e (51 - suc (length (expr_bytes e))) w.2)
length_is end_while w = refl
length_is (with m e) w = omega (arith, code_is e (51 - suc (suc (suc (length (expr_bytes e))))) w.2)
length_is end_with w = refl
length_is (last m) w = refl
