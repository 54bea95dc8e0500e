-- Literal one, from the first operation of a code.
use Rattle.std.proofs.Common.{◌≡◌, ℕ, ◌<◌, Bool, true, false, ◌&&◌, eqb, List, [], ◌∷◌, length, sym, refl, ap, ◌∙◌, arith, Bor, Option, Some, None, MatchOption, rules}
use mathlib.Core.Option.{Option as Perhaps, none, some}
use lib.Dec.{eqb-suc-zero}
use Rattle.codec.specs.Expressions.{Op, Expr, Decoded, Taken, and_then, decode, operation}
use Rattle.codec.specs.Operations.{First, joined, op_of, stopped}
use Rattle.codec.specs.declared.expressions.Op.{Op as Coded}
use Rattle.model.specs.Stretches.{is_literal_one}

is_nil : Expr → Bool
is_nil [] = true
is_nil (o ∷ e) = false

false_last : (b : Bool) → false ≡ b && false
false_last true = refl
false_last false = refl

true_last : (b : Bool) → b ≡ b && true
true_last true = refl
true_last false = refl

parts : (o : Op) (e : Expr) → is_literal_one (o ∷ e) ≡ is_literal_one (o ∷ []) && is_nil e
unfolding is_nil
parts o e = search rules

-- A code that can be read to its end has no operation only if it is empty.
nil_code : (code : List ℕ) → (decode 0 code).whole ≡ true → eqb (length code) 0 ≡ is_nil (decode 0 code).ops
unfolding decode is_nil
nil_code [] w = refl
nil_code (k ∷ bs) w = eqb-suc-zero (length bs) ∙ go (operation k bs) w
  where
    go : (o : Perhaps Taken) → (and_then o (λ n. decode n bs)).whole ≡ true → false ≡ is_nil (and_then o (λ n. decode n bs)).ops
    go none h = absurd cc
    go (some t) h = refl

not_read : (code : List ℕ) → (0 < length code → decode 0 code ≡ stopped) → (decode 0 code).whole ≡ true → false ≡ is_literal_one (decode 0 code).ops
unfolding decode
not_read [] h w = refl
not_read (k ∷ bs) h w =
    let s = h (omega arith) in
    let z : false ≡ true = sym (ap (λ (d : Decoded). d.whole) s) ∙ w in
    absurd cc

read_first : (code rest : List ℕ) (o : Op) (r : Bool) → First code o rest → r ≡ (is_literal_one (o ∷ []) && eqb (length rest) 0) → (decode 0 code).whole ≡ true → r ≡ is_literal_one (decode 0 code).ops
read_first code rest o r f e w =
    let d : decode 0 code ≡ joined o (decode 0 rest) = f.is in
    let wr : (decode 0 rest).whole ≡ true = sym (ap (λ (x : Decoded). x.whole) d) ∙ w in
    e ∙ ap (λ (b : Bool). is_literal_one (o ∷ []) && b) (nil_code rest wr) ∙ sym (parts o (decode 0 rest).ops) ∙ ap (λ (x : Decoded). is_literal_one x.ops) (sym d)

-- Whether the first operation is one and stands alone tells it of the whole code.
pub read_alone : (code : List ℕ) (first : Option (Coded × Bor (List ℕ))) (r : Bool)
    → MatchOption first (0 < length code → decode 0 code ≡ stopped) (λ p. First code (op_of p.0) p.1.now)
    → MatchOption first (r ≡ false) (λ p. r ≡ (is_literal_one (op_of p.0 ∷ []) && eqb (length p.1.now) 0))
    → (decode 0 code).whole ≡ true → r ≡ is_literal_one (decode 0 code).ops
read_alone code None r f e w = e ∙ not_read code f w
read_alone code (Some p) r f e w = read_first code p.1.now (op_of p.0) r f e w
