-- The stack of working numbers, an operation at a time.
use Rattle.std.proofs.Common.{◌≡◌, ℕ, zero, suc, ◌+◌, ◌-◌, ◌<◌, ◌≤◌, T, ltb, leb, ◌≢◌, List, [], ◌∷◌, length, get_or, set, ℤ, pos, sym, refl, ap, ◌∙◌, subst, arith, eqb→eq, ltb→lt, leb→le, get_or-set_other, get_or-set_same}
use Rattle.codec.specs.Expressions.{Expr}
use Rattle.codec.specs.Operations.{op_of, binary_of, unary_of}
use Rattle.codec.specs.Sound.{leaves_one}
use Rattle.codec.specs.declared.expressions.Op.{Op}
use Rattle.codec.specs.declared.expressions.Op.TheVariants.{Constant, Variable, Sample, Held, Two, One}
use Rattle.model.specs.Values.{Cell, blank, sample_at, top, eval, apply_binary, apply_unary}
use Rattle.runs.specs.Operations.{made, numbers_from, taken}
use Rattle.model.proofs.Tests.{and_left, and_right}

-- What lies above the first n numbers does not matter.
numbers_set : (b n : ℕ) (w : List ℤ) (i : ℕ) (v : ℤ) → n ≤ i → numbers_from b n (set w (b + i) v) ≡ numbers_from b n w
numbers_set b zero w i v h = refl
numbers_set b (suc n) w i v h =
    let ne : b + n ≢ b + i = omega arith in
    let one = get_or-set_other w (b + i) (b + n) v (pos 0) ne in
    let others = numbers_set b n w i v (omega arith) in
    λ j. one j ∷ others j

-- The number above n others is written, and is the top.
numbers_top : (b n : ℕ) (w : List ℤ) (v : ℤ) → b + n < length w → numbers_from b (n + 1) (set w (b + n) v) ≡ v ∷ numbers_from b n w
numbers_top b n w v h =
    let one = get_or-set_same w (b + n) v (pos 0) h in
    let others = numbers_set b n w n v (omega arith) in
    let e : n + 1 ≡ suc n = omega arith in
    ap (λ (m : ℕ). numbers_from b m (set w (b + n) v)) e ∙ (λ j. one j ∷ others j)

module _ (cells : List Cell) (tracks : List (List ℤ)) (b : ℕ) where
  -- What an operation leaves behind: the numbers that it keeps, and above them the one that it makes.
  abbrev pub after : Op → ℕ → List ℤ → List ℤ
  after o n w = numbers_from b (n - taken o + 1) (set w (b + (n - taken o)) (made cells tracks (op_of o) (get_or w (b + (n - 2)) (pos 0)) (get_or w (b + (n - 1)) (pos 0))))

  -- An operation on the memory is the operation on the stack: what is left of the expression gives the same.
  pub eval_more : (o : Op) (e : Expr) (n : ℕ) (w : List ℤ) → taken o ≤ n → n - taken o < 16 → b + 16 ≤ length w
      → eval cells tracks e (after o n w) ≡ eval cells tracks (op_of o ∷ e) (numbers_from b n w)
  eval_more (Constant z) e n w few room long =
      let q : n - 0 ≡ n = omega arith in
      ap (eval cells tracks e) (numbers_top b (n - 0) w z (omega arith) ∙ ap (λ (m : ℕ). z ∷ numbers_from b m w) q)
  eval_more (Variable x) e n w few room long =
      let q : n - 0 ≡ n = omega arith in
      ap (eval cells tracks e) (numbers_top b (n - 0) w _ (omega arith) ∙ ap (λ (m : ℕ). (get_or cells x blank).value ∷ numbers_from b m w) q)
  eval_more (Held t) e n w few room long =
      let q : n - 0 ≡ n = omega arith in
      ap (eval cells tracks e) (numbers_top b (n - 0) w _ (omega arith) ∙ ap (λ (m : ℕ). pos (length (get_or tracks t [])) ∷ numbers_from b m w) q)
  eval_more (Sample t) e zero w few room long = absurd (omega arith)
  eval_more (Sample t) e (suc n) w few room long =
      let q : suc n - 1 ≡ n = omega arith in
      ap (eval cells tracks e) (numbers_top b (suc n - 1) w _ (omega arith) ∙ ap (λ (m : ℕ). sample_at (get_or tracks t []) (get_or w (b + m) (pos 0)) ∷ numbers_from b m w) q)
  eval_more (One u) e zero w few room long = absurd (omega arith)
  eval_more (One u) e (suc n) w few room long =
      let q : suc n - 1 ≡ n = omega arith in
      ap (eval cells tracks e) (numbers_top b (suc n - 1) w _ (omega arith) ∙ ap (λ (m : ℕ). apply_unary (unary_of u) (get_or w (b + m) (pos 0)) ∷ numbers_from b m w) q)
  eval_more (Two o) e zero w few room long = absurd (omega arith)
  eval_more (Two o) e (suc zero) w few room long = absurd (omega arith)
  eval_more (Two o) e (suc (suc n)) w few room long =
      let q : suc (suc n) - 2 ≡ n = omega arith in
      let r : suc (suc n) - 1 ≡ suc n = omega arith in
      ap (eval cells tracks e) (numbers_top b (suc (suc n) - 2) w _ (omega arith) ∙ (λ j. apply_binary (binary_of o) (get_or w (b + q j) (pos 0)) (get_or w (b + r j) (pos 0)) ∷ numbers_from b (q j) w))

-- What a sound expression says of its first operation, over n numbers.
pub record Roomy (o : Op) (e : Expr) (n : ℕ) : Type 0 where
  pub few : taken o ≤ n
  pub room : n - taken o < 16
  pub later : T (leaves_one (n - taken o + 1) e)

later_at : (e : Expr) (n m : ℕ) → n ≡ m → T (leaves_one n e) → T (leaves_one m e)
later_at e n m q t = subst (λ (x : ℕ). T (leaves_one x e)) q t

pub room_first : (o : Op) (e : Expr) (n : ℕ) → n ≤ 16 → T (leaves_one n (op_of o ∷ e)) → Roomy o e n
room_first (Constant z) e n most t =
    let lt = ltb→lt n 16 (and_left _ (leaves_one (suc n) e) t) in
    record { few = omega arith; room = omega arith; later = later_at e (suc n) (n - 0 + 1) (omega arith) (and_right (ltb n 16) _ t) }
room_first (Variable x) e n most t =
    let lt = ltb→lt n 16 (and_left _ (leaves_one (suc n) e) t) in
    record { few = omega arith; room = omega arith; later = later_at e (suc n) (n - 0 + 1) (omega arith) (and_right (ltb n 16) _ t) }
room_first (Held x) e n most t =
    let lt = ltb→lt n 16 (and_left _ (leaves_one (suc n) e) t) in
    record { few = omega arith; room = omega arith; later = later_at e (suc n) (n - 0 + 1) (omega arith) (and_right (ltb n 16) _ t) }
room_first (Sample x) e n most t =
    let le = leb→le 1 n (and_left _ (leaves_one n e) t) in
    record { few = le; room = omega arith; later = later_at e n (n - 1 + 1) (omega arith) (and_right (leb 1 n) _ t) }
room_first (One u) e n most t =
    let le = leb→le 1 n (and_left _ (leaves_one n e) t) in
    record { few = le; room = omega arith; later = later_at e n (n - 1 + 1) (omega arith) (and_right (leb 1 n) _ t) }
room_first (Two b) e n most t =
    let le = leb→le 2 n (and_left _ (leaves_one (n - 1) e) t) in
    record { few = le; room = omega arith; later = later_at e (n - 1) (n - 2 + 1) (omega arith) (and_right (leb 2 n) _ t) }

-- At the end one number is held.
pub one_left : (n : ℕ) → T (leaves_one n []) → n ≡ 1
one_left n t = eqb→eq n 1 t

-- The only number is the top.
pub top_is : (b n : ℕ) (w : List ℤ) → n ≡ 1 → get_or w (b + (n - 1)) (pos 0) ≡ top (numbers_from b n w)
top_is b n w one = ap (λ (m : ℕ). get_or w (b + (m - 1)) (pos 0)) one ∙ ap (λ (m : ℕ). top (numbers_from b m w)) (sym one)
