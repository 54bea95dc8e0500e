-- Tests of the first n, where a chain of iterators makes them.
use Rattle.std.proofs.Common.{◌≡◌, ℕ, zero, suc, ◌<◌, ◌≤◌, Bool, ◌&&◌, List, length, get_or, take, take_all, sym, refl, ap, ◌∙◌, add-one, arith}
use Rattle.std.specs.List.{list_all, range_with_len}
use Rattle.std.proofs.lemmas.List.Folds.{list_all_more}
use Rattle.std.proofs.lemmas.List.FromFn.{get_or-range_with_len, length-range_with_len}
use Rattle.runs.specs.Turns.{all_first}

pub all_taken : {X : Type 0} (p : X → Bool) (f : ℕ → Bool) (xs : List X) (d : X) (n : ℕ) → n ≤ length xs → ((i : ℕ) → i < n → p (get_or xs i d) ≡ f i) → list_all p (take n xs) ≡ all_first f n
unfolding all_first
all_taken p f xs d zero le same = refl
all_taken p f xs d (suc n) le same =
    ap (λ (m : ℕ). list_all p (take m xs)) (sym (add-one n))
    ∙ list_all_more p xs n d (omega arith)
    ∙ (λ j. all_taken p f xs d n (omega arith) (λ i lt. same i (omega arith)) j && same n (omega arith) j)

pub all_ranged : (f : ℕ → Bool) (n : ℕ) → list_all f (range_with_len 0 n) ≡ all_first f n
all_ranged f n =
    let long = length-range_with_len 0 n in
    ap (list_all f) (sym (take_all n (range_with_len 0 n) (omega arith)))
    ∙ all_taken f f (range_with_len 0 n) 0 n (omega arith) (λ i lt. ap f (get_or-range_with_len 0 n i 0 lt ∙ omega arith))
