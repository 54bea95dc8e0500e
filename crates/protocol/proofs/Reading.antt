-- What is read of a source up to a limit.
use Rattle.std.proofs.Common.{◌≡◌, ℕ, List, [], ◌++◌, take, IfSome, Some, None, Option, ap, ◌∙◌}
use Rattle.std.specs.Option.{option_map}

-- With nothing read before, the bytes that are known, up to the limit.
known : (o : Option (List ℕ)) (n : ℕ) (start end : List ℕ) → start ≡ [] → IfSome (option_map (take n) o) (λ xs. end ≡ start ++ xs) → IfSome o (λ all. end ≡ take n all)
known None n start end e h = tt
known (Some all) n start end e h = h ∙ ap (λ s. s ++ take n all) e

pub within_limit : {S : Type 0} (left : S → Option (List ℕ)) (s t : S) (n m : ℕ) (start end : List ℕ) → t ≡ s → m ≡ n → start ≡ []
    → IfSome (option_map (take m) (left t)) (λ xs. end ≡ start ++ xs) → IfSome (left s) (λ all. end ≡ take n all)
within_limit left s t n m start end is limit e h = rw (← is, ← limit) (known (left t) m start end e h)
