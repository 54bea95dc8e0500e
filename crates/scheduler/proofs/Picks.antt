-- The picks that are left at a place of a list, where the first n of it count.
use Rattle.std.proofs.Common.{◌≡◌, ℕ, ◌+◌, ◌<◌, ◌≤◌, min, List, [], ◌∷◌, length, get_or, take, drop, sym, ap, ◌∙◌, arith, length-take, get_or-take}
use Rattle.std.proofs.lemmas.List.{drop_all, drop_more}

pub none_left : (picks : List ℕ) (n at : ℕ) → n ≡ min (length picks) 4096 → length (take n picks) ≤ at → drop at (take 4096 picks) ≡ []
none_left picks n at e h = drop_all at (take 4096 picks) (omega (arith, length-take n picks, length-take 4096 picks))

pub one_left : (picks : List ℕ) (n at pick : ℕ) → n ≡ min (length picks) 4096 → at < length (take n picks) → pick ≡ get_or (take n picks) at 0 → drop at (take 4096 picks) ≡ pick ∷ drop (at + 1) (take 4096 picks)
one_left picks n at pick e h is =
    let within : at < n = omega (arith, length-take n picks) in
    drop_more (take 4096 picks) at 0 (omega (arith, length-take n picks, length-take 4096 picks))
    ∙ ap (λ (p : ℕ). p ∷ drop (at + 1) (take 4096 picks)) (get_or-take 4096 picks at 0 (omega arith) ∙ sym (is ∙ get_or-take n picks at 0 within))
