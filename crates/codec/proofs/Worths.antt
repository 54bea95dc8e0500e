-- A rule of the table of worths, by one test that is computed over all of it.
use Rattle.std.proofs.Common.{◌≡◌, ℕ, ◌<◌, Bool, true, eqb, List, length, get_or, ap, subst, ◌∙◌, arith, zero-add, eqb-true}
use Rattle.std.specs.List.{enumerate_from, list_all}
use Rattle.std.proofs.lemmas.List.Elements.{All-get_or}
use Rattle.std.proofs.lemmas.List.FromFn.{get_or-enumerate_from, length-enumerate_from}
use Rattle.std.proofs.lemmas.List.Sums.{AllPass-from_list_all}
use Rattle.codec.specs.Lines.{worth}

-- What f makes of an entry is the worth of its place.
abbrev pub right : (ℕ → ℕ) → ℕ × ℕ → Bool
right f entry = eqb (f entry.1) (worth entry.0)

pub rule : (f : ℕ → ℕ) (xs : List ℕ) → list_all (right f) (enumerate_from 0 xs) ≡ true → length xs ≡ 256 → (b : ℕ) → b < 256 → f (get_or xs b 0) ≡ worth b
rule f xs t l b h =
    let passed = All-get_or (λ e. right f e ≡ true) (enumerate_from 0 xs) b (0, 0) (omega (arith, length-enumerate_from 0 xs)) (AllPass-from_list_all (right f) (enumerate_from 0 xs) t) in
    eqb-true _ _ (subst (λ e. right f e ≡ true) (get_or-enumerate_from 0 xs b (0, 0) (omega arith) ∙ ap (λ n. (n, get_or xs b 0)) (zero-add b)) passed)
