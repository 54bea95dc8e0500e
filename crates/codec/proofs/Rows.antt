-- Tables by their rows: a row that a code misses, and what every row makes true.
use Rattle.std.proofs.Common.{◌≡◌, ℕ, Bool, true, false, cond, eqb, List, [], ◌∷◌, sym, refl, subst, eqb-true}
use mathlib.Core.Option.{Option, none, some}
use Rattle.std.specs.List.{AllByRecursion}
use Rattle.codec.specs.Tables.{Row, look_up}

-- No row: where the code is this one's, it says nothing, and the later rows say nothing either.
pub miss : {A : Type 0} (k m : ℕ) (a b : Option A) → (k ≡ m → a ≡ none) → b ≡ none → cond (eqb k m) a b ≡ none
miss k m a b h e = pick (eqb k m) (λ t. h (eqb-true k m t))
  where
    pick : (t : Bool) → (t ≡ true → a ≡ none) → cond t a b ≡ none
    pick true g = g refl
    pick false g = e

-- One row's fact, and those of the rows behind it.
infixr 15 ◌and◌
abbrev pub ◌and◌ : {A B : Type 0} → A → B → A × B
a and b = (a, b)

-- What every row of a table makes true, the table does.
pub look_up_makes : {A : Type 0} (P : ℕ → A → Type 0) (bs : List ℕ) (a : A) (rs : List (Row A)) → AllByRecursion (λ (r : Row A). r.says bs ≡ some a → P r.code a) rs → (c : ℕ) → look_up rs c bs ≡ some a → P c a
look_up_makes P bs a [] h c e = cc
look_up_makes {A} P bs a (r ∷ rs) h c e = go (eqb c r.code) refl (look_up_makes P bs a rs h.1 c) e
  where
    go : (t : Bool) → eqb c r.code ≡ t → (look_up rs c bs ≡ some a → P c a) → cond t (r.says bs) (look_up rs c bs) ≡ some a → P c a
    go true et f e = subst (λ (x : ℕ). P x a) (sym (eqb-true c r.code et)) (h.0 e)
    go false et f e = f e
