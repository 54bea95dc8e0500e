-- Tables of codes: what a code says of the bytes behind it.
use Rattle.std.specs.Prelude.{ℕ, cond, List, [], ◌∷◌, ◌==◌}
use Rattle.std.proofs.Math.Option.{Option, none}

-- A code, and what it says.
pub record Row (A : Type 0) : Type 0 where
  pub code : ℕ
  pub says : List ℕ → Option A

-- A row by its code and what that says.
infix 60 ◌reads◌
abbrev pub ◌reads◌ : {A : Type 0} → ℕ → (List ℕ → Option A) → Row A
c reads f = record { code = c; says = f }

-- What the bytes behind a code say by the table; `none` if the code is not in it.
abbrev pub look_up : {A : Type 0} → List (Row A) → ℕ → List ℕ → Option A
look_up [] c bs = none
look_up (r ∷ rs) c bs = cond (c == r.code) (r.says bs) (look_up rs c bs)
