-- Cells as the model has them: one set, and each of the first n raised.
use Rattle.std.proofs.Common.{◌≡◌, ℕ, zero, suc, ◌+◌, ◌<◌, ◌≤◌, Bool, true, false, cond, List, [], ◌∷◌, ◌++◌, map, length, get_or, take, set, sym, refl, ap, ◌∙◌, add-one, arith, length-set, length-take, get_or-set_other, take-suc, take-suc-set}
use lib.Seq.{map-set}
use Rattle.std.proofs.lemmas.List.{map_push, length-map}
use Rattle.lattice.specs.Levels.{Levels}
use Rattle.model.specs.Machine.{raise}
use Rattle.model.specs.Values.{Cell as ModelCell}
use Rattle.runs.specs.declared.Cell.{Cell}
use Rattle.runs.specs.declared.Core.{Core}
use Rattle.survey.specs.Stretches.{has_bit}
use Rattle.runs.specs.Flat.{nil_cell, cell_of, raised, raised_cell, with_cells}

pub take_set_in : {X : Type 0} (n : ℕ) (xs : List X) (i : ℕ) (y : X) → take n (set xs i y) ≡ set (take n xs) i y
take_set_in zero xs i y = refl
take_set_in (suc n) [] i y = refl
take_set_in (suc n) (x ∷ xs) zero y = refl
take_set_in (suc n) (x ∷ xs) (suc i) y = ap (λ (l : List _). x ∷ l) (take_set_in n xs i y)

pub cells_set : (n : ℕ) (cs : List Cell) (x : ℕ) (v : Cell) → map cell_of (take n (set cs x v)) ≡ set (map cell_of (take n cs)) x (cell_of v)
cells_set n cs x v = ap (map cell_of) (take_set_in n cs x v) ∙ map-set cell_of (take n cs) x v

module _ (k : Levels) (mask l : ℕ) where
  pub raised_none : (cs : List Cell) → raised k mask l cs 0 ≡ cs
  unfolding raised
  raised_none cs = refl

  pub raised_more : (cs : List Cell) (n : ℕ) → raised k mask l cs (n + 1) ≡ set (raised k mask l cs n) n (raised_cell k mask l n (get_or (raised k mask l cs n) n nil_cell))
  unfolding raised
  raised_more cs n = ap (raised k mask l cs) (add-one n)

  -- One cell more, in a run.
  pub raise_next : (c s : Core) (n : ℕ) (v : Cell) → s ≡ with_cells c (raised k mask l c.cells n) → v ≡ raised_cell k mask l n (get_or s.cells n nil_cell) → with_cells s (set s.cells n v) ≡ with_cells c (raised k mask l c.cells (n + 1))
  raise_next c s n v h e =
      ap (λ (u : Cell). with_cells s (set s.cells n u)) e
      ∙ ap (λ (x : Core). with_cells x (set x.cells n (raised_cell k mask l n (get_or x.cells n nil_cell)))) h
      ∙ ap (with_cells c) (sym (raised_more c.cells n))

  pub raised_length : (cs : List Cell) (n : ℕ) → length (raised k mask l cs n) ≡ length cs
  unfolding raised
  raised_length cs zero = refl
  raised_length cs (suc n) = length-set (raised k mask l cs n) n _ ∙ raised_length cs n

  -- Cells past the first n are as they were.
  raised_past : (cs : List Cell) (n j : ℕ) → n ≤ j → get_or (raised k mask l cs n) j nil_cell ≡ get_or cs j nil_cell
  unfolding raised
  raised_past cs zero j le = refl
  raised_past cs (suc n) j le = get_or-set_other (raised k mask l cs n) n j _ nil_cell (λ (e : j ≡ n). omega arith) ∙ raised_past cs n j (omega arith)

  module _ (marked : ℕ → Bool) where
    raise-one : ℕ → ModelCell → ModelCell
    raise-one x c = cond (marked x) (record { value = c.value; level = k.join c.level l }) c

    raise-push : (cs : List ModelCell) (c : ModelCell) (x y : ℕ) → y ≡ x + length cs → raise k marked l x (cs ++ (c ∷ [])) ≡ raise k marked l x cs ++ (raise-one y c ∷ [])
    unfolding raise-one
    raise-push [] c x y e = ap (λ (z : ℕ). raise-one z c ∷ []) (omega arith)
    raise-push (d ∷ cs) c x y e = ap (λ (t : List ModelCell). raise-one x d ∷ t) (raise-push cs c (suc x) y (omega arith))

    one-is : (x : ℕ) (c : Cell) → has_bit mask x ≡ marked x → cell_of (raised_cell k mask l x c) ≡ raise-one x (cell_of c)
    unfolding raise-one
    one-is x c e = go (has_bit mask x) (marked x) e
      where
        go : (a b : Bool) → a ≡ b → cell_of (cond a (record { value = c.value; level = k.join c.level l }) c) ≡ cond b (record { value = c.value; level = k.join c.level l }) (cell_of c)
        go true true e = refl
        go false false e = refl
        go true false e = let z : ◌≡◌ {A = ℕ} 0 1 = cc in absurd (omega arith)
        go false true e = let z : ◌≡◌ {A = ℕ} 0 1 = cc in absurd (omega arith)

    pub raised_is : (cs : List Cell) (n : ℕ) → n ≤ length cs → ((x : ℕ) → x < n → has_bit mask x ≡ marked x) → map cell_of (take n (raised k mask l cs n)) ≡ raise k marked l 0 (map cell_of (take n cs))
    unfolding raised
    raised_is cs zero le h = refl
    raised_is cs (suc n) le h =
        let before = raised k mask l cs n in
        let new = raised_cell k mask l n (get_or before n nil_cell) in
        let long = raised_length cs n in
        let here : length (map cell_of (take n cs)) ≡ n = length-map (take n cs) cell_of ∙ omega (arith, length-take n cs) in
        ap (map cell_of) (take-suc-set before n new (omega arith))
        ∙ map_push cell_of (take n before) new
        ∙ (λ i. raised_is cs n (omega arith) (λ x lt. h x (omega arith)) i ++ ((one-is n (get_or before n nil_cell) (h n (omega arith)) ∙ ap (λ (c : Cell). raise-one n (cell_of c)) (raised_past cs n n (omega arith))) i ∷ []))
        ∙ sym (ap (λ (t : List Cell). raise k marked l 0 (map cell_of t)) (take-suc cs n nil_cell (omega arith)) ∙ ap (raise k marked l 0) (map_push cell_of (take n cs) (get_or cs n nil_cell)) ∙ raise-push (map cell_of (take n cs)) (cell_of (get_or cs n nil_cell)) 0 n (omega arith))
