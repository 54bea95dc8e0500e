-- The marks of a thread: what a write to one leaves, one block more and one block fewer.
use Rattle.std.proofs.Common.{◌≡◌, ℕ, zero, suc, ◌+◌, ◌-◌, ◌<◌, List, [], ◌∷◌, length, get_or, set, sym, refl, ap, ◌∙◌, subst, add-one, arith, get_or-set_other, get_or-set_same}
use Rattle.model.specs.Threads.{Open, context}
use Rattle.runs.specs.declared.Mark.{Mark}
use Rattle.runs.specs.Flat.{nil_mark, level_inside}
use Rattle.runs.specs.Views.{openers, Leveled}
use Rattle.runs.proofs.Loops.{inside_more}

pub leveled_length : (ms : List Mark) (b d : ℕ) (os : List Open) → Leveled ms b d os → length os ≡ d
leveled_length ms b zero [] h = refl
leveled_length ms b zero (o ∷ os) h = absurd h
leveled_length ms b (suc d) [] h = absurd h
leveled_length ms b (suc d) (o ∷ os) h = ap suc (leveled_length ms b d os h.1)

-- The level inside the innermost block is the context level.
pub level_inside_is : (ms : List Mark) (b d : ℕ) (os : List Open) → Leveled ms b d os → level_inside ms b d ≡ context os
level_inside_is ms b zero [] h = refl
level_inside_is ms b zero (o ∷ os) h = absurd h
level_inside_is ms b (suc d) [] h = absurd h
level_inside_is ms b (suc d) (o ∷ os) h = ap (level_inside ms b) (sym (add-one d)) ∙ inside_more ms b d ∙ h.0

module _ (ms ns : List Mark) (b : ℕ) where
  abbrev pub Same : ℕ → Type 0
  Same d = (e : ℕ) → e < d → get_or ns (b + e) nil_mark ≡ get_or ms (b + e) nil_mark

  pub openers_same : (d : ℕ) → Same d → openers ns b d ≡ openers ms b d
  openers_same zero h = refl
  openers_same (suc d) h = λ i. (h d (omega arith) i).opener ∷ openers_same d (λ e l. h e (omega arith)) i

  pub leveled_same : (d : ℕ) (os : List Open) → Same d → Leveled ms b d os → Leveled ns b d os
  leveled_same zero [] h l = tt
  leveled_same zero (o ∷ os) h l = l
  leveled_same (suc d) [] h l = l
  leveled_same (suc d) (o ∷ os) h l = (ap (λ (m : Mark). m.level) (h d (omega arith)) ∙ l.0, leveled_same d os (λ e lt. h e (omega arith)) l.1)

module _ (ms : List Mark) (b d : ℕ) (v : Mark) where
  below : Same ms (set ms (b + d) v) b d
  below e l = get_or-set_other ms (b + d) (b + e) v nil_mark (λ (q : b + e ≡ b + d). omega arith)

  -- One block more.
  pub openers_push : b + d < length ms → openers (set ms (b + d) v) b (d + 1) ≡ v.opener ∷ openers ms b d
  openers_push h =
      ap (openers (set ms (b + d) v) b) (add-one d)
      ∙ (λ i. (get_or-set_same ms (b + d) v nil_mark h i).opener ∷ openers_same ms (set ms (b + d) v) b d below i)

  pub leveled_push : (o : Open) (os : List Open) → b + d < length ms → v.level ≡ context (o ∷ os) → Leveled ms b d os → Leveled (set ms (b + d) v) b (d + 1) (o ∷ os)
  leveled_push o os h e l =
      let P : ℕ → Type 0 = λ n. Leveled (set ms (b + d) v) b n (o ∷ os) in
      subst P (sym (add-one d)) (ap (λ (m : Mark). m.level) (get_or-set_same ms (b + d) v nil_mark h) ∙ e, leveled_same ms (set ms (b + d) v) b d os below l)

-- One block fewer.
pub leveled_pop : (ms : List Mark) (b d : ℕ) (o : Open) (os : List Open) → Leveled ms b d (o ∷ os) → Leveled ms b (d - 1) os
leveled_pop ms b zero o os l = absurd l
leveled_pop ms b (suc d) o os l = let P : ℕ → Type 0 = λ n. Leveled ms b n os in let e : d ≡ suc d - 1 = omega arith in subst P e l.1

pub openers_pop : (ms : List Mark) (b d p : ℕ) (ps : List ℕ) → openers ms b d ≡ p ∷ ps → openers ms b (d - 1) ≡ ps
openers_pop ms b zero p ps e = let z : ◌≡◌ {A = ℕ} 0 1 = cc in absurd (omega arith)
openers_pop ms b (suc d) p ps e = let q : suc d - 1 ≡ d = omega arith in ap (openers ms b) q ∙ (cc)
