-- Parts of the table, one after the other.
use Rattle.std.proofs.Common.{◌≡◌, ℕ, ◌+◌, ◌<◌, ◌≤◌, ◌≢◌, List, length, set, sym, ◌∙◌, subst, ⊎_elim, arith, get_or-set_other, get_or-set_same}
use Rattle.std.proofs.lemmas.List.{length-set, set_past}
use Rattle.std.proofs.lemmas.Bool.{cases_lt, cases_eq}
use Rattle.std.proofs.lemmas.Bool.Decides.{nat_tests}
use Rattle.survey.specs.Filling.{Filled, Right, place_past}
use Rattle.survey.specs.Table.{nil_step, step_at_place}
use Rattle.survey.specs.declared.table.Step.{Step}

-- The place behind another, in the script and at its end.
pub within : {place next : ℕ} → next ≡ place_past place → place < 512 → next ≡ place + 1
within {place} {next} e h = grind (arith, nat_tests)

pub over : {place next : ℕ} → next ≡ place_past place → 512 ≤ place → next ≡ place
over {place} {next} e h = grind (arith, nat_tests)

-- It does not lie before it.
pub not_back : {place next : ℕ} → next ≡ place_past place → place ≤ next
not_back {place} {next} e = grind (arith, nat_tests)

-- Nor past the end.
pub not_over : {place next : ℕ} → next ≡ place_past place → place ≤ 512 → next ≤ 512
not_over {place} {next} e l = grind (arith, nat_tests)

module _ {slab : List ℕ} where
  pub nowhere : (a : ℕ) (t : List Step) → Filled slab a a t t
  nowhere a t = record { long = λ i. length t; stays = λ p r. r; right = λ room p lo hi. absurd (omega arith) }

  pub one : {p next : ℕ} {st : Step} → next ≡ place_past p → Right slab p st → (t : List Step) → Filled slab p next t (set t p st)
  one {p} {next} {st} e r t = record { long = length-set t p st; stays = stays; right = right }
    where
      here : (q : ℕ) → q ≡ p → p < length t → Right slab q (step_at_place (set t p st) q)
      here q s l = subst (λ (n : ℕ). Right slab n (step_at_place (set t p st) n)) (sym s) (subst (Right slab p) (sym (get_or-set_same t p st nil_step l)) r)

      elsewhere : (q : ℕ) → q ≢ p → Right slab q (step_at_place t q) → Right slab q (step_at_place (set t p st) q)
      elsewhere q n h = subst (Right slab q) (sym (get_or-set_other t p q st nil_step n)) h

      stays : (q : ℕ) → Right slab q (step_at_place t q) → Right slab q (step_at_place (set t p st) q)
      stays q h =
          ⊎_elim
          (λ s. ⊎_elim (here q s) (λ past. subst (λ (u : List Step). Right slab q (step_at_place u q)) (sym (set_past t p st past)) h) (cases_lt p (length t)))
          (λ n. elsewhere q n h)
          (cases_eq q p)

      right : 512 ≤ length t → (q : ℕ) → p ≤ q → q < next → Right slab q (step_at_place (set t p st) q)
      right room q lo hi = ⊎_elim (λ h. here q (omega (arith, within e h)) (omega arith)) (λ h. absurd (omega (arith, over e h))) (cases_lt p 512)

  pub put : {p next : ℕ} {st : Step} {t u : List Step} → next ≡ place_past p → Right slab p st → u ≡ set t p st → Filled slab p next t u
  put {p} {next} {st} {t} {u} e r q = subst (Filled slab p next t) (sym q) (one e r t)

  pub up_to : {a b c : ℕ} {t u : List Step} → c ≡ b → Filled slab a b t u → Filled slab a c t u
  up_to {a} {b} {c} {t} {u} e f = subst (λ (n : ℕ). Filled slab a n t u) (sym e) f

  -- What was filled first, and what was filled then.
  pub first_part : {a b c d : ℕ} {t u v : List Step} → Filled slab a b t u → Filled slab c d u v → Filled slab a b t v
  first_part f g = record { long = g.long ∙ f.long; stays = λ p r. g.stays p (f.stays p r); right = λ room p lo hi. g.stays p (f.right room p lo hi) }

  pub later_part : {a b c d : ℕ} {t u v : List Step} → Filled slab a b t u → Filled slab c d u v → Filled slab c d t v
  later_part f g = record { long = g.long ∙ f.long; stays = λ p r. g.stays p (f.stays p r); right = λ room p lo hi. g.right (omega (arith, f.long)) p lo hi }

  -- Two parts that meet.
  pub both : {a b c : ℕ} {t u : List Step} → Filled slab a b t u → Filled slab b c t u → Filled slab a c t u
  both {a} {b} {c} f g = record { long = f.long; stays = f.stays; right = λ room p lo hi. ⊎_elim (λ h. f.right room p lo h) (λ h. g.right room p h hi) (cases_lt p b) }

  pub joined : {a b c : ℕ} {t u v : List Step} → Filled slab a b t u → Filled slab b c u v → Filled slab a c t v
  joined f g = both (first_part f g) (later_part f g)

  -- A block with one stretch inside: the stretch, then the frame that opens it and the one that ends it, then what follows.
  pub block : {a b c d e : ℕ} {t u v w x : List Step} → Filled slab b c t u → Filled slab a b u v → Filled slab c d v w → Filled slab d e w x → Filled slab a e t x
  block inside opens ends after =
      let begun = both (later_part inside opens) (first_part inside opens) in
      joined (joined begun ends) after

  -- A block with two: both stretches come first.
  pub choice : {a b c d e f g : ℕ} {t u v w x y z : List Step} → Filled slab b c t u → Filled slab d e u v → Filled slab a b v w → Filled slab c d w x → Filled slab e f x y → Filled slab f g y z → Filled slab a g t z
  choice one two opens middle ends after =
      let ways = first_part one two in
      let begun = both (later_part ways opens) (first_part ways opens) in
      let half = joined begun middle in
      let rest = first_part (first_part (later_part one two) opens) middle in
      joined (joined (both half rest) ends) after
