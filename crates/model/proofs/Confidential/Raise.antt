-- Levels raised cell by cell.
use Rattle.std.proofs.Common.{◌≡◌, ℕ, zero, suc, ◌+◌, ◌<◌, Bool, true, false, cond, T, List, [], ◌∷◌, length, get_or, sym, refl, ap, ◌∙◌, subst, suc-le-suc, zero-le, add-zero, arith}
use Rattle.lattice.specs.Levels.{Levels}
use Rattle.model.specs.Values.{Cell, blank}
use Rattle.model.specs.Machine.{raise}
use Rattle.model.proofs.Confidential.Slots.{cond_ind}
use Rattle.model.proofs.Tests.{is_true}

abbrev pub raised : Levels → ℕ → Cell → Cell
raised k l c = record { value = c.value; level = k.join c.level l }

module _ (k : Levels) (m : ℕ → Bool) (l : ℕ) where
  pub raise_long : (x : ℕ) (cs : List Cell) → length (raise k m l x cs) ≡ length cs
  raise_long x [] = refl
  raise_long x (c ∷ cs) = ap suc (raise_long (suc x) cs)

  raise_go : (P : Cell → Type 0) (cs : List Cell) (x j n : ℕ) → n ≡ x + j → P (get_or cs j blank)
      → (T (m n) → j < length cs → P (raised k l (get_or cs j blank))) → P (get_or (raise k m l x cs) j blank)
  raise_go P [] x j n e h f = h
  raise_go P (c ∷ cs) x zero n e h f = cond_ind P (m x) _ _ (λ t. f (subst (λ (y : ℕ). T (m y)) (sym (e ∙ add-zero x)) t) (suc-le-suc zero-le)) (λ t. h)
  raise_go P (c ∷ cs) x (suc j) n e h f = raise_go P cs (suc x) j n (omega arith) h (λ t b. f t (suc-le-suc b))

  pub raise_pred : (P : Cell → Type 0) (cs : List Cell) (j : ℕ) → P (get_or cs j blank)
      → (T (m j) → j < length cs → P (raised k l (get_or cs j blank))) → P (get_or (raise k m l 0 cs) j blank)
  raise_pred P cs j h f = raise_go P cs 0 j j (omega arith) h f

  marked_go : (P : Cell → Type 0) (cs : List Cell) (x j n : ℕ) → n ≡ x + j → T (m n) → j < length cs → P (raised k l (get_or cs j blank)) → P (get_or (raise k m l x cs) j blank)
  marked_go P [] x j n e t b h = absurd (omega arith)
  marked_go P (c ∷ cs) x zero n e t b h = subst (λ (y : Bool). P (cond y (raised k l c) c)) (sym (is_true (m x) (subst (λ (y : ℕ). T (m y)) (e ∙ add-zero x) t))) h
  marked_go P (c ∷ cs) x (suc j) n e t b h = marked_go P cs (suc x) j n (omega arith) t (omega arith) h

  pub raise_marked : (P : Cell → Type 0) (cs : List Cell) (j : ℕ) → T (m j) → j < length cs → P (raised k l (get_or cs j blank)) → P (get_or (raise k m l 0 cs) j blank)
  raise_marked P cs j t b h = marked_go P cs 0 j j (omega arith) t b h

module _ (k : Levels) (m : ℕ → Bool) (l l' : ℕ) where
  both_go : (R : Cell → Cell → Type 0) (cs ds : List Cell) (x j n : ℕ) → length cs ≡ length ds → n ≡ x + j → R (get_or cs j blank) (get_or ds j blank)
      → (T (m n) → R (raised k l (get_or cs j blank)) (raised k l' (get_or ds j blank))) → R (get_or (raise k m l x cs) j blank) (get_or (raise k m l' x ds) j blank)
  both_go R [] [] x j n z e h f = h
  both_go R [] (d ∷ ds) x j n z e h f = absurd (omega arith)
  both_go R (c ∷ cs) [] x j n z e h f = absurd (omega arith)
  both_go R (c ∷ cs) (d ∷ ds) x zero n z e h f = both (m x) (λ t. f (subst (λ (y : ℕ). T (m y)) (sym (e ∙ add-zero x)) t))
    where
      both : (b : Bool) → (T b → R (raised k l c) (raised k l' d)) → R (cond b (raised k l c) c) (cond b (raised k l' d) d)
      both true g = g tt
      both false g = h
  both_go R (c ∷ cs) (d ∷ ds) x (suc j) n z e h f = both_go R cs ds (suc x) j n (omega arith) (omega arith) h f

  pub raise_both : (R : Cell → Cell → Type 0) (cs ds : List Cell) (j : ℕ) → length cs ≡ length ds → R (get_or cs j blank) (get_or ds j blank)
      → (T (m j) → R (raised k l (get_or cs j blank)) (raised k l' (get_or ds j blank))) → R (get_or (raise k m l 0 cs) j blank) (get_or (raise k m l' 0 ds) j blank)
  raise_both R cs ds j z h f = both_go R cs ds 0 j j z (omega arith) h f
