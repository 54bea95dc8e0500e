-- Threads of two runs that look the same: equal, or both inside one branch that is not seen, with as many turns left.
use Rattle.std.proofs.Common.{◌≡◌, ℕ, zero, suc, Bool, true, false, cond, not, ◌&&◌, T, List, [], ◌∷◌, length, get_or, sym, refl, ap, ◌∙◌, subst, ap₂, ⊎_elim, arith}
use lib.Bits.{bit_or}
use Rattle.model.specs.Levels.{is_open}
use Rattle.script.specs.Code.{Code}
use Rattle.model.specs.Stretches.{needs}
use Rattle.script.specs.Code.Code.{loop}
use Rattle.model.specs.Threads.{Open, Thread, ended, guard_of, guard, against, held_by, context, owned, reserved}
use Rattle.model.specs.Threads.Open.{in_branch, in_loop, in_lock}
use Rattle.model.proofs.Confidential.Masks.{Lies, lies_left}
use Rattle.model.proofs.Confidential.Slots.{either_way}
use Rattle.model.proofs.Confidential.View.{View, Had, Hid, LR, lr_same, lr_join, lr_hid, hid_not_open}
use Rattle.model.proofs.Confidential.Stack.{HadStack, assigned, had_pop, guard_of_had, guard_of_over}
use Rattle.model.proofs.Confidential.Stack.In.{here}
use Rattle.model.proofs.Confidential.Quiet.{Way, base, mask, Above, Quiet, above_in, above_reserved, above_owned, above_guard, quiet_above}

-- In a context that is not open, the locks that a stretch names are reserved.
pub record Fit (c : Code) (os : List Open) : Type 0 where
  pub is : (T (is_open (context os)) → ⊥) → Lies (needs c) (reserved os)

abbrev pub FitIn : List Open → Type 0
FitIn [] = Unit {0}
FitIn (in_branch l w p q n ∷ os) = Fit n os × FitIn os
FitIn (in_loop e b n ∷ os) = Fit (loop e b n) os × FitIn os
FitIn (in_lock m n ∷ os) = Fit n os × FitIn os

pub record Fits (c : Code) (os : List Open) : Type 0 where
  pub fit : Fit c os
  pub deep : FitIn os

pub record FitMask (y : Way) : Type 0 where
  pub is : (T (is_open (context y.rest)) → ⊥) → Lies (mask y) (reserved y.rest)

pub data TR (v : View) (t u : Thread) : Type 0 where
  same : t ≡ u → Fits t.code t.inside → TR v t u
  apart : (y : Way) (n l l' : ℕ) (w w' : Bool) → Hid v l → Hid v l' → FitMask y → Fits y.next y.rest
      → Quiet v y l w t.code t.pace t.inside n → Quiet v y l' w' u.code u.pace u.inside n → TR v t u

-- What the outermost hidden branch makes the reserved locks.
abbrev kept_locks : Way → ℕ
kept_locks y = bit_or (cond (is_open (context y.rest)) (mask y) 0) (reserved y.rest)

mask_kept : (y : Way) → FitMask y → Lies (mask y) (kept_locks y)
mask_kept y h = go (is_open (context y.rest)) h.is
  where
    go : (b : Bool) → ((T b → ⊥) → Lies (mask y) (reserved y.rest)) → Lies (mask y) (bit_or (cond b (mask y) 0) (reserved y.rest))
    go true f = lies_left (mask y) (reserved y.rest)
    go false f = f (λ t. t)

module _ (v : View) where
  base_reserved : (y : Way) {l : ℕ} (w : Bool) → Hid v l → reserved (base y l w) ≡ kept_locks y
  base_reserved y {l} w h = ap (λ (b : Bool). bit_or (cond (is_open (context y.rest) && not b) (mask y) 0) (reserved y.rest)) (hid_not_open v h) ∙ go (is_open (context y.rest))
    where
      go : (b : Bool) → bit_or (cond (b && true) (mask y) 0) (reserved y.rest) ≡ bit_or (cond b (mask y) 0) (reserved y.rest)
      go true = refl
      go false = refl

  quiet_reserved : {y : Way} {l : ℕ} {w : Bool} {os : List Open} {m : ℕ} → Hid v l → Above v y l w os m → reserved os ≡ kept_locks y
  quiet_reserved {y} {l} {w} h a = above_reserved v h a ∙ base_reserved y w h

  quiet_held : {y : Way} {l : ℕ} {w : Bool} {os : List Open} {m : ℕ} → Hid v l → FitMask y → Above v y l w os m → bit_or (owned os) (reserved os) ≡ bit_or (owned y.rest) (kept_locks y)
  quiet_held {y} {os = os} h f a = ap (bit_or (owned os)) (quiet_reserved h a) ∙ above_owned v a (kept_locks y) (mask_kept y f)

  tr_reserved : {t u : Thread} → TR v t u → reserved t.inside ≡ reserved u.inside
  tr_reserved (same e f) = ap (λ (z : Thread). reserved z.inside) e
  tr_reserved (apart y n l l' w w' h h' m f a b) = quiet_reserved h (quiet_above v a).1 ∙ sym (quiet_reserved h' (quiet_above v b).1)

  tr_held : {t u : Thread} → TR v t u → bit_or (owned t.inside) (reserved t.inside) ≡ bit_or (owned u.inside) (reserved u.inside)
  tr_held (same e f) = ap (λ (z : Thread). bit_or (owned z.inside) (reserved z.inside)) e
  tr_held (apart y n l l' w w' h h' m f a b) = quiet_held h m (quiet_above v a).1 ∙ sym (quiet_held h' m (quiet_above v b).1)

  held_alike : (ts us : List Thread) → length ts ≡ length us → ((i : ℕ) → TR v (get_or ts i ended) (get_or us i ended)) → held_by ts ≡ held_by us
  held_alike [] [] n h = refl
  held_alike [] (u ∷ us) n h = absurd (omega arith)
  held_alike (t ∷ ts) [] n h = absurd (omega arith)
  held_alike (t ∷ ts) (u ∷ us) n h = ap₂ bit_or (tr_held (h 0)) (held_alike ts us (omega arith) (λ i. h (suc i)))

  pub against_alike : (i : ℕ) (ts us : List Thread) → length ts ≡ length us → ((i : ℕ) → TR v (get_or ts i ended) (get_or us i ended)) → against i ts ≡ against i us
  against_alike i [] [] n h = refl
  against_alike i [] (u ∷ us) n h = absurd (omega arith)
  against_alike i (t ∷ ts) [] n h = absurd (omega arith)
  against_alike zero (t ∷ ts) (u ∷ us) n h = ap₂ bit_or (tr_reserved (h 0)) (held_alike ts us (omega arith) (λ i. h (suc i)))
  against_alike (suc i) (t ∷ ts) (u ∷ us) n h = ap₂ bit_or (tr_held (h 0)) (against_alike i ts us (omega arith) (λ i. h (suc i)))

  -- Guards.
  stack_guard : (x : ℕ) (os : List Open) {a b : ℕ} → HadStack v os → LR v a b → LR v (guard_of v.k x os a) (guard_of v.k x os b)
  stack_guard x [] h r = r
  stack_guard x (in_branch l w p q n ∷ os) {a} {b} h r =
      let i = stack_guard x os (had_pop v h) r in
      go (assigned x p q) i (lr_join v i (lr_same v (h.at here)))
    where
      go : (z : Bool) {a b c d : ℕ} → LR v a b → LR v c d → LR v (cond z c a) (cond z d b)
      go true i j = j
      go false i j = i
  stack_guard x (in_loop e b n ∷ os) h r = stack_guard x os (had_pop v h) r
  stack_guard x (in_lock m n ∷ os) h r = stack_guard x os (had_pop v h) r

  above_had : {y : Way} {l : ℕ} {w : Bool} {os : List Open} {n : ℕ} → Above v y l w os n → HadStack v os → HadStack v y.rest
  above_had Above.at_base h = had_pop v h
  above_had (Above.in_br a x y z u) h = above_had a (had_pop v h)
  above_had (Above.in_lk a x y) h = above_had a (had_pop v h)

  quiet_hides : (x : ℕ) {y : Way} {l : ℕ} {w : Bool} {os : List Open} {n : ℕ} (a : ℕ) → Hid v l → Above v y l w os n → HadStack v os → Had v a → T (assigned x y.p y.q) → Hid v (guard_of v.k x os a)
  quiet_hides x {os = os} a h q hs ha t = record { is = λ s. h.is (guard_of_over v x os a (above_in v q) t hs ha s) }

  apart_guard : (x : ℕ) {y : Way} {l l' : ℕ} {w w' : Bool} {os os' : List Open} {n n' a b : ℕ} → Hid v l → Hid v l' → Above v y l w os n → Above v y l' w' os' n'
      → HadStack v os → HadStack v os' → LR v a b → LR v (guard_of v.k x os a) (guard_of v.k x os' b)
  apart_guard x {y} {os = os} {os' = os'} {a = a} {b = b} h h' q q' hs hs' r = ⊎_elim hit miss (either_way (assigned x y.p y.q))
    where
      hit : T (assigned x y.p y.q) → LR v (guard_of v.k x os a) (guard_of v.k x os' b)
      hit t = lr_hid v (guard_of_had v x os a hs r.had_l) (guard_of_had v x os' b hs' r.had_r) (quiet_hides x a h q hs r.had_l t) (quiet_hides x b h' q' hs' r.had_r t)

      miss : (T (assigned x y.p y.q) → ⊥) → LR v (guard_of v.k x os a) (guard_of v.k x os' b)
      miss f = rw (above_guard v x a f q, above_guard v x b f q') (stack_guard x y.rest (above_had q hs) r)

  tr_guard : (x : ℕ) {t u : Thread} {a b : ℕ} → TR v t u → HadStack v t.inside → HadStack v u.inside → LR v a b → LR v (guard_of v.k x t.inside a) (guard_of v.k x u.inside b)
  tr_guard x {t} {u} {a} {b} (same e f) ht hu r = subst (λ (z : Thread). LR v (guard_of v.k x t.inside a) (guard_of v.k x z.inside b)) e (stack_guard x t.inside ht r)
  tr_guard x (apart y n l l' w w' h h' m f a b) ht hu r = apart_guard x h h' (quiet_above v a).1 (quiet_above v b).1 ht hu r

  pub guard_alike : (x : ℕ) (ts us : List Thread) {a b : ℕ} → length ts ≡ length us → ((i : ℕ) → TR v (get_or ts i ended) (get_or us i ended))
      → ((i : ℕ) → HadStack v (get_or ts i ended).inside) → ((i : ℕ) → HadStack v (get_or us i ended).inside) → LR v a b → LR v (guard v.k x ts a) (guard v.k x us b)
  guard_alike x [] [] n h ht hu r = r
  guard_alike x [] (u ∷ us) n h ht hu r = absurd (omega arith)
  guard_alike x (t ∷ ts) [] n h ht hu r = absurd (omega arith)
  guard_alike x (t ∷ ts) (u ∷ us) n h ht hu r = guard_alike x ts us (omega arith) (λ i. h (suc i)) (λ i. ht (suc i)) (λ i. hu (suc i)) (tr_guard x (h 0) (ht 0) (hu 0) r)
