-- One way of looking at a run: the levels that are seen. The laws of the kind of levels enter the proof of secrecy in this file alone.
use Rattle.std.proofs.Common.{◌≡◌, ℕ, zero, suc, Bool, false, T, ◌⊎◌, List, [], ◌∷◌, get_or, sym, refl, ap, ◌∙◌, subst, ap₂, inl, inr, ⊎_elim, eqb→eq}
use Rattle.lattice.specs.Levels.{Levels}
use Rattle.model.specs.Levels.{is_open, Levelled, all_had}
use Rattle.script.specs.Code.{Script}
use Rattle.model.specs.Secrecy.{Bounded, IsView}
use Rattle.model.proofs.Confidential.Slots.{T_false, either_way}
use Rattle.model.proofs.Tests.{and_left, and_right}

-- What the proof of secrecy is given.
pub record View : Type 0 where
  pub k : Levels
  pub sc : Script
  pub seen : ℕ → Bool
  pub law : Bounded k
  pub levelled : Levelled k sc
  pub view : IsView k seen

had_at : (k : Levels) → T (k.has 0) → (ls : List ℕ) → T (all_had k ls) → (n : ℕ) → T (k.has (get_or ls n 0))
had_at k z [] h n = z
had_at k z (l ∷ ls) h zero = and_left (k.has l) (all_had k ls) h
had_at k z (l ∷ ls) h (suc n) = had_at k z ls (and_right (k.has l) (all_had k ls) h) n

-- A level is one of the codes; it is seen; it is not seen.
pub record Had (v : View) (l : ℕ) : Type 0 where
  pub is : T (v.k.has l)

pub record Seen (v : View) (l : ℕ) : Type 0 where
  pub is : T (v.seen l)

pub record Hid (v : View) (l : ℕ) : Type 0 where
  pub is : Seen v l → ⊥

module _ (v : View) where
  pub seen_or_hid : (l : ℕ) → Seen v l ⊎ Hid v l
  seen_or_hid l = ⊎_elim (λ s. inl (record { is = s })) (λ h. inr (record { is = λ s. h s.is })) (either_way (v.seen l))

  pub seen_path : {a b : ℕ} → a ≡ b → Seen v a → Seen v b
  seen_path e s = subst (Seen v) e s

  pub had_zero : Had v 0
  had_zero = record { is = v.law.open_has }

  pub track_had : (t : ℕ) → Had v (get_or v.sc.track_levels t 0)
  track_had t = record { is = had_at v.k v.law.open_has v.sc.track_levels v.levelled.track_codes t }

  pub channel_had : (h : ℕ) → Had v (get_or v.sc.channel_levels h 0)
  channel_had h = record { is = had_at v.k v.law.open_has v.sc.channel_levels v.levelled.channel_codes h }

  pub join_had : {a b : ℕ} → Had v a → Had v b → Had v (v.k.join a b)
  join_had {a} {b} p q = record { is = v.law.join_has a b p.is q.is }

  pub seen_down : {a b : ℕ} → Had v a → Had v b → T (v.k.flows a b) → Seen v b → Seen v a
  seen_down {a} {b} p q f s = record { is = v.view.down a b p.is q.is f s.is }

  pub seen_left : {a b : ℕ} → Had v a → Had v b → Seen v (v.k.join a b) → Seen v a
  seen_left {a} {b} p q s = seen_down p (join_had p q) (v.law.join_left a b p.is q.is) s

  pub seen_right : {a b : ℕ} → Had v a → Had v b → Seen v (v.k.join a b) → Seen v b
  seen_right {a} {b} p q s = seen_down q (join_had p q) (v.law.join_right a b p.is q.is) s

  pub hid_left : {a b : ℕ} → Had v a → Had v b → Hid v a → Hid v (v.k.join a b)
  hid_left p q h = record { is = λ s. h.is (seen_left p q s) }

  pub hid_right : {a b : ℕ} → Had v a → Had v b → Hid v b → Hid v (v.k.join a b)
  hid_right p q h = record { is = λ s. h.is (seen_right p q s) }

  pub seen_open : (l : ℕ) → T (is_open l) → Seen v l
  seen_open l t = subst (Seen v) (sym (eqb→eq l 0 t)) (record { is = v.view.open_seen })

  pub hid_not_open : {l : ℕ} → Hid v l → is_open l ≡ false
  hid_not_open {l} h = T_false (is_open l) (λ t. h.is (seen_open l t))

-- Two levels that look the same: both are codes, and if either is seen they are equal.
pub record LR (v : View) (a b : ℕ) : Type 0 where
  pub had_l : Had v a
  pub had_r : Had v b
  pub from_l : Seen v a → a ≡ b
  pub from_r : Seen v b → a ≡ b

module _ (v : View) where
  pub lr_same : {a : ℕ} → Had v a → LR v a a
  lr_same h = record { had_l = h; had_r = h; from_l = λ s. refl; from_r = λ s. refl }

  pub lr_zero : LR v 0 0
  lr_zero = lr_same (had_zero v)

  pub lr_hid : {a b : ℕ} → Had v a → Had v b → Hid v a → Hid v b → LR v a b
  lr_hid p q x y = record { had_l = p; had_r = q; from_l = λ s. absurd (x.is s); from_r = λ s. absurd (y.is s) }

  pub lr_join : {a b c d : ℕ} → LR v a b → LR v c d → LR v (v.k.join a c) (v.k.join b d)
  lr_join p q = record {
    had_l = join_had v p.had_l q.had_l;
    had_r = join_had v p.had_r q.had_r;
    from_l = λ s. ap₂ v.k.join (p.from_l (seen_left v p.had_l q.had_l s)) (q.from_l (seen_right v p.had_l q.had_l s));
    from_r = λ s. ap₂ v.k.join (p.from_r (seen_left v p.had_r q.had_r s)) (q.from_r (seen_right v p.had_r q.had_r s));
  }

  pub lr_hid_right : {a b : ℕ} → LR v a b → Hid v a → Hid v b
  lr_hid_right p h = record { is = λ s. h.is (seen_path v (sym (p.from_r s)) s) }

  pub lr_open : {a b : ℕ} → LR v a b → is_open a ≡ is_open b
  lr_open {a} {b} p = ⊎_elim left (λ na. ⊎_elim right (λ nb. T_false (is_open a) na ∙ sym (T_false (is_open b) nb)) (either_way (is_open b))) (either_way (is_open a))
    where
      left : T (is_open a) → is_open a ≡ is_open b
      left t = ap is_open (p.from_l (seen_open v a t))

      right : T (is_open b) → is_open a ≡ is_open b
      right t = ap is_open (p.from_r (seen_open v b t))
