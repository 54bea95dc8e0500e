-- What holds of one run by itself: levels are codes, and a variable that an entered branch assigns has a level at least as high as the branch's.
use Rattle.std.proofs.Common.{ℕ, zero, suc, ◌<◌, Bool, cond, ◌||◌, T, List, [], ◌∷◌, length, get_or, subst}
use Rattle.codec.specs.Expressions.{Expr}
use Rattle.script.specs.Code.{Code}
use Rattle.model.specs.Stretches.{assigns}
use Rattle.model.specs.Values.{Cell, blank}
use Rattle.model.specs.Threads.{Open, Thread, ended, guard_of, guard}
use Rattle.model.specs.Threads.Open.{in_branch, in_loop, in_lock}
use Rattle.model.proofs.Confidential.Slots.{cond_ind}
use Rattle.model.proofs.Tests.{is_true}
use Rattle.model.proofs.Confidential.View.{View, Had, Seen, seen_left, seen_right, join_had}
use Rattle.model.proofs.Confidential.Agree.{HadCells}

-- Branch (l, p, q) is among these blocks.
pub data In (l : ℕ) (p q : Code) : List Open → Type 0 where
  here : {w : Bool} {n : Code} {os : List Open} → In l p q (in_branch l w p q n ∷ os)
  there : {o : Open} {os : List Open} → In l p q os → In l p q (o ∷ os)

abbrev pub assigned : ℕ → Code → Code → Bool
assigned x p q = assigns x p || assigns x q

pub record HadStack (v : View) (os : List Open) : Type 0 where
  pub at : {l : ℕ} {p q : Code} → In l p q os → Had v l

pub record Guards (v : View) (cs : List Cell) (os : List Open) : Type 0 where
  pub had : HadStack v os
  pub over : {l : ℕ} {p q : Code} → In l p q os → (x : ℕ) → x < length cs → T (assigned x p q) → Seen v (get_or cs x blank).level → Seen v l

pub record Sound (v : View) (cs : List Cell) (ts : List Thread) : Type 0 where
  pub cells : HadCells v cs
  pub guards : (i : ℕ) → Guards v cs (get_or ts i ended).inside

in_nil : {A : Type 0} {l : ℕ} {p q : Code} → In l p q [] → A
in_nil m = elim m [ ]

in_loop_out : {l : ℕ} {p q : Code} {e : Expr} {b n : Code} {os : List Open} → In l p q (in_loop e b n ∷ os) → In l p q os
in_loop_out (there m) = m

in_lock_out : {l : ℕ} {p q : Code} {m : ℕ} {n : Code} {os : List Open} → In l p q (in_lock m n ∷ os) → In l p q os
in_lock_out (there m) = m

in_branch_out : (P : ℕ → Code → Code → Type 0) {l : ℕ} {p q : Code} {l' : ℕ} {w : Bool} {p' q' n : Code} {os : List Open}
    → In l p q (in_branch l' w p' q' n ∷ os) → P l' p' q' → (In l p q os → P l p q) → P l p q
in_branch_out P here h f = h
in_branch_out P (there m) h f = f m

module _ (v : View) where
  pub had_pop : {o : Open} {os : List Open} → HadStack v (o ∷ os) → HadStack v os
  had_pop h = record { at = λ m. h.at (there m) }

  pub guards_nil : (cs : List Cell) → Guards v cs []
  guards_nil cs = record { had = record { at = λ m. in_nil m }; over = λ m. in_nil m }

  pub guards_pop : {cs : List Cell} {o : Open} {os : List Open} → Guards v cs (o ∷ os) → Guards v cs os
  guards_pop h = record { had = had_pop h.had; over = λ m. h.over (there m) }

  pub guards_loop : {cs : List Cell} {os : List Open} (e : Expr) (b n : Code) → Guards v cs os → Guards v cs (in_loop e b n ∷ os)
  guards_loop e b n h = record { had = record { at = λ m. h.had.at (in_loop_out m) }; over = λ m. h.over (in_loop_out m) }

  pub guards_lock : {cs : List Cell} {os : List Open} (m : ℕ) (n : Code) → Guards v cs os → Guards v cs (in_lock m n ∷ os)
  guards_lock m n h = record { had = record { at = λ x. h.had.at (in_lock_out x) }; over = λ x. h.over (in_lock_out x) }

  pub guards_branch : {cs : List Cell} {os : List Open} (l : ℕ) (w : Bool) (p q n : Code) → Had v l
      → ((x : ℕ) → x < length cs → T (assigned x p q) → Seen v (get_or cs x blank).level → Seen v l)
      → Guards v cs os → Guards v cs (in_branch l w p q n ∷ os)
  guards_branch {cs} l w p q n hl f h = record {
    had = record { at = λ m. in_branch_out (λ a b c. Had v a) m hl h.had.at };
    over = λ m. in_branch_out (λ a b c. (x : ℕ) → x < length cs → T (assigned x b c) → Seen v (get_or cs x blank).level → Seen v a) m f (λ m'. h.over m');
  }

  -- The guard is a code, and at least as high as every branch that it goes by.
  pub guard_of_had : (x : ℕ) (os : List Open) (acc : ℕ) → HadStack v os → Had v acc → Had v (guard_of v.k x os acc)
  guard_of_had x [] acc h a = a
  guard_of_had x (in_branch l w p q n ∷ os) acc h a =
      let r = guard_of_had x os acc (had_pop h) a in
      cond_ind (Had v) (assigned x p q) _ _ (λ t. join_had v r (h.at here)) (λ t. r)
  guard_of_had x (in_loop e b n ∷ os) acc h a = guard_of_had x os acc (had_pop h) a
  guard_of_had x (in_lock m n ∷ os) acc h a = guard_of_had x os acc (had_pop h) a

  pub guard_of_acc : (x : ℕ) (os : List Open) (acc : ℕ) → HadStack v os → Had v acc → Seen v (guard_of v.k x os acc) → Seen v acc
  guard_of_acc x [] acc h a s = s
  guard_of_acc x (in_branch l w p q n ∷ os) acc h a s =
      cond_ind (λ (g : ℕ). Seen v g → Seen v acc) (assigned x p q) _ _
      (λ t z. guard_of_acc x os acc (had_pop h) a (seen_left v (guard_of_had x os acc (had_pop h) a) (h.at here) z))
      (λ t z. guard_of_acc x os acc (had_pop h) a z) s
  guard_of_acc x (in_loop e b n ∷ os) acc h a s = guard_of_acc x os acc (had_pop h) a s
  guard_of_acc x (in_lock m n ∷ os) acc h a s = guard_of_acc x os acc (had_pop h) a s

  pub guard_of_over : (x : ℕ) {l : ℕ} {p q : Code} (os : List Open) (acc : ℕ) → In l p q os → T (assigned x p q) → HadStack v os → Had v acc → Seen v (guard_of v.k x os acc) → Seen v l
  guard_of_over x {l} {p} {q} (in_branch l' w p' q' n ∷ os) acc m y h a s =
      let out = guard_of_had x os acc (had_pop h) a in
      in_branch_out (λ a b c. T (assigned x b c) → Seen v (cond (assigned x p' q') (v.k.join (guard_of v.k x os acc) l') (guard_of v.k x os acc)) → Seen v a) m
      (λ t z. seen_right v out (h.at here) (subst (λ (b : Bool). Seen v (cond b (v.k.join (guard_of v.k x os acc) l') (guard_of v.k x os acc))) (is_true _ t) z))
      (λ m' t z. guard_of_over x os acc m' t (had_pop h) a
      (cond_ind (λ (g : ℕ). Seen v g → Seen v (guard_of v.k x os acc)) (assigned x p' q') _ _ (λ _ z. seen_left v out (h.at here) z) (λ _ z. z) z))
      y s
  guard_of_over x (in_loop e b n ∷ os) acc m y h a s = guard_of_over x os acc (in_loop_out m) y (had_pop h) a s
  guard_of_over x (in_lock k n ∷ os) acc m y h a s = guard_of_over x os acc (in_lock_out m) y (had_pop h) a s
  guard_of_over x [] acc m y h a s = in_nil m

  pub guard_had : (x : ℕ) (ts : List Thread) (acc : ℕ) → ((i : ℕ) → HadStack v (get_or ts i ended).inside) → Had v acc → Had v (guard v.k x ts acc)
  guard_had x [] acc h a = a
  guard_had x (t ∷ ts) acc h a = guard_had x ts _ (λ i. h (suc i)) (guard_of_had x t.inside acc (h 0) a)

  pub guard_acc : (x : ℕ) (ts : List Thread) (acc : ℕ) → ((i : ℕ) → HadStack v (get_or ts i ended).inside) → Had v acc → Seen v (guard v.k x ts acc) → Seen v acc
  guard_acc x [] acc h a s = s
  guard_acc x (t ∷ ts) acc h a s =
      guard_of_acc x t.inside acc (h 0) a (guard_acc x ts _ (λ i. h (suc i)) (guard_of_had x t.inside acc (h 0) a) s)

  pub guard_over : (x : ℕ) {l : ℕ} {p q : Code} (i : ℕ) (ts : List Thread) (acc : ℕ) → In l p q (get_or ts i ended).inside → T (assigned x p q)
      → ((i : ℕ) → HadStack v (get_or ts i ended).inside) → Had v acc → Seen v (guard v.k x ts acc) → Seen v l
  guard_over x i [] acc m y h a s = in_nil m
  guard_over x zero (t ∷ ts) acc m y h a s =
      guard_of_over x t.inside acc m y (h 0) a (guard_acc x ts _ (λ i. h (suc i)) (guard_of_had x t.inside acc (h 0) a) s)
  guard_over x (suc i) (t ∷ ts) acc m y h a s = guard_over x i ts _ m y (λ j. h (suc j)) (guard_of_had x t.inside acc (h 0) a) s
