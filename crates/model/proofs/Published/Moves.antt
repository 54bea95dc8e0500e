-- The automaton's state, read off the machine's, when one thread moves.
use Rattle.std.proofs.Common.{◌≡◌, ℕ, ◌<◌, Bool, true, false, cond, not, ◌&&◌, ◌||◌, T, eqb, List, length, get_or, set, sym, refl, ap, ◌∙◌, subst, inl, inr, rules}
use lib.Bits.{bit_or, or_comm}
use Rattle.model.specs.Levels.{is_open}
use Rattle.codec.specs.Expressions.{Expr}
use Rattle.script.specs.Code.{Code, Script}
use Rattle.model.specs.Stretches.{assigns, needs, fixed_time, is_literal_one}
use Rattle.script.specs.Code.Code.{done, skip, assign, put, branch, loop, lock}
use Rattle.model.specs.Values.{Cell, blank, is_zero}
use Rattle.model.specs.Threads.{Open, Thread, ended, owned, reserved, against}
use Rattle.model.specs.Machine.{State, value_of}
use Rattle.model.specs.Automaton.{Q, Pool, apart, stops, either_defines, either_needs, with_w, update}
use Rattle.lattice.specs.Orders.{two_point}
use Rattle.model.specs.Follows.{counted, assigning, all_reserved, word, pool, Same, owned_by, others, asked}
use Rattle.model.proofs.Tests.{by_test, is_true, and_left, and_right, or_left, or_right}
use Rattle.model.proofs.Published.Masks.{test, test_or, test_and, test_xor, mask_ext, differs, apart_bits, bits_apart}
use Rattle.model.proofs.Published.Locks.{holds, of_others, against_split, owned_found, owned_shown, others_found, others_shown, reserved_still}
use Rattle.model.proofs.Published.Sound.{Kept, clear, as_false, assigning_still, set_put, set_either, or_in_left, or_in_right}

pub same_refl : (n : ℕ) (p : Pool) → Same n p p
same_refl n p = record { V = λ x l. refl; secret = λ t. refl; W = λ x. refl; L = refl; w = λ i. refl }

module _ (sc : Script) (s : State) (i : ℕ) where
  -- A thread moves in such a way that the automaton's state becomes q.
  pub moved : (then : State) (t : Thread) (q : Q) → i < length s.threads → then.threads ≡ set s.threads i t →
      ((x : ℕ) → x < sc.variables → not (is_open (get_or then.cells x blank).level) ≡ q.V x) →
      ((y : ℕ) → not (is_open (get_or sc.track_levels y 0)) ≡ q.secret y) →
      ((x : ℕ) → assigning x (set s.threads i t) ≡ q.W x) →
      all_reserved (set s.threads i t) ≡ q.L →
      word t.inside ≡ q.w →
      Same sc.variables (pool sc then) (update (pool sc s) i q)
  moved then t q l et ev es ew el ex = record {
    V = ev;
    secret = es;
    W = λ x. ap (assigning x) et ∙ ew x;
    L = ap all_reserved et ∙ el;
    w = λ j. ap (λ (ts : List Thread). word (get_or ts j ended).inside) et ∙ ap (λ (u : Thread). word u.inside) (set_put s.threads i t j ended l) ∙ go (eqb j i) (get_or s.threads j ended);
  }
    where
      go : (b : Bool) (u : Thread) → word (cond b t u).inside ≡ cond b q.w (word u.inside)
      go true u = ex
      go false u = refl

  -- A thread moves and leaves V, W and L alone.
  pub still : (then : State) (t : Thread) (w : List Bool) → i < length s.threads → then.threads ≡ set s.threads i t →
      ((x : ℕ) → x < sc.variables → not (is_open (get_or then.cells x blank).level) ≡ not (is_open (get_or s.cells x blank).level)) →
      ((x : ℕ) → counted x (get_or s.threads i ended).inside ≡ counted x t.inside) →
      reserved (get_or s.threads i ended).inside ≡ reserved t.inside →
      word t.inside ≡ w →
      Same sc.variables (pool sc then) (update (pool sc s) i (with_w (asked sc s i) w))
  still then t w l et ev ec er ex = moved then t (with_w (asked sc s i) w) l et ev (λ y. refl) (λ x. assigning_still x s.threads i t (ec x)) (reserved_still s.threads i t er) ex

  pub untold : (then : State) (t : Thread) → then.threads ≡ set s.threads i t → then.cells ≡ s.cells →
      ((x : ℕ) → counted x (get_or s.threads i ended).inside ≡ counted x t.inside) →
      reserved (get_or s.threads i ended).inside ≡ reserved t.inside →
      word t.inside ≡ word (get_or s.threads i ended).inside →
      Same sc.variables (pool sc then) (pool sc s)
  untold then t et ev ec er ex = record {
    V = λ x l. ap (λ (cs : List Cell). not (is_open (get_or cs x blank).level)) ev;
    secret = λ y. refl;
    W = λ x. ap (assigning x) et ∙ assigning_still x s.threads i t (ec x);
    L = ap all_reserved et ∙ reserved_still s.threads i t er;
    w = λ j. ap (λ (ts : List Thread). word (get_or ts j ended).inside) et ∙ go j;
  }
    where
      go : (j : ℕ) → word (get_or (set s.threads i t) j ended).inside ≡ word (get_or s.threads j ended).inside
      go j = elim (set_either s.threads i t j ended) [
        | inl e ↦ ap (λ (u : Thread). word u.inside) e
        | inr r ↦ ap (λ (u : Thread). word u.inside) r.1 ∙ ex ∙ ap (λ (k : ℕ). word (get_or s.threads k ended).inside) (sym r.0)
      ]

-- The ways of a branch, as taken and not taken, define and need what the branch does.
pub ways_define : (w : Bool) (p q : Code) (x : ℕ) → either_defines (cond w p q) (cond w q p) x ≡ assigns x p || assigns x q
ways_define w p q x = search rules

pub ways_need : (w : Bool) (p q : Code) → either_needs (cond w p q) (cond w q p) ≡ bit_or (needs p) (needs q)
ways_need true p q = refl
ways_need false p q = or_comm (needs q) (needs p)

-- What takes a fixed time does not stop.
fixed_goes : (c : Code) → T (fixed_time c) → stops c ≡ false
fixed_goes done h = refl
fixed_goes (skip c) h = fixed_goes c h
fixed_goes (assign x e c) h = fixed_goes c h
fixed_goes (put x e c) h = fixed_goes c h
fixed_goes (branch e p q c) h =
    let l = and_left (fixed_time p && fixed_time q) (fixed_time c) h in
    rw (fixed_goes p (and_left (fixed_time p) (fixed_time q) l), fixed_goes q (and_right (fixed_time p) (fixed_time q) l), fixed_goes c (and_right (fixed_time p && fixed_time q) (fixed_time c) h))
fixed_goes (loop e b c) h = absurd h
fixed_goes (lock m e b c) h =
    let l = and_left (is_literal_one e && fixed_time b) (fixed_time c) h in
    rw (is_true (is_literal_one e) (and_left (is_literal_one e) (fixed_time b) l), fixed_goes c (and_right (is_literal_one e && fixed_time b) (fixed_time c) h))

pub ways_go : (w : Bool) (p q : Code) → T (fixed_time p && fixed_time q) → stops (cond w p q) || stops (cond w q p) ≡ false
ways_go true p q h = rw (fixed_goes p (and_left (fixed_time p) (fixed_time q) h), fixed_goes q (and_right (fixed_time p) (fixed_time q) h))
ways_go false p q h = rw (fixed_goes p (and_left (fixed_time p) (fixed_time q) h), fixed_goes q (and_right (fixed_time p) (fixed_time q) h))

-- Literal one is true.
pub literal_true : (sc : Script) (s : State) (e : Expr) → T (is_literal_one e) → is_zero (value_of two_point sc s e) ≡ false
literal_true sc s e h = search rules

-- Apart from two masks.
pub apart_or : (m a b : ℕ) → apart m (bit_or a b) ≡ apart m a && apart m b
apart_or m a b = by_test (apart m a)
    (λ ha. by_test (apart m b)
    (λ hb. is_true (apart m (bit_or a b)) (bits_apart m (bit_or a b) (λ n x y. both n x (rw (test_or n a b) at y) ha hb)) ∙ sym (rw (is_true (apart m a) ha, is_true (apart m b) hb)))
    (λ hb. as_false (apart m (bit_or a b)) (λ h. clear (apart m b) (bits_apart m b (λ n x y. apart_bits m (bit_or a b) n h x (or_in_right n a b y))) hb) ∙ sym (rw (is_true (apart m a) ha) hb)))
    (λ ha. as_false (apart m (bit_or a b)) (λ h. clear (apart m a) (bits_apart m a (λ n x y. apart_bits m (bit_or a b) n h x (or_in_left n a b y))) ha) ∙ sym (rw ha))
  where
    both : (n : ℕ) → T (test n m) → T (test n a || test n b) → T (apart m a) → T (apart m b) → ⊥
    both n x y ha hb = Rattle.model.proofs.Tests.or_cases (test n a) (test n b) (λ u. apart_bits m a n ha x u) (λ u. apart_bits m b n hb x u) y

-- What a thread holds no other thread holds.
module _ {n : ℕ} {cs : List Cell} {ts : List Thread} (K : Kept n cs ts) (i : ℕ) where
  others_are : others i ts ≡ of_others i ts
  others_are = mask_ext (others i ts) (of_others i ts) (λ k. simp (test_xor, test_and) (same (differs (test k (owned_by ts)) (test k (owned_by ts) && test k (owned (get_or ts i ended).inside))) (test k (of_others i ts)) (out k) (back k)))
    where
      same : (a b : Bool) → (T a → T b) → (T b → T a) → a ≡ b
      same true true f g = refl
      same true false f g = absurd (f tt)
      same false true f g = absurd (g tt)
      same false false f g = refl

      parts : (x y : Bool) → T (differs x (x && y)) → T x × (T y → ⊥)
      parts true true h = absurd h
      parts true false h = (tt, (λ z. z))
      parts false y h = absurd h

      whole : (x y : Bool) → T x → (T y → ⊥) → T (differs x (x && y))
      whole true true h f = absurd (f tt)
      whole true false h f = tt
      whole false y h f = absurd h

      owner : (k j : ℕ) → T (test k (owned (get_or ts j ended).inside)) → T (holds k (get_or ts j ended).inside)
      owner k j h = or_left (test k (owned (get_or ts j ended).inside)) (test k (reserved (get_or ts j ended).inside)) h

      out : (k : ℕ) → T (differs (test k (owned_by ts)) (test k (owned_by ts) && test k (owned (get_or ts i ended).inside))) → T (test k (of_others i ts))
      out k h =
          let q = parts (test k (owned_by ts)) (test k (owned (get_or ts i ended).inside)) h in
          let r = owned_found k ts q.0 in
          others_shown k i r.0 ts (λ e. q.1 (subst (λ (j : ℕ). T (test k (owned (get_or ts j ended).inside))) e r.1)) r.1

      back : (k : ℕ) → T (test k (of_others i ts)) → T (differs (test k (owned_by ts)) (test k (owned_by ts) && test k (owned (get_or ts i ended).inside)))
      back k h =
          let r = others_found k i ts h in
          whole (test k (owned_by ts)) (test k (owned (get_or ts i ended).inside)) (owned_shown k r.0 ts r.2) (λ y. r.1 (K.alone k r.0 i (owner k r.0 r.2) (owner k i y)))

  -- What stands against a thread is what it sees to be owned, and what is reserved.
  pub against_others : against i ts ≡ bit_or (others i ts) (all_reserved ts)
  against_others = against_split i ts ∙ ap (λ (m : ℕ). bit_or m (all_reserved ts)) (sym others_are)

  module _ (os : List Open) (ins : (get_or ts i ended).inside ≡ os) where
    pub reserved_mine : (k j : ℕ) → T (test k (reserved os)) → T (holds k (get_or ts j ended).inside) → j ≡ i
    reserved_mine k j h hj = K.alone k j i hj (subst (λ (u : List Open). T (holds k u)) (sym ins) (or_right (test k (owned os)) (test k (reserved os)) h))

    pub reserved_free : (m : ℕ) → ((k : ℕ) → T (test k m) → T (test k (reserved os))) → T (apart m (others i ts))
    reserved_free m f = subst (λ (o : ℕ). T (apart m o)) (sym others_are) (bits_apart m (of_others i ts) (λ k x y. let r = others_found k i ts y in r.1 (reserved_mine k r.0 (f k x) (or_left (test k (owned (get_or ts r.0 ended).inside)) (test k (reserved (get_or ts r.0 ended).inside)) r.2))))
