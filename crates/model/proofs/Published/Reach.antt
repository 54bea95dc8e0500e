-- Every state that a run reaches keeps what Sound says.
use Rattle.std.proofs.Common.{◌≡◌, ℕ, zero, suc, ◌+◌, ◌<◌, ◌≤◌, Bool, true, false, cond, not, ◌&&◌, ◌||◌, T, eqb, List, [], ◌∷◌, map, length, get_or, set, sym, refl, ap, ◌∙◌, subst, inl, inr, arith, eqb→eq, length-set, rules}
use lib.ListN.{length-replicate}
use lib.Bits.{bit_or}
use Rattle.model.specs.Levels.{is_open}
use Rattle.codec.specs.Expressions.{Expr}
use Rattle.script.specs.Code.{Code, Script}
use Rattle.model.specs.Stretches.{assigns, needs, fixed_time}
use Rattle.script.specs.Code.Code.{done, skip, assign, put, branch, loop, lock}
use Rattle.model.specs.Values.{Cell, blank, is_zero}
use Rattle.model.specs.Threads.{Open, Pace, Thread, ended, context, owned, reserved, against, clash, guard, at_code, at_idle}
use Rattle.model.specs.Machine.{State, level_of, value_of, chosen_status, status_at, status_is_ready, raise, lag, close_branch, step_at}
use Rattle.model.specs.Threads.Open.{in_branch, in_loop, in_lock}
use Rattle.model.specs.Threads.Pace.{running, idling}
use Rattle.model.specs.Calls.{begin}
use Rattle.model.specs.Automaton.{apart}
use Rattle.lattice.specs.Orders.{two_point}
use Rattle.model.specs.Follows.{outermost, counted, assigning, Reached}
use Rattle.model.specs.Follows.Reached.{start, turn, rest, fed}
use Rattle.model.proofs.Tests.{by_test, is_true, and_left, and_right, and_false, or_cases, set_all, or_left, or_right}
use Rattle.model.proofs.Published.Masks.{test, test_or, test_zero, apart_bits}
use Rattle.model.proofs.Published.Opens.{open_join, not_not}
use Rattle.model.proofs.Published.Locks.{holds, against_shown}
use Rattle.model.proofs.Published.Sound.{Bound, Sound, Good, Kept, clear, guard_assigning, assigning_still, assigning_fewer, set_get, set_either, within_done, within_assign, within_next, within_body, within_after, within_locks, or_in_right}
use Rattle.model.proofs.Puts.{put_cells, put_threads}

and_true : (b : Bool) → b && true ≡ b
and_true true = refl
and_true false = refl

-- Raised cells

pub length_raise : (marked : ℕ → Bool) (l x : ℕ) (cs : List Cell) → length (raise two_point marked l x cs) ≡ length cs
length_raise marked l x [] = refl
length_raise marked l x (c ∷ cs) = ap suc (length_raise marked l (suc x) cs)

raise_from : (marked : ℕ → Bool) (l x : ℕ) (cs : List Cell) (y : ℕ) → y < length cs → is_open (get_or (raise two_point marked l x cs) y blank).level ≡ is_open (get_or cs y blank).level && not (marked (x + y) && not (is_open l))
raise_from marked l x [] y h = absurd (omega arith)
raise_from marked l x (c ∷ cs) zero h =
    let e : x + 0 ≡ x = omega arith in
    rw e (pick (marked x))
  where
    pick : (b : Bool) → is_open (cond b (record { value = c.value; level = two_point.join c.level l }) c).level ≡ is_open c.level && not (b && not (is_open l))
    pick true = open_join c.level l ∙ ap (λ (b : Bool). is_open c.level && b) (sym (not_not (is_open l)))
    pick false = sym (and_true (is_open c.level))
raise_from marked l x (c ∷ cs) (suc y) h =
    let e : x + suc y ≡ suc x + y = omega arith in
    rw e (raise_from marked l (suc x) cs y (omega arith))

pub raise_at : (marked : ℕ → Bool) (l : ℕ) (cs : List Cell) (y : ℕ) → y < length cs → is_open (get_or (raise two_point marked l 0 cs) y blank).level ≡ is_open (get_or cs y blank).level && not (marked y && not (is_open l))
raise_at marked l cs y h =
    let e : 0 + y ≡ y = omega arith in
    raise_from marked l 0 cs y h ∙ ap (λ (n : ℕ). is_open (get_or cs y blank).level && not (marked n && not (is_open l))) e

-- One thread changes

pub more_than_none : (a b : ℕ) → a ≤ b → eqb a 0 ≡ false → eqb b 0 ≡ false
more_than_none a b h e = search rules

module _ {n : ℕ} {cs : List Cell} {ts : List Thread} (K : Kept n cs ts) (i : ℕ) (t : Thread) (g : Good t) where
  kept_set : (cs' : List Cell) → length cs' ≡ n →
      ((k j : ℕ) → T (holds k t.inside) → T (holds k (get_or ts j ended).inside) → j ≡ i) →
      ((x : ℕ) → x < n → eqb (assigning x (set ts i t)) 0 ≡ false → is_open (get_or cs' x blank).level ≡ false) →
      Kept n cs' (set ts i t)
  kept_set cs' long fresh raised = record {
    long = long;
    good = set_all (λ (j : ℕ) (u : Thread). Good u) ended ts i t K.good g;
    alone = alone;
    raised = raised;
  }
    where
      as-new : (k a : ℕ) → get_or (set ts i t) a ended ≡ t → T (holds k (get_or (set ts i t) a ended).inside) → T (holds k t.inside)
      as-new k a e h = subst (λ (u : Thread). T (holds k u.inside)) e h

      as-old : (k a : ℕ) → get_or (set ts i t) a ended ≡ get_or ts a ended → T (holds k (get_or (set ts i t) a ended).inside) → T (holds k (get_or ts a ended).inside)
      as-old k a e h = subst (λ (u : Thread). T (holds k u.inside)) e h

      alone : (k a b : ℕ) → T (holds k (get_or (set ts i t) a ended).inside) → T (holds k (get_or (set ts i t) b ended).inside) → a ≡ b
      alone k a b ha hb = elim (set_either ts i t a ended) [
        | inl ea ↦ elim (set_either ts i t b ended) [
          | inl eb ↦ K.alone k a b (as-old k a ea ha) (as-old k b eb hb)
          | inr eb ↦ fresh k a (as-new k b eb.1 hb) (as-old k a ea ha) ∙ sym eb.0
        ]
        | inr ea ↦ elim (set_either ts i t b ended) [
          | inl eb ↦ ea.0 ∙ sym (fresh k b (as-new k a ea.1 ha) (as-old k b eb hb))
          | inr eb ↦ ea.0 ∙ sym eb.0
        ]
      ]

  -- A thread that holds and guards no more than it did.
  kept_less : (os : List Open) → (get_or ts i ended).inside ≡ os → ((k : ℕ) → T (holds k t.inside) → T (holds k os)) → ((x : ℕ) → counted x t.inside ≤ counted x os) → Kept n cs (set ts i t)
  kept_less os ins less fewer =
      kept_set cs K.long
      (λ k j h hj. K.alone k j i hj (subst (λ (u : List Open). T (holds k u)) (sym ins) (less k h)))
      (λ x l e. K.raised x l (more_than_none (assigning x (set ts i t)) (assigning x ts) (assigning_fewer x ts i t (subst (λ (u : List Open). counted x t.inside ≤ counted x u) (sym ins) (fewer x))) e))

-- Ready threads

pub ready_parts : (b w : Bool) → T (status_is_ready (chosen_status b w)) → (b ≡ false) × (w ≡ false)
ready_parts b w h = search rules

cond_less : (b : Bool) (n : ℕ) → n ≤ cond b (suc n) n
cond_less true n = omega arith
cond_less false n = omega arith

-- A way of a branch, just entered.
in_fact : (c : ℕ) (po lo a : Bool) → lo ≡ false → T a → (po ≡ false → eqb c 0 ≡ false) → eqb (cond ((po && not lo) && a) (suc c) c) 0 ≡ false
in_fact c po lo a e h f = search rules

need_fact : (n need r : ℕ) (po lo : Bool) → lo ≡ false → T (test n need) → (po ≡ false → T (test n r)) → T (test n (bit_or (cond (po && not lo) need 0) r))
need_fact n need r true false e h f = rw (test_or n need r) (or_left (test n need) (test n r) h)
need_fact n need r true true e h f = clear true tt e
need_fact n need r false lo e h f = f refl

way_bound : (l : ℕ) (w : Bool) (p q next c : Code) (os : List Open) → Sound (in_branch l w p q next ∷ os) → ((x : ℕ) → T (assigns x c) → T (assigns x p || assigns x q)) → ((n : ℕ) → T (test n (needs c)) → T (test n (bit_or (needs p) (needs q)))) → (T (fixed_time p && fixed_time q) → T (fixed_time c)) → Bound c (in_branch l w p q next ∷ os)
way_bound l w p q next c os h f g k o = (
  (λ x a. in_fact (counted x os) (is_open (context os)) (is_open l) (assigns x p || assigns x q) o (f x a) (λ z. (h.2 z).0 x (or_left (assigns x p || assigns x q) (assigns x next) (f x a)))),
  (λ n a. need_fact n (bit_or (needs p) (needs q)) (reserved os) (is_open (context os)) (is_open l) o (g n a) (λ z. (h.2 z).1 n (rw (test_or n (bit_or (needs p) (needs q)) (needs next)) (or_left (test n (bit_or (needs p) (needs q))) (test n (needs next)) (g n a))))),
  k (h.1 o),
)

ways_bound : (l : ℕ) (w : Bool) (p q next : Code) (os : List Open) → Sound (in_branch l w p q next ∷ os) → (v : Bool) → Bound (cond v p q) (in_branch l w p q next ∷ os)
ways_bound l w p q next os h true = way_bound l w p q next p os h (λ x a. or_left (assigns x p) (assigns x q) a) (λ n a. rw (test_or n (needs p) (needs q)) (or_left (test n (needs p)) (test n (needs q)) a)) (λ a. and_left (fixed_time p) (fixed_time q) a)
ways_bound l w p q next os h false = way_bound l w p q next q os h (λ x a. or_right (assigns x p) (assigns x q) a) (λ n a. rw (test_or n (needs p) (needs q)) (or_right (test n (needs p)) (test n (needs q)) a)) (λ a. and_right (fixed_time p) (fixed_time q) a)

implied : (a b : Bool) → not a && not b ≡ false → b ≡ false → T a
implied a b e h = search rules

module _ (sc : Script) (s : State) (K : Kept sc.variables s.cells s.threads) (i : ℕ) where
  -- What a branch that is ready has about it.
  pub record Enter (e : Expr) (p q c : Code) (os : List Open) (w : Bool) : Type 0 where
    pub sound : Sound (in_branch (two_point.join (context os) (level_of two_point sc s e)) w p q c ∷ os)
    pub free : T (outermost (two_point.join (context os) (level_of two_point sc s e)) os) → T (apart (bit_or (needs p) (needs q)) (against i s.threads))

  pub enter : (e : Expr) (p q c : Code) (os : List Open) (w : Bool) → Sound os → Bound (branch e p q c) os → T (status_is_ready (status_at two_point sc s i (branch e p q c) running os)) → Enter e p q c os w
  enter e p q c os w so bo r = record {
    sound = (
      (λ o. and_left (is_open (context os)) (is_open (level_of two_point sc s e)) (subst T (open_join (context os) (level_of two_point sc s e)) o)),
      implied (fixed_time p && fixed_time q) (is_open (two_point.join (context os) (level_of two_point sc s e))) parts.0,
      bo,
      so,
    );
    free = free (outermost (two_point.join (context os) (level_of two_point sc s e)) os) (apart (bit_or (needs p) (needs q)) (against i s.threads)) parts.1;
  }
    where
      parts : (not (fixed_time p && fixed_time q) && not (is_open (two_point.join (context os) (level_of two_point sc s e))) ≡ false) × (outermost (two_point.join (context os) (level_of two_point sc s e)) os && clash (bit_or (needs p) (needs q)) (against i s.threads) ≡ false)
      parts = ready_parts _ _ r

      free : (a b : Bool) → a && not b ≡ false → T a → T b
      free true true f h = tt
      free true false f h = clear true tt f
      free false b f h = absurd h

  -- What holds of a thread's blocks as they are in the list.
  module _ (os : List Open) (ins : (get_or s.threads i ended).inside ≡ os) where
    mine : (k j : ℕ) → T (holds k os) → T (holds k (get_or s.threads j ended).inside) → j ≡ i
    mine k j h hj = K.alone k j i hj (subst (λ (u : List Open). T (holds k u)) (sym ins) h)

    new_lock : (m k j : ℕ) → T (apart m (against i s.threads)) → T (test k m) → T (holds k (get_or s.threads j ended).inside) → j ≡ i
    new_lock m k j f h hj = elim (against_shown k i j s.threads hj) [ inl e ↦ e | inr a ↦ absurd (apart_bits m (against i s.threads) k f h a) ]

    closed : (l : ℕ) (w : Bool) (p q next : Code) (outer : List Open) → os ≡ in_branch l w p q next ∷ outer → Sound (in_branch l w p q next ∷ outer) → (left : ℕ) →
        Kept sc.variables s.cells (set s.threads i (close_branch left (in_branch l w p q next) outer next))
    closed l w p q next outer e h zero =
        kept_less K i (at_code next outer) (h.3, (λ o. within_next outer [] p q next (h.2 o))) (in_branch l w p q next ∷ outer) (ins ∙ e)
        (λ k a. or_cases (test k (owned outer)) (test k (reserved outer)) (λ b. or_left _ _ b) (λ b. or_right _ _ (or_in_right k (cond (outermost l outer) (bit_or (needs p) (needs q)) 0) (reserved outer) b)) a)
        (λ x. cond_less (outermost l outer && (assigns x p || assigns x q)) (counted x outer))
    closed l w p q next outer e h (suc left) =
        kept_less K i (at_idle left (in_branch l w p q next ∷ outer)) (h, (λ o. within_done (in_branch l w p q next ∷ outer))) (in_branch l w p q next ∷ outer) (ins ∙ e) (λ k a. a) (λ x. omega arith)

  pub step_kept : (c : Code) (pace : Pace) (os : List Open) → (get_or s.threads i ended).inside ≡ os → Sound os → Bound c os → T (status_is_ready (status_at two_point sc s i c pace os)) →
      Kept sc.variables (step_at two_point sc s i c pace os).cells (step_at two_point sc s i c pace os).threads
  unfolding step_at
  step_kept c (idling n) [] ins so bo r = K
  step_kept c (idling n) (in_branch l w p q next ∷ os) ins so bo r = closed (in_branch l w p q next ∷ os) ins l w p q next os refl so n
  step_kept c (idling n) (in_loop e b next ∷ os) ins so bo r = K
  step_kept c (idling n) (in_lock m next ∷ os) ins so bo r = K
  step_kept done running [] ins so bo r = K
  step_kept done running (in_branch l w p q next ∷ os) ins so bo r = closed (in_branch l w p q next ∷ os) ins l w p q next os refl so (lag w p q)
  step_kept done running (in_loop e b next ∷ os) ins so bo r = kept_less K i (at_code (loop e b next) os) (so.1, so.0) (in_loop e b next ∷ os) ins (λ k a. a) (λ x. omega arith)
  step_kept done running (in_lock m next ∷ os) ins so bo r =
      kept_less K i (at_code next os) (so.1, so.0) (in_lock m next ∷ os) ins
      (λ k a. or_cases (test k (owned os)) (test k (reserved os)) (λ b. or_left _ _ (or_in_right k m (owned os) b)) (λ b. or_right _ _ b) a)
      (λ x. omega arith)
  step_kept (skip c) running os ins so bo r = kept_less K i (at_code c os) (so, bo) os ins (λ k a. a) (λ x. omega arith)
  step_kept (assign x e c) running os ins so bo r =
      kept_set K i (at_code c os) (so, (λ o. within_assign os x e c (bo o))) (set s.cells x cell) (length-set s.cells x cell ∙ K.long)
      (λ k j h hj. mine os ins k j h hj)
      (λ y l f. raised y l (sym (assigning_still y s.threads i (at_code c os) (ap (counted y) ins)) ∙ refl) f)
    where
      cell : Cell
      cell = record { value = value_of two_point sc s e; level = two_point.join (level_of two_point sc s e) (guard two_point x s.threads 0) }

      raised : (y : ℕ) → y < sc.variables → assigning y s.threads ≡ assigning y (set s.threads i (at_code c os)) → eqb (assigning y (set s.threads i (at_code c os))) 0 ≡ false → is_open (get_or (set s.cells x cell) y blank).level ≡ false
      raised y l same f =
          let inside : y < length s.cells = subst (λ (k : ℕ). y < k) (sym K.long) l in
          subst (λ (u : Cell). is_open u.level ≡ false) (sym (set_get s.cells x cell y blank inside)) (go (eqb y x) (eqb→eq y x))
        where
          before : eqb (assigning y s.threads) 0 ≡ false
          before = ap (λ (k : ℕ). eqb k 0) same ∙ f

          go : (b : Bool) → (T b → y ≡ x) → is_open (cond b cell (get_or s.cells y blank)).level ≡ false
          go true h =
              open_join (level_of two_point sc s e) (guard two_point x s.threads 0)
              ∙ ap (λ (b : Bool). is_open (level_of two_point sc s e) && b) (guard_assigning x s.threads 0 K.good ∙ ap (λ (z : ℕ). eqb (assigning z s.threads) 0) (sym (h tt)) ∙ before)
              ∙ and_false (is_open (level_of two_point sc s e))
          go false h = K.raised y l before
  step_kept (put h e c) running os ins so bo r =
      rw (put_cells two_point sc s i h e os, put_threads two_point sc s i h e os) (kept_less K i (at_code c os) (so, bo) os ins (λ k a. a) (λ x. omega arith))
  step_kept (branch e p q c) running os ins so bo r =
      let way = not (is_zero (value_of two_point sc s e)) in
      let l = two_point.join (context os) (level_of two_point sc s e) in
      let E = enter e p q c os way so bo r in
      kept_set K i (at_code (cond way p q) (in_branch l way p q c ∷ os)) (E.sound, ways_bound l way p q c os E.sound way) (raise two_point (λ x. assigns x p || assigns x q) l 0 s.cells) (length_raise (λ x. assigns x p || assigns x q) l 0 s.cells ∙ K.long)
      (λ k j h hj.
      or_cases (test k (owned os)) (test k (bit_or (cond (outermost l os) (bit_or (needs p) (needs q)) 0) (reserved os)))
      (λ a. mine os ins k j (or_left _ _ a) hj)
      (λ a. or_cases (test k (cond (outermost l os) (bit_or (needs p) (needs q)) 0)) (test k (reserved os))
      (λ b. let u = picked (bit_or (needs p) (needs q)) k (outermost l os) b in new_lock os ins (bit_or (needs p) (needs q)) k j (E.free u.0) u.1 hj)
      (λ b. mine os ins k j (or_right _ _ b) hj)
      (rw (test_or k (cond (outermost l os) (bit_or (needs p) (needs q)) 0) (reserved os)) at a)) h)
      (λ y h f.
      let within : y < length s.cells = subst (λ (k : ℕ). y < k) (sym K.long) h in
      let at = raise_at (λ x. assigns x p || assigns x q) l s.cells y within in
      by_test ((assigns y p || assigns y q) && not (is_open l))
      (λ a. at ∙ ap (λ (b : Bool). is_open (get_or s.cells y blank).level && not b) (is_true ((assigns y p || assigns y q) && not (is_open l)) a) ∙ and_false (is_open (get_or s.cells y blank).level))
      (λ g.
      let same = assigning_still y s.threads i (at_code (cond way p q) (in_branch l way p q c ∷ os)) (ap (counted y) ins ∙ sym (unmoved (is_open (context os)) (is_open l) (assigns y p || assigns y q) (counted y os) g)) in
      at ∙ ap (λ (b : Bool). b && not ((assigns y p || assigns y q) && not (is_open l))) (K.raised y h (ap (λ (k : ℕ). eqb k 0) (sym same) ∙ f))))
    where
      picked : (need k : ℕ) (b : Bool) → T (test k (cond b need 0)) → T b × T (test k need)
      picked need k true h = (tt, h)
      picked need k false h = absurd (rw (test_zero k) at h)

      unmoved : (po lo m : Bool) (n : ℕ) → m && not lo ≡ false → cond ((po && not lo) && m) (suc n) n ≡ n
      unmoved true true m n g = refl
      unmoved true false true n g = clear true tt g
      unmoved true false false n g = refl
      unmoved false lo m n g = refl
  step_kept (loop e b c) running os ins so bo r = go (is_zero (value_of two_point sc s e))
    where
      go : (z : Bool) → Kept sc.variables s.cells (set s.threads i (cond z (at_code c os) (at_code b (in_loop e b c ∷ os))))
      go true = kept_less K i (at_code c os) (so, (λ o. absurd (bo o).2)) os ins (λ k a. a) (λ x. omega arith)
      go false = kept_less K i (at_code b (in_loop e b c ∷ os)) ((bo, so), (λ o. absurd (bo o).2)) os ins (λ k a. a) (λ x. omega arith)
  step_kept (lock m e b c) running os ins so bo r =
      kept_set K i (at_code b (in_lock m c ∷ os)) (((λ o. within_after os m e b c (bo o)), so), (λ o. within_body os m e b c (bo o))) s.cells K.long
      (λ k j h hj.
      or_cases (test k (bit_or m (owned os))) (test k (reserved os))
      (λ a. or_cases (test k m) (test k (owned os))
      (λ u. by_test (is_open (context os))
      (λ o. new_lock os ins m k j (free (is_open (context os)) (is_zero (value_of two_point sc s e)) (apart m (against i s.threads)) o (ready_parts _ _ r).1) u hj)
      (λ o. mine os ins k j (or_right (test k (owned os)) (test k (reserved os)) (within_locks os m e b c (bo o) k u)) hj))
      (λ u. mine os ins k j (or_left _ _ u) hj)
      (rw (test_or k m (owned os)) at a))
      (λ a. mine os ins k j (or_right _ _ a) hj) h)
      (λ x l f. K.raised x l (ap (λ (k : ℕ). eqb k 0) (sym (assigning_still x s.threads i (at_code b (in_lock m c ∷ os)) (ap (counted x) ins))) ∙ f))
    where
      free : (a z p : Bool) → T a → a && (z || not p) ≡ false → T p
      free true false true h f = tt
      free true false false h f = clear true tt f
      free true true p h f = clear true tt f
      free false z p h f = absurd h

-- A run as it is made
begun_good : (cs : List Code) (j : ℕ) → Good (get_or (map (λ (c : Code). at_code c []) cs) j ended)
begun_good [] j = (tt, (λ o. clear true tt o))
begun_good (c ∷ cs) zero = (tt, (λ o. clear true tt o))
begun_good (c ∷ cs) (suc j) = begun_good cs j

pub begun_inside : (cs : List Code) (j : ℕ) → (get_or (map (λ (c : Code). at_code c []) cs) j ended).inside ≡ []
begun_inside [] j = refl
begun_inside (c ∷ cs) zero = refl
begun_inside (c ∷ cs) (suc j) = begun_inside cs j

pub begun_none : (x : ℕ) (cs : List Code) → assigning x (map (λ (c : Code). at_code c []) cs) ≡ 0
begun_none x [] = refl
begun_none x (c ∷ cs) = let r = begun_none x cs in omega arith

begin_kept : (sc : Script) → Kept sc.variables (begin sc).cells (begin sc).threads
begin_kept sc = record {
  long = length-replicate sc.variables blank;
  good = begun_good sc.codes;
  alone = λ k a b h g. absurd (nobody k a h);
  raised = λ x l f. clear true tt (ap (λ (n : ℕ). eqb n 0) (sym (begun_none x sc.codes)) ∙ f);
}
  where
    nobody : (k a : ℕ) → T (holds k (get_or (map (λ (c : Code). at_code c []) sc.codes) a ended).inside) → ⊥
    nobody k a h = let g = subst (λ (u : List Open). T (holds k u)) (begun_inside sc.codes a) h in or_cases (test k 0) (test k 0) (λ u. rw (test_zero k) at u) (λ u. rw (test_zero k) at u) g

pub reached_kept : {sc : Script} {s : State} → Reached sc s → Kept sc.variables s.cells s.threads
reached_kept {sc} start = begin_kept sc
reached_kept {sc} (turn {s = s} i r now) =
    let t = get_or s.threads i ended in
    let K = reached_kept r in
    step_kept sc s K i t.code t.pace t.inside refl (K.good i).0 (K.good i).1 now
reached_kept (rest r) = reached_kept r
reached_kept (fed t z r) = reached_kept r
