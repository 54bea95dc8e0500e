-- A spot that a walk meets in a thread is where a thread of the model stands.
use Rattle.std.proofs.Common.{◌≡◌, ℕ, zero, suc, ◌+◌, ◌-◌, ◌<◌, ◌≤◌, true, false, ◌⊎◌, List, [], ◌∷◌, length, drop, sym, refl, ap, ◌∙◌, subst, inl, inr, arith, rules}
use Rattle.script.specs.Code.{Code}
use Rattle.script.specs.Code.Code.{done, skip, assign, put, branch, loop, lock}
use Rattle.codec.specs.Frames.{Head, Frame}
use Rattle.codec.specs.Frames.Frame.{thread_end}
use Rattle.script.specs.Trees.{flatten, Valid}
use Rattle.model.specs.Threads.{Open, at_code}
use Rattle.model.specs.Threads.Open.{in_branch, in_loop, in_lock}
use Rattle.model.specs.Places.{flatten_inside, Opened, Stands, ValidInside, ValidThread}
use Rattle.model.specs.Fitting.{Walk, stride, frame_at, around}
use Rattle.model.proofs.Places.Skipping.{drop_next}
use Rattle.model.proofs.Places.Walking.{around_next, over, Own, met}

-- As a walk goes on, no fewer threads have begun and ended.
record Grows (v w : Walk) : Type 0 where
  begun : v.begun ≤ w.begun
  ended : v.ended ≤ w.ended

grows : (p : ℕ) (f : Frame) (w : Walk) → Grows w (stride p f w)
grows p f w = search rules

module _ (fs : List Frame) where
  grows_next : (p : ℕ) → Grows (around fs p) (around fs (suc p))
  grows_next p = subst (Grows (around fs p)) (sym (around_next fs p)) (grows p (frame_at fs p) (around fs p))

  grows_on : (n p q : ℕ) → p + n ≡ q → Grows (around fs p) (around fs q)
  grows_on zero p q e = subst (λ (x : ℕ). Grows (around fs p) (around fs x)) (let z : p ≡ q = omega arith in z) (record { begun = omega arith; ended = omega arith })
  grows_on (suc n) p q e =
      let a = grows_next p in
      let b = grows_on n (suc p) q (omega arith) in
      record { begun = omega (arith, a.begun, b.begun); ended = omega (arith, a.ended, b.ended) }

module _ (h : Head) (fs r : List Frame) where
  -- A thread of the model stands at a place.
  pub record Standing (q : ℕ) : Type 0 where
    pub openers : List ℕ
    pub code : Code
    pub inside : List Open
    pub stands : Stands fs r (record { place = q; openers = openers }) code inside
    pub valid : ValidThread h (at_code code inside)

  -- From where one stands to the next frame, unless the thread ends here.
  onwards : (q : ℕ) (qs : List ℕ) (c : Code) (os : List Open) → drop q fs ≡ flatten c (flatten_inside os r) → Opened fs r qs os → Valid h (length os) c → ValidInside h os → Standing (suc q) ⊎ (drop q fs ≡ thread_end ∷ r)
  onwards q qs done [] e o v w = inr e
  onwards q [] done (x ∷ os) e o v w = absurd o
  onwards q (p ∷ ps) done (in_branch l true a b n ∷ os) e o v w =
      inl (record { openers = p ∷ ps; code = b; inside = in_branch l false a b n ∷ os; stands = record { here = drop_next q fs e; opened = o }; valid = record { code = w.2; inside = w } })
  onwards q (p ∷ ps) done (in_branch l false a b n ∷ os) e o v w =
      inl (record { openers = ps; code = n; inside = os; stands = record { here = drop_next q fs e; opened = o.1 }; valid = record { code = w.3; inside = w.4 } })
  onwards q (p ∷ ps) done (in_loop x b n ∷ os) e o v w =
      inl (record { openers = ps; code = n; inside = os; stands = record { here = drop_next q fs e; opened = o.1 }; valid = record { code = w.3; inside = w.4 } })
  onwards q (p ∷ ps) done (in_lock m n ∷ os) e o v w =
      inl (record { openers = ps; code = n; inside = os; stands = record { here = drop_next q fs e; opened = o.1 }; valid = record { code = w.2; inside = w.3 } })
  onwards q qs (skip c) os e o v w =
      inl (record { openers = qs; code = c; inside = os; stands = record { here = drop_next q fs e; opened = o }; valid = record { code = v; inside = w } })
  onwards q qs (assign x y c) os e o v w =
      inl (record { openers = qs; code = c; inside = os; stands = record { here = drop_next q fs e; opened = o }; valid = record { code = v.2; inside = w } })
  onwards q qs (put x y c) os e o v w =
      inl (record { openers = qs; code = c; inside = os; stands = record { here = drop_next q fs e; opened = o }; valid = record { code = v.2; inside = w } })
  onwards q qs (branch x a b n) os e o v w =
      inl (record {
        openers = q ∷ qs;
        code = a;
        inside = in_branch 0 true a b n ∷ os;
        stands = record { here = drop_next q fs e; opened = ((x, e), o) };
        valid = record { code = v.2; inside = (v.0, v.2, v.3, v.4, w) };
      })
  onwards q qs (loop x b n) os e o v w =
      inl (record {
        openers = q ∷ qs;
        code = b;
        inside = in_loop x b n ∷ os;
        stands = record { here = drop_next q fs e; opened = (e, o) };
        valid = record { code = v.2; inside = (v.0, v.1, v.2, v.3, w) };
      })
  onwards q qs (lock m x b n) os e o v w =
      inl (record {
        openers = q ∷ qs;
        code = b;
        inside = in_lock m n ∷ os;
        stands = record { here = drop_next q fs e; opened = ((x, b, e), o) };
        valid = record { code = v.3; inside = (v.0, v.1, v.4, w) };
      })

  module _ (i : ℕ) (whole : Code) (own : Own fs r i whole) (sound : Valid h 0 whole) where
    -- Behind the thread's last frame it has ended.
    over_end : (q : ℕ) (st : Standing q) → drop q fs ≡ thread_end ∷ r → suc i ≤ (around fs (suc q)).ended
    over_end q st e =
        let m = met fs r i whole own q st.openers st.code st.inside st.stands.here st.stands.opened in
        let z : (around fs (suc q)).ended ≡ suc i = ap (λ (w : Walk). w.ended) (over fs q e ∙ ap (stride q thread_end) m) in
        omega (arith, z)

    go_on : (q : ℕ) (st : Standing q) → Standing (suc q) ⊎ (drop q fs ≡ thread_end ∷ r) → Standing (suc q) ⊎ (suc i ≤ (around fs (suc q)).ended)
    go_on q st (inl s) = inl s
    go_on q st (inr e) = inr (over_end q st e)

    -- At each place from the thread's first on a thread stands, or the thread has ended.
    reach : (n q : ℕ) → suc own.before + n ≡ q → Standing q ⊎ (suc i ≤ (around fs q).ended)
    reach zero q e =
        subst (λ (x : ℕ). Standing x ⊎ (suc i ≤ (around fs x).ended)) (let z : suc own.before ≡ q = omega arith in z)
        (inl (record { openers = []; code = whole; inside = []; stands = record { here = own.here; opened = tt }; valid = record { code = sound; inside = tt } }))
    reach (suc n) q e =
        subst (λ (x : ℕ). Standing x ⊎ (suc i ≤ (around fs x).ended)) (let z : suc (suc own.before + n) ≡ q = omega arith in z)
        (next (reach n (suc own.before + n) refl))
      where
        to : ℕ
        to = suc own.before + n

        next : Standing to ⊎ (suc i ≤ (around fs to).ended) → Standing (suc to) ⊎ (suc i ≤ (around fs (suc to)).ended)
        next (inl st) = go_on to st (onwards to st.openers st.code st.inside st.stands.here st.stands.opened st.valid.code st.valid.inside)
        next (inr l) = inr (omega (arith, l, (grows_next fs to).ended))

    not_ended : (q : ℕ) → (around fs q).ended ≡ i → Standing q ⊎ (suc i ≤ (around fs q).ended) → Standing q
    not_ended q e (inl st) = st
    not_ended q e (inr l) = absurd (omega (arith, e, l))

    -- Where a walk is inside thread i, a thread stands.
    pub stands_where : (q : ℕ) → (around fs q).begun ≡ suc i → (around fs q).ended ≡ i → Standing q
    stands_where q b e = not_ended q e (reach (q - suc own.before) q (omega (arith, behind)))
      where
        late : q ≤ own.before → ⊥
        late l = let g = grows_on fs (own.before - q) q own.before (omega arith) in absurd (omega (arith, g.begun, own.outside, b))

        behind : own.before < q
        behind = omega (arith, late)
