-- Where a thread stands behind each step of the machine.
use Rattle.std.proofs.Common.{◌≡◌, ℕ, zero, suc, ◌<◌, Bool, true, false, cond, not, ◌≢◌, List, [], ◌∷◌, length, get_or, drop, set, sym, refl, ap, ◌∙◌, subst, arith, get_or-set_other, get_or-set_same}
use Rattle.lattice.specs.Levels.{Levels}
use Rattle.codec.specs.Expressions.{Expr}
use Rattle.script.specs.Code.{Code, Script}
use Rattle.script.specs.Code.Code.{done, skip, assign, put, branch, loop, lock}
use Rattle.model.specs.Threads.{Open, Pace, Thread, ended, at_code}
use Rattle.model.specs.Machine.{State, value_of, lag, step_at, step, do_put, close_branch}
use Rattle.model.specs.Values.{is_zero}
use Rattle.model.specs.Threads.Open.{in_branch, in_loop, in_lock}
use Rattle.model.specs.Threads.Pace.{running, idling}
use Rattle.codec.specs.Frames.{Frame}
use Rattle.codec.specs.Frames.Frame.{if, else, end_if, while, end_while}
use Rattle.model.specs.Places.{flatten_inside, Spot, Opened, Stands, onward, sideways, spot_after, closes, move, Idle, StandsAt}
use Rattle.model.specs.Places.Move.{on, aside}
use Rattle.model.proofs.Places.Skipping.{drop_next, past_lands}
use Rattle.model.proofs.Puts.{put_threads}

module _ (fs r : List Frame) where
  -- A step that goes by the frames at the place.
  by_onward : (s : Spot) (gs : List Frame) {c : Code} {os : List Open} → drop s.place fs ≡ gs → Stands fs r (onward gs s) c os → Stands fs r (spot_after fs on s) c os
  by_onward s gs {c} {os} e h = subst (λ (x : List Frame). Stands fs r (onward x s) c os) (sym e) h

  by_sideways : (s : Spot) (gs : List Frame) {c : Code} {os : List Open} → drop s.place fs ≡ gs → Stands fs r (sideways gs s) c os → Stands fs r (spot_after fs aside s) c os
  by_sideways s gs {c} {os} e h = subst (λ (x : List Frame). Stands fs r (sideways x s) c os) (sym e) h

  module _ (s : Spot) (os : List Open) where
    pub after_skip : (c : Code) → Stands fs r s (skip c) os → Stands fs r (spot_after fs on s) c os
    after_skip c h = by_onward s _ h.here (record { here = drop_next s.place fs h.here; opened = h.opened })

    pub after_assign : (x : ℕ) (e : Expr) (c : Code) → Stands fs r s (assign x e c) os → Stands fs r (spot_after fs on s) c os
    after_assign x e c h = by_onward s _ h.here (record { here = drop_next s.place fs h.here; opened = h.opened })

    pub after_put : (o : ℕ) (e : Expr) (c : Code) → Stands fs r s (put o e c) os → Stands fs r (spot_after fs on s) c os
    after_put o e c h = by_onward s _ h.here (record { here = drop_next s.place fs h.here; opened = h.opened })

    pub after_if : (l : ℕ) (e : Expr) (p q c : Code) → Stands fs r s (branch e p q c) os → Stands fs r (spot_after fs on s) p (in_branch l true p q c ∷ os)
    after_if l e p q c h = by_onward s _ h.here (record { here = drop_next s.place fs h.here; opened = ((e, h.here), h.opened) })

    pub after_if_else : (l : ℕ) (e : Expr) (p q c : Code) → Stands fs r s (branch e p q c) os → Stands fs r (spot_after fs aside s) q (in_branch l false p q c ∷ os)
    after_if_else l e p q c h = by_sideways s _ h.here (record { here = past_lands s.place fs (if e) else p _ refl h.here; opened = ((e, h.here), h.opened) })

    pub after_while : (e : Expr) (b c : Code) → Stands fs r s (loop e b c) os → Stands fs r (spot_after fs on s) b (in_loop e b c ∷ os)
    after_while e b c h = by_onward s _ h.here (record { here = drop_next s.place fs h.here; opened = (h.here, h.opened) })

    pub after_while_past : (e : Expr) (b c : Code) → Stands fs r s (loop e b c) os → Stands fs r (spot_after fs aside s) c os
    after_while_past e b c h = by_sideways s _ h.here (record { here = past_lands s.place fs (while e) end_while b _ refl h.here; opened = h.opened })

    pub after_with : (m : ℕ) (e : Expr) (b c : Code) → Stands fs r s (lock m e b c) os → Stands fs r (spot_after fs on s) b (in_lock m c ∷ os)
    after_with m e b c h = by_onward s _ h.here (record { here = drop_next s.place fs h.here; opened = ((e, b, h.here), h.opened) })

    pub after_branch : (l : ℕ) (w : Bool) (p q c : Code) → Stands fs r s done (in_branch l w p q c ∷ os) → Stands fs r (spot_after fs on s) c os
    after_branch l w p q c h = go w s.openers h.here h.opened
      where
        go : (w : Bool) (ps : List ℕ) → drop s.place fs ≡ flatten_inside (in_branch l w p q c ∷ os) r → Opened fs r ps (in_branch l w p q c ∷ os) → Stands fs r (spot_after fs on (record { place = s.place; openers = ps })) c os
        go true [] e o = absurd o
        go false [] e o = absurd o
        go true (a ∷ ps) e o = by_onward (record { place = s.place; openers = a ∷ ps }) _ e (record { here = past_lands s.place fs else end_if q _ refl e; opened = o.1 })
        go false (a ∷ ps) e o = by_onward (record { place = s.place; openers = a ∷ ps }) _ e (record { here = drop_next s.place fs e; opened = o.1 })

    -- Back to the test: the opener's place.
    pub after_end_while : (e : Expr) (b c : Code) → Stands fs r s done (in_loop e b c ∷ os) → Stands fs r (spot_after fs on s) (loop e b c) os
    after_end_while e b c h = go s.openers h.opened
      where
        go : (ps : List ℕ) → Opened fs r ps (in_loop e b c ∷ os) → Stands fs r (spot_after fs on (record { place = s.place; openers = ps })) (loop e b c) os
        go [] o = absurd o
        go (a ∷ ps) o = by_onward (record { place = s.place; openers = a ∷ ps }) _ h.here (record { here = o.0; opened = o.1 })

    pub after_end_with : (m : ℕ) (c : Code) → Stands fs r s done (in_lock m c ∷ os) → Stands fs r (spot_after fs on s) c os
    after_end_with m c h = go s.openers h.opened
      where
        go : (ps : List ℕ) → Opened fs r ps (in_lock m c ∷ os) → Stands fs r (spot_after fs on (record { place = s.place; openers = ps })) c os
        go [] o = absurd o
        go (a ∷ ps) o = by_onward (record { place = s.place; openers = a ∷ ps }) _ h.here (record { here = drop_next s.place fs h.here; opened = o.1 })

-- The machine's step as a whole.

module _ (fs r : List Frame) (s : Spot) (os : List Open) where
  closing_stands : (n l : ℕ) (w : Bool) (p q c : Code) → Stands fs r s done (in_branch l w p q c ∷ os) → StandsAt fs r (spot_after fs (closes n) s) (close_branch n (in_branch l w p q c) os c)
  closing_stands zero l w p q c h = record { stands = after_branch fs r s os l w p q c h; idle = tt }
  closing_stands (suc n) l w p q c h = record { stands = h; idle = refl }

  branch_stands : (z : Bool) (l : ℕ) (e : Expr) (p q c : Code) → Stands fs r s (branch e p q c) os → StandsAt fs r (spot_after fs (cond z aside on) s) (at_code (cond (not z) p q) (in_branch l (not z) p q c ∷ os))
  branch_stands true l e p q c h = record { stands = after_if_else fs r s os l e p q c h; idle = tt }
  branch_stands false l e p q c h = record { stands = after_if fs r s os l e p q c h; idle = tt }

  loop_stands : (z : Bool) (e : Expr) (b c : Code) → Stands fs r s (loop e b c) os → StandsAt fs r (spot_after fs (cond z aside on) s) (cond z (at_code c os) (at_code b (in_loop e b c ∷ os)))
  loop_stands true e b c h = record { stands = after_while_past fs r s os e b c h; idle = tt }
  loop_stands false e b c h = record { stands = after_while fs r s os e b c h; idle = tt }

module _ (k : Levels) (sc : Script) (st : State) (i : ℕ) where
  -- The other threads stay where they are.
  pub step_others : (c : Code) (pace : Pace) (os : List Open) (j : ℕ) → j ≢ i → get_or (step_at k sc st i c pace os).threads j ended ≡ get_or st.threads j ended
  unfolding step_at
  step_others c (idling n) [] j ne = refl
  step_others c (idling n) (in_branch l w p q next ∷ os) j ne = get_or-set_other st.threads i j _ ended ne
  step_others c (idling n) (in_loop v b next ∷ os) j ne = refl
  step_others c (idling n) (in_lock m next ∷ os) j ne = refl
  step_others done running [] j ne = refl
  step_others done running (in_branch l w p q next ∷ os) j ne = get_or-set_other st.threads i j _ ended ne
  step_others done running (in_loop v b next ∷ os) j ne = get_or-set_other st.threads i j _ ended ne
  step_others done running (in_lock m next ∷ os) j ne = get_or-set_other st.threads i j _ ended ne
  step_others (skip c) running os j ne = get_or-set_other st.threads i j _ ended ne
  step_others (assign x v c) running os j ne = get_or-set_other st.threads i j _ ended ne
  step_others (put o v c) running os j ne = get_or-set_other _ i j _ ended ne ∙ ap (λ (ts : List Thread). get_or ts j ended) (put_threads k sc st i o v os)
  step_others (branch v p q c) running os j ne = get_or-set_other st.threads i j _ ended ne
  step_others (loop v b c) running os j ne = get_or-set_other st.threads i j _ ended ne
  step_others (lock m v b c) running os j ne = get_or-set_other st.threads i j _ ended ne

module _ (k : Levels) (sc : Script) (fs r : List Frame) (st : State) (i : ℕ) (within : i < length st.threads) where
  -- Thread i was set to one that stands.
  set_stands : (s : Spot) (ts : List Thread) (t : Thread) → ts ≡ st.threads → StandsAt fs r s t → StandsAt fs r s (get_or (set ts i t) i ended)
  set_stands s ts t e h = subst (StandsAt fs r s) (sym (get_or-set_same ts i t ended (omega (arith, ap length e)))) h

  pub step_stands : (c : Code) (pace : Pace) (os : List Open) (s : Spot) → Stands fs r s c os → Idle pace c
      → get_or st.threads i ended ≡ record { code = c; pace = pace; inside = os }
      → StandsAt fs r (spot_after fs (move k sc st c pace os) s) (get_or (step_at k sc st i c pace os).threads i ended)
  unfolding step_at
  step_stands c (idling n) [] s h d e = subst (StandsAt fs r s) (sym e) (record { stands = h; idle = d })
  step_stands c (idling n) (in_branch l w p q next ∷ os) s h d e = set_stands _ st.threads _ refl (closing_stands fs r s os n l w p q next (subst (λ (x : Code). Stands fs r s x (in_branch l w p q next ∷ os)) d h))
  step_stands c (idling n) (in_loop v b next ∷ os) s h d e = subst (StandsAt fs r s) (sym e) (record { stands = h; idle = d })
  step_stands c (idling n) (in_lock m next ∷ os) s h d e = subst (StandsAt fs r s) (sym e) (record { stands = h; idle = d })
  step_stands done running [] s h d e = subst (StandsAt fs r s) (sym e) (record { stands = h; idle = d })
  step_stands done running (in_branch l w p q next ∷ os) s h d e = set_stands _ st.threads _ refl (closing_stands fs r s os (lag w p q) l w p q next h)
  step_stands done running (in_loop v b next ∷ os) s h d e = set_stands _ st.threads _ refl (record { stands = after_end_while fs r s os v b next h; idle = tt })
  step_stands done running (in_lock m next ∷ os) s h d e = set_stands _ st.threads _ refl (record { stands = after_end_with fs r s os m next h; idle = tt })
  step_stands (skip c) running os s h d e = set_stands _ st.threads _ refl (record { stands = after_skip fs r s os c h; idle = tt })
  step_stands (assign x v c) running os s h d e = set_stands _ st.threads _ refl (record { stands = after_assign fs r s os x v c h; idle = tt })
  step_stands (put o v c) running os s h d e = set_stands _ (do_put k sc st i o v os).threads _ (put_threads k sc st i o v os) (record { stands = after_put fs r s os o v c h; idle = tt })
  step_stands (branch v p q c) running os s h d e = set_stands _ st.threads _ refl (branch_stands fs r s os (is_zero (value_of k sc st v)) _ v p q c h)
  step_stands (loop v b c) running os s h d e = set_stands _ st.threads _ refl (loop_stands fs r s os (is_zero (value_of k sc st v)) v b c h)
  step_stands (lock m v b c) running os s h d e = set_stands _ st.threads _ refl (record { stands = after_with fs r s os m v b c h; idle = tt })

  -- One step of thread i, from where it stands.
  pub step_moves : (s : Spot) → StandsAt fs r s (get_or st.threads i ended)
      → (let t = get_or st.threads i ended in StandsAt fs r (spot_after fs (move k sc st t.code t.pace t.inside) s) (get_or (step k sc st i).threads i ended))
  step_moves s h = let t = get_or st.threads i ended in step_stands t.code t.pace t.inside s h.stands h.idle refl
