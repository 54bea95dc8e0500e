-- A turn keeps a run sound.
use Rattle.std.proofs.Common.{◌≡◌, ℕ, zero, suc, ◌<◌, Bool, T, List, [], ◌∷◌, get_or, set, refl, subst, length-set}
use Rattle.script.specs.Code.{Code}
use Rattle.script.specs.Code.Code.{done, skip, assign, put, branch, loop, lock}
use Rattle.model.specs.Values.{Cell, blank, is_zero}
use Rattle.model.specs.Threads.{Open, Pace, Thread, ended, at_code, context}
use Rattle.model.specs.Machine.{raise, State, close_branch, lag, do_put, step_at, step, value_of}
use Rattle.model.specs.Threads.Open.{in_branch, in_loop, in_lock}
use Rattle.model.specs.Threads.Pace.{running, idling}
use Rattle.model.proofs.Confidential.Slots.{set_pred, cond_ind}
use Rattle.model.proofs.Confidential.View.{View, Had, Seen, seen_left, seen_right, join_had, had_zero}
use Rattle.model.proofs.Confidential.Agree.{HadCells, level_had}
use Rattle.model.proofs.Confidential.Stack.{In, HadStack, Guards, Sound, assigned, guards_pop, guards_loop, guards_lock, guards_branch, guard_had, guard_over}
use Rattle.model.proofs.Confidential.Stack.In.{here, there}
use Rattle.model.proofs.Confidential.Raise.{raise_long, raise_pred, raise_marked}

module _ (v : View) where
  pub context_had : (os : List Open) → HadStack v os → Had v (context os)
  context_had [] h = had_zero v
  context_had (in_branch l w p q n ∷ os) h = h.at here
  context_had (in_loop e b n ∷ os) h = context_had os (record { at = λ m. h.at (there m) })
  context_had (in_lock m n ∷ os) h = context_had os (record { at = λ m. h.at (there m) })

  pub sound_thread : {cs : List Cell} {ts : List Thread} (i : ℕ) (t : Thread) → Sound v cs ts → Guards v cs t.inside → Sound v cs (set ts i t)
  sound_thread {cs} {ts} i t h g = record {
    cells = h.cells;
    guards = λ j. set_pred (λ (u : Thread). Guards v cs u.inside) ts i j t ended (h.guards j) (λ e b. g);
  }

  sound_cell : (cs : List Cell) (ts : List Thread) (x : ℕ) (c : Cell) → Sound v cs ts → Had v c.level
      → ((i : ℕ) (l : ℕ) (p q : Code) → In l p q (get_or ts i ended).inside → T (assigned x p q) → Seen v c.level → Seen v l)
      → Sound v (set cs x c) ts
  sound_cell cs ts x c h hc f = record {
    cells = record { at = λ y. set_pred (λ (d : Cell). Had v d.level) cs x y c blank (h.cells.at y) (λ e b. hc) };
    guards = λ i. record {
      had = (h.guards i).had;
      over = λ {l} {p} {q} m y b a. set_pred (λ (d : Cell). Seen v d.level → Seen v l) cs x y c blank
          ((h.guards i).over m y (subst (λ (n : ℕ). y < n) (length-set cs x c) b) a)
          (λ e _. f i l p q m (subst (λ (n : ℕ). T (assigned n p q)) e a));
    };
  }

  sound_raise : (cs : List Cell) (ts : List Thread) (m : ℕ → Bool) (l : ℕ) → Sound v cs ts → Had v l → Sound v (raise v.k m l 0 cs) ts
  sound_raise cs ts m l h hl = record {
    cells = record { at = λ y. raise_pred v.k m l (λ (d : Cell). Had v d.level) cs y (h.cells.at y) (λ t b. join_had v (h.cells.at y) hl) };
    guards = λ i. record {
      had = (h.guards i).had;
      over = λ {l = l'} {p} {q} z y b a.
          let low = (h.guards i).over z y (subst (λ (n : ℕ). y < n) (raise_long v.k m l 0 cs) b) a in
          raise_pred v.k m l (λ (d : Cell). Seen v d.level → Seen v l') cs y low (λ t _ s. low (seen_left v (h.cells.at y) hl s));
    };
  }

  -- A branch that has just raised what it assigns.
  guards_entered : (cs : List Cell) (os : List Open) (l : ℕ) (w : Bool) (p q n : Code) → HadCells v cs → Had v l
      → Guards v (raise v.k (λ x. assigned x p q) l 0 cs) os → Guards v (raise v.k (λ x. assigned x p q) l 0 cs) (in_branch l w p q n ∷ os)
  guards_entered cs os l w p q n hc hl g =
      guards_branch v l w p q n hl
      (λ x b a. raise_marked v.k (λ x. assigned x p q) l (λ (c : Cell). Seen v c.level → Seen v l) cs x a
      (subst (λ (n : ℕ). x < n) (raise_long v.k (λ x. assigned x p q) l 0 cs) b) (λ s. seen_right v (hc.at x) hl s)) g

  close_guards : {cs : List Cell} (n : ℕ) (o : Open) (os : List Open) (c : Code) → Guards v cs (o ∷ os) → Guards v cs (close_branch n o os c).inside
  close_guards zero o os c g = guards_pop v g
  close_guards (suc n) o os c g = g

  sound_at : (s : State) (i : ℕ) (c : Code) (r : Pace) (os : List Open) → (get_or s.threads i ended).inside ≡ os → Sound v s.cells s.threads
      → Guards v s.cells os
      → Sound v (step_at v.k v.sc s i c r os).cells (step_at v.k v.sc s i c r os).threads
  unfolding step_at do_put
  sound_at s i c (idling n) [] e h g = h
  sound_at s i c (idling n) (in_branch l w p q m ∷ os) e h g = sound_thread i _ h (close_guards n (in_branch l w p q m) os m g)
  sound_at s i c (idling n) (in_loop x b m ∷ os) e h g = h
  sound_at s i c (idling n) (in_lock x m ∷ os) e h g = h
  sound_at s i done running [] e h g = h
  sound_at s i done running (in_branch l w p q m ∷ os) e h g = sound_thread i _ h (close_guards (lag w p q) (in_branch l w p q m) os m g)
  sound_at s i done running (in_loop x b m ∷ os) e h g = sound_thread i _ h (guards_pop v g)
  sound_at s i done running (in_lock x m ∷ os) e h g = sound_thread i _ h (guards_pop v g)
  sound_at s i (skip c) running os e h g = sound_thread i _ h g
  sound_at s i (assign x a c) running os e h g =
      let hg = guard_had v x s.threads 0 (λ j. (h.guards j).had) (had_zero v) in
      let la = level_had v s h.cells a in
      let r = sound_cell s.cells s.threads x _ h (join_had v la hg)
      (λ j l p q m y z. guard_over v x j s.threads 0 m y (λ j. (h.guards j).had) (had_zero v) (seen_right v la hg z)) in
      sound_thread i _ r (subst (Guards v _) e (r.guards i))
  sound_at s i (put n a c) running os e h g =
      cond_ind (λ (u : State). Sound v u.cells (set u.threads i (at_code c os))) (v.k.flows (context os) _) _ _ (λ _. sound_thread i _ h g) (λ _. sound_thread i _ h g)
  sound_at s i (branch a p q c) running os e h g =
      let hl = join_had v (context_had os g.had) (level_had v s h.cells a) in
      let r = sound_raise s.cells s.threads (λ x. assigned x p q) _ h hl in
      sound_thread i _ r (guards_entered s.cells os _ _ p q c h.cells hl (subst (Guards v _) e (r.guards i)))
  sound_at s i (loop a b c) running os e h g = sound_thread i _ h (cond_ind (λ (t : Thread). Guards v s.cells t.inside) (is_zero (value_of v.k v.sc s a)) _ _ (λ _. g) (λ _. guards_loop v a b c g))
  sound_at s i (lock m a b c) running os e h g = sound_thread i _ h (guards_lock v m c g)

  pub sound_step : (s : State) (i : ℕ) → Sound v s.cells s.threads → Sound v (step v.k v.sc s i).cells (step v.k v.sc s i).threads
  sound_step s i h = sound_at s i _ _ _ refl h (h.guards i)
