-- A turn of a thread that is at one place in both runs.
use Rattle.std.proofs.Common.{◌≡◌, ℕ, suc, max, Bool, true, false, cond, not, ◌&&◌, T, List, [], ◌∷◌, get_or, ℤ, pos, sym, refl, ap, ◌∙◌, subst, ap₂, ⊎_elim, arith, length-set}
use Rattle.model.specs.Levels.{is_open}
use Rattle.codec.specs.Expressions.{Expr}
use Rattle.script.specs.Code.{Code}
use Rattle.model.specs.Stretches.{fixed_time, duration}
use Rattle.script.specs.Code.Code.{done, skip, assign, put, branch, loop, lock}
use Rattle.model.specs.Values.{Cell, blank, is_zero}
use Rattle.model.specs.Machine.{Channel, unused, Entry, State, status_at, chosen_status, level_of, value_of, set_cell, set_cells, set_channel, add_entry, lag, raise, do_put, step_at}
use Rattle.model.specs.Threads.{Open, Pace, Thread, context, at_code}
use Rattle.model.specs.Threads.Open.{in_branch, in_loop, in_lock}
use Rattle.model.specs.Threads.Pace.{running, idling}
use Rattle.model.specs.Machine.Status.{ready}
use Rattle.model.proofs.Confidential.Slots.{set_rel, cond_ind, T_false, either_way}
use Rattle.model.proofs.Confidential.View.{View, Had, Seen, Hid, LR, lr_join, lr_zero, lr_hid_right, hid_not_open, seen_or_hid, seen_left, seen_right, seen_down, seen_open, channel_had}
use Rattle.model.proofs.Confidential.Agree.{CR, Ex, cr_make, channel_level}
use Rattle.model.proofs.Confidential.Stack.{HadStack, assigned}
use Rattle.model.proofs.Confidential.SoundStep.{context_had}
use Rattle.model.proofs.Confidential.Raise.{raise_both, raise_long, raised}
use Rattle.model.proofs.Confidential.Quiet.{within_p, within_q}
use Rattle.model.proofs.Tests.{and_left, and_right}
use Rattle.model.proofs.Confidential.Quiet.Above.{at_base}
use Rattle.model.proofs.Confidential.Quiet.Quiet.{runs}
use Rattle.model.proofs.Confidential.QuietStep.{lag_duration, one_way}
use Rattle.model.proofs.Confidential.Threads.{TR, Fits, guard_alike}
use Rattle.model.proofs.Confidential.Threads.TR.{same, apart}
use Rattle.model.proofs.Confidential.Fits.{fits_skip, fits_assign, fits_put, fits_close, fits_loop_out, fits_loop_in, fits_lock, fits_next, fits_mask, fits_branch}
use Rattle.model.proofs.Confidential.Alike.{Alike, Safe, alike_thread, looks, branch_level}

-- What a ready thread is not.
not_barred : (a b : Bool) → chosen_status a b ≡ ready → a ≡ false
not_barred true b e = cc
not_barred false b e = refl

fixed_of : (a b : Bool) → b ≡ false → (not a && not b) ≡ false → T a
fixed_of true b e f = tt
fixed_of false b e f = let z : true ≡ false = cc in absurd (mathlib.Core.Bool.true≢false z)

open_of : (a : Bool) → not a ≡ false → T a
open_of true e = tt
open_of false e = absurd (mathlib.Core.Bool.true≢false e)

module _ (v : View) where
  alike_cell : {s t : State} (x : ℕ) (c d : Cell) → Alike v s t → CR v c d → Alike v (set_cell s x c) (set_cell t x d)
  alike_cell {s} {t} x c d h r = record {
    agree = record {
      cells_long = length-set s.cells x c ∙ h.agree.cells_long ∙ sym (length-set t.cells x d);
      cells = λ z. set_rel (CR v) s.cells t.cells x z c d blank blank h.agree.cells_long (h.agree.cells z) (λ _. r);
      tracks_long = h.agree.tracks_long;
      tracks = h.agree.tracks;
      channels_long = h.agree.channels_long;
      channels = h.agree.channels;
      turns = h.agree.turns;
    };
    long = h.long;
    threads = h.threads;
  }

  alike_channel : {s t : State} (n : ℕ) (c d : Channel) → Alike v s t → (Seen v (channel_level v n) → c ≡ d) → Alike v (set_channel s n c) (set_channel t n d)
  alike_channel {s} {t} n c d h r = record {
    agree = record {
      cells_long = h.agree.cells_long;
      cells = h.agree.cells;
      tracks_long = h.agree.tracks_long;
      tracks = h.agree.tracks;
      channels_long = length-set s.channels n c ∙ h.agree.channels_long ∙ sym (length-set t.channels n d);
      channels = λ z o. set_rel (λ (x y : Channel). x ≡ y) s.channels t.channels n z c d unused unused h.agree.channels_long (h.agree.channels z o)
          (λ e. r (subst (λ (m : ℕ). Seen v (channel_level v m)) e o));
      turns = h.agree.turns;
    };
    long = h.long;
    threads = h.threads;
  }

  raised_alike : {c d : Cell} {l l' : ℕ} → Had v c.level → Had v d.level → CR v c d → LR v l l' → CR v (raised v.k l c) (raised v.k l' d)
  raised_alike hc hd r q = record {
    from_l = λ s. ap₂ (λ (c : Cell) (n : ℕ). raised v.k n c) (r.from_l (seen_left v hc q.had_l s)) (q.from_l (seen_right v hc q.had_l s));
    from_r = λ s. ap₂ (λ (c : Cell) (n : ℕ). raised v.k n c) (r.from_r (seen_left v hd q.had_r s)) (q.from_r (seen_right v hd q.had_r s));
  }

  alike_raise : {s t : State} (m : ℕ → Bool) {l l' : ℕ} → Alike v s t → Safe v s → Safe v t → LR v l l'
      → Alike v (set_cells s (raise v.k m l 0 s.cells)) (set_cells t (raise v.k m l' 0 t.cells))
  alike_raise {s} {t} m {l} {l'} h hs ht r = record {
    agree = record {
      cells_long = raise_long v.k m l 0 s.cells ∙ h.agree.cells_long ∙ sym (raise_long v.k m l' 0 t.cells);
      cells = λ z. raise_both v.k m l l' (CR v) s.cells t.cells z h.agree.cells_long (h.agree.cells z) (λ _. raised_alike (hs.cells.at z) (ht.cells.at z) (h.agree.cells z) r);
      tracks_long = h.agree.tracks_long;
      tracks = h.agree.tracks;
      channels_long = h.agree.channels_long;
      channels = h.agree.channels;
      turns = h.agree.turns;
    };
    long = h.long;
    threads = h.threads;
  }

  -- A put looks the same where its channel is seen.
  mark_alike : {a b n : ℕ} → LR v a b → Had v n → Seen v n → v.k.flows a n ≡ v.k.flows b n
  mark_alike {a} {b} {n} r hn o = ⊎_elim left (λ x. ⊎_elim right (λ y. T_false (v.k.flows a n) x ∙ sym (T_false (v.k.flows b n) y)) (either_way (v.k.flows b n))) (either_way (v.k.flows a n))
    where
      left : T (v.k.flows a n) → v.k.flows a n ≡ v.k.flows b n
      left t = ap (λ (x : ℕ). v.k.flows x n) (r.from_l (seen_down v r.had_l hn t o))

      right : T (v.k.flows b n) → v.k.flows a n ≡ v.k.flows b n
      right t = ap (λ (x : ℕ). v.k.flows x n) (r.from_r (seen_down v r.had_r hn t o))

  value_alike : {a b n : ℕ} {x y : ℤ} → Ex v a b x y → Had v n → Seen v n → cond (v.k.flows a n) x (pos 0) ≡ cond (v.k.flows b n) y (pos 0)
  value_alike {a} {b} {n} {x} {y} r hn o = go (v.k.flows a n) (v.k.flows b n) (mark_alike r.levels hn o) (λ t. r.values (seen_down v r.levels.had_l hn t o))
    where
      go : (p q : Bool) → p ≡ q → (T p → x ≡ y) → cond p x (pos 0) ≡ cond q y (pos 0)
      go true q e f = ap₂ (λ (b : Bool) (z : ℤ). cond b z (pos 0)) e (f tt)
      go false q e f = ap (λ (b : Bool). cond b y (pos 0)) e

  module _ (s t : State) (h : Alike v s t) (hs : Safe v s) (ht : Safe v t) (i : ℕ) where
    abbrev lev : State → Expr → ℕ
    lev = level_of v.k v.sc

    abbrev val : State → Expr → ℤ
    val = value_of v.k v.sc

    abbrev the-entry : State → ℕ → Expr → Entry
    the-entry u n e = record { turn = suc u.turns; thread = i; mark = not (v.k.flows (lev u e) (channel_level v n)); value = cond (v.k.flows (lev u e) (channel_level v n)) (val u e) (pos 0) }

    entry-alike : (n : ℕ) (e : Expr) → Seen v (channel_level v n) → the-entry s n e ≡ the-entry t n e
    entry-alike n e o =
        let m = mark_alike (looks v s t h hs ht e).levels (channel_had v n) o in
        let z = value_alike (looks v s t h hs ht e) (channel_had v n) o in
        λ j. record { turn = suc (h.agree.turns j); thread = i; mark = not (m j); value = z j }

    put-alike : (n : ℕ) (e : Expr) (os : List Open) → Alike v (do_put v.k v.sc s i n e os) (do_put v.k v.sc t i n e os)
    unfolding do_put
    put-alike n e os = go (v.k.flows (context os) (channel_level v n))
      where
        go : (b : Bool) → Alike v (cond b (set_channel s n (add_entry (get_or v.sc.channel_sizes n 0) (the-entry s n e) (get_or s.channels n unused))) s)
            (cond b (set_channel t n (add_entry (get_or v.sc.channel_sizes n 0) (the-entry t n e) (get_or t.channels n unused))) t)
        go true = alike_channel n _ _ h (λ o. ap₂ (λ (x : Entry) (c : Channel). add_entry (get_or v.sc.channel_sizes n 0) x c) (entry-alike n e o) (h.agree.channels n o))
        go false = h

    branch-tr : (e : Expr) (p q c : Code) (os : List Open) → HadStack v os → Fits (branch e p q c) os → status_at v.k v.sc s i (branch e p q c) running os ≡ ready
        → TR v (at_code (cond (not (is_zero (val s e))) p q) (in_branch (v.k.join (context os) (lev s e)) (not (is_zero (val s e))) p q c ∷ os))
        (at_code (cond (not (is_zero (val t e))) p q) (in_branch (v.k.join (context os) (lev t e)) (not (is_zero (val t e))) p q c ∷ os))
    branch-tr e p q c os g f r = ⊎_elim opens shuts (seen_or_hid v (v.k.join (context os) (lev s e)))
      where
        look : Ex v (lev s e) (lev t e) (val s e) (val t e)
        look = looks v s t h hs ht e

        lr : LR v (v.k.join (context os) (lev s e)) (v.k.join (context os) (lev t e))
        lr = branch_level v s t h hs ht os e g

        opens : Seen v (v.k.join (context os) (lev s e))
            → TR v (at_code (cond (not (is_zero (val s e))) p q) (in_branch (v.k.join (context os) (lev s e)) (not (is_zero (val s e))) p q c ∷ os))
            (at_code (cond (not (is_zero (val t e))) p q) (in_branch (v.k.join (context os) (lev t e)) (not (is_zero (val t e))) p q c ∷ os))
        opens o = same
            (ap₂ (λ (l : ℕ) (z : ℤ). at_code (cond (not (is_zero z)) p q) (in_branch l (not (is_zero z)) p q c ∷ os)) (lr.from_l o) (look.values (seen_right v (context_had v os g) look.levels.had_l o)))
            (fits_branch e _ _ p q c f)

        shuts : Hid v (v.k.join (context os) (lev s e))
            → TR v (at_code (cond (not (is_zero (val s e))) p q) (in_branch (v.k.join (context os) (lev s e)) (not (is_zero (val s e))) p q c ∷ os))
            (at_code (cond (not (is_zero (val t e))) p q) (in_branch (v.k.join (context os) (lev t e)) (not (is_zero (val t e))) p q c ∷ os))
        shuts o =
            let flat = fixed_of (fixed_time p && fixed_time q) (is_open (v.k.join (context os) (lev s e))) (hid_not_open v o) (not_barred _ _ r) in
            let hp = within_p {y = record { p = p; q = q; next = c; rest = os }} (and_left (fixed_time p) (fixed_time q) flat) in
            let hq = within_q {y = record { p = p; q = q; next = c; rest = os }} (and_right (fixed_time p) (fixed_time q) flat) in
            apart (record { p = p; q = q; next = c; rest = os }) (suc (max (duration p) (duration q))) _ _ _ _ o (lr_hid_right v lr o) (fits_mask e p q c os f) (fits_next e p q c f)
            (runs at_base (one_way (not (is_zero (val s e))) hp hq) (omega (arith, lag_duration p q (not (is_zero (val s e))) flat)))
            (runs at_base (one_way (not (is_zero (val t e))) hp hq) (omega (arith, lag_duration p q (not (is_zero (val t e))) flat)))

    pub same_step : (c : Code) (r : Pace) (os : List Open) → HadStack v os → Fits c os → status_at v.k v.sc s i c r os ≡ ready
        → Alike v (step_at v.k v.sc s i c r os) (step_at v.k v.sc t i c r os)
    unfolding step_at
    same_step c (idling n) [] g f r = h
    same_step c (idling n) (in_branch l w p q m ∷ os) g f r = alike_thread v i _ _ h (same refl (fits_close n l w p q m os f.deep))
    same_step c (idling n) (in_loop e b m ∷ os) g f r = h
    same_step c (idling n) (in_lock x m ∷ os) g f r = h
    same_step done running [] g f r = h
    same_step done running (in_branch l w p q m ∷ os) g f r = alike_thread v i _ _ h (same refl (fits_close (lag w p q) l w p q m os f.deep))
    same_step done running (in_loop e b m ∷ os) g f r = alike_thread v i _ _ h (same refl (record { fit = f.deep.0; deep = f.deep.1 }))
    same_step done running (in_lock x m ∷ os) g f r = alike_thread v i _ _ h (same refl (record { fit = f.deep.0; deep = f.deep.1 }))
    same_step (skip c) running os g f r = alike_thread v i _ _ h (same refl (fits_skip c f))
    same_step (assign x e c) running os g f r =
        let look = looks v s t h hs ht e in
        let gu = guard_alike v x s.threads t.threads h.long h.threads (λ j. (hs.guards j).had) (λ j. (ht.guards j).had) (lr_zero v) in
        alike_thread v i _ _ (alike_cell x _ _ h (cr_make v (lr_join v look.levels gu) (λ o. look.values (seen_left v look.levels.had_l gu.had_l o)))) (same refl (fits_assign x e c f))
    same_step (put n e c) running os g f r = alike_thread v i _ _ (put-alike n e os) (same refl (fits_put n e c f))
    same_step (branch e p q c) running os g f r =
        alike_thread v i _ _ (alike_raise (λ x. assigned x p q) h hs ht (branch_level v s t h hs ht os e g)) (branch-tr e p q c os g f r)
    same_step (loop e b c) running os g f r =
        let look = looks v s t h hs ht e in
        let o = seen_open v (lev s e) (open_of (is_open (lev s e)) (not_barred _ _ r)) in
        alike_thread v i _ _ h (same (ap (λ (z : ℤ). cond (is_zero z) (at_code c os) (at_code b (in_loop e b c ∷ os))) (look.values o))
        (cond_ind (λ (u : Thread). Fits u.code u.inside) (is_zero (val s e)) _ _ (λ _. fits_loop_out e b c f) (λ _. fits_loop_in e b c f)))
    same_step (lock m e b c) running os g f r = alike_thread v i _ _ h (same refl (fits_lock m e b c f))
