-- A turn of a thread inside a branch that is not seen: it changes nothing that is seen, and brings the branch's close one turn nearer.
use Rattle.std.proofs.Common.{◌≡◌, ℕ, zero, suc, ◌+◌, ◌<◌, max, Bool, true, false, cond, not, ◌&&◌, ◌||◌, T, eqb, List, ◌∷◌, length, get_or, sym, refl, subst, arith, length-set}
use lib.Dec.{eqb_refl}
use Rattle.codec.specs.Expressions.{Expr}
use Rattle.script.specs.Code.{Code}
use Rattle.model.specs.Stretches.{fixed_time, duration, assigns}
use Rattle.script.specs.Code.Code.{done, skip, assign, put, branch, loop, lock}
use Rattle.model.specs.Values.{Cell, blank, is_zero}
use Rattle.model.specs.Machine.{Channel, unused, State, value_of, set_thread, set_cell, set_cells, set_channel, close_branch, lag, raise, do_put, step_at}
use Rattle.model.specs.Threads.{Open, Pace, Thread, ended, context, at_code, at_idle, guard}
use Rattle.model.specs.Threads.Open.{in_branch, in_lock}
use Rattle.model.specs.Threads.Pace.{running}
use Rattle.model.proofs.Confidential.Slots.{set_pred, cond_ind}
use Rattle.model.proofs.Tests.{is_true, and_left, or_left}
use Rattle.model.proofs.Confidential.View.{View, Had, Seen, Hid, hid_left, hid_right, join_had, had_zero, seen_down, channel_had}
use Rattle.model.proofs.Confidential.Agree.{Agree, CR, cr_same, cr_hid, agree_same, channel_level, level_had}
use Rattle.model.proofs.Confidential.Stack.{In, Guards, assigned, guard_had, guard_over}
use Rattle.model.proofs.Confidential.SoundStep.{context_had}
use Rattle.model.proofs.Confidential.Raise.{raise_pred, raise_long}
use Rattle.model.proofs.Confidential.Quiet.{Way, base, Within, Above, Quiet, above_in, above_context, within_skip, within_assign, within_put, within_branch, within_branch_p, within_branch_q, within_lock, within_lock_in, within_lock_mask}
use Rattle.model.proofs.Confidential.Quiet.Above.{at_base, in_br, in_lk}
use Rattle.model.proofs.Confidential.Quiet.Quiet.{runs, waits, waits_last}
use Rattle.model.proofs.Confidential.Alike.{Safe}
use Rattle.model.proofs.Puts.{put_threads}

pub data After (v : View) (y : Way) (l : ℕ) (w : Bool) (i : ℕ) (s u : State) (n : ℕ) : Type 0 where
  closed : n ≡ 0 → u ≡ set_thread s i (at_code y.next y.rest) → After v y l w i s u n
  goes : (mid : State) (t : Thread) → Agree v s mid → mid.threads ≡ s.threads → u ≡ set_thread mid i t
      → Quiet v y l w t.code t.pace t.inside n → After v y l w i s u n

pub lag_duration : (p q : Code) (b : Bool) → T (fixed_time p && fixed_time q) → duration (cond b p q) + lag b p q ≡ max (duration p) (duration q)
lag_duration p q true h = rw (is_true (fixed_time p && fixed_time q) h) (omega arith)
lag_duration p q false h = rw (is_true (fixed_time p && fixed_time q) h) (omega arith)

either_within : {y : Way} (x : ℕ) (p q : Code) → Within y p → Within y q → T (assigned x p q) → T (assigned x y.p y.q)
either_within x p q hp hq t = go (assigns x p) (assigns x q) (hp.fewer x) (hq.fewer x) t
  where
    go : {A : Type 0} (a b : Bool) → (T a → A) → (T b → A) → T (a || b) → A
    go true b f g t = f tt
    go false b f g t = g t

pub one_way : {y : Way} (b : Bool) {p q : Code} → Within y p → Within y q → Within y (cond b p q)
one_way true hp hq = hp
one_way false hp hq = hq

module _ (v : View) {y : Way} {l : ℕ} {w : Bool} (hl : Hid v l) (s : State) (i : ℕ) (hs : Safe v s) where
  -- The end of a way.
  base_close : (j n : ℕ) → suc n ≡ suc j → After v y l w i s (set_thread s i (close_branch j (in_branch l w y.p y.q y.next) y.rest y.next)) n
  base_close zero n e = closed (omega arith) refl
  base_close (suc j) n e = goes s (at_idle j (base y l w)) (agree_same v s) refl refl (waits_last (omega arith))

  inner_close : {os : List Open} {m l' : ℕ} (w' : Bool) {p q c : Code} (j n : ℕ) → Above v y l w os m → Hid v l' → Within y p → Within y q → Within y c → suc n ≡ suc (j + (duration c + m))
      → After v y l w i s (set_thread s i (close_branch j (in_branch l' w' p q c) os c)) n
  inner_close {os} {m} {l'} w' {p} {q} {c} zero n a h hp hq hc e = goes s (at_code c os) (agree_same v s) refl refl (runs a hc (omega arith))
  inner_close {os} {m} {l'} w' {p} {q} {c} (suc j) n a h hp hq hc e = goes s (at_idle j (in_branch l' w' p q c ∷ os)) (agree_same v s) refl refl (waits a h hp hq hc (omega arith))

  done_step : {os : List Open} {m : ℕ} (n : ℕ) → Above v y l w os m → suc n ≡ 0 + m → After v y l w i s (step_at v.k v.sc s i done running os) n
  unfolding step_at
  done_step n at_base e = base_close (lag w y.p y.q) n (omega arith)
  done_step n (in_br {w' = w'} {p = p} {q = q} a h hp hq hc) e = inner_close w' (lag w' p q) n a h hp hq hc (omega arith)
  done_step n (in_lk {os = os} {c = c} a h hc) e = goes s (at_code c os) (agree_same v s) refl refl (runs a hc (omega arith))

  module _ (os : List Open) (eo : (get_or s.threads i ended).inside ≡ os) (g : Guards v s.cells os) {m : ℕ} (a : Above v y l w os m) where
    -- What either way assigns is hidden already, and its guard is.
    cell-hid : (x : ℕ) → x < length s.cells → T (assigned x y.p y.q) → Hid v (get_or s.cells x blank).level
    cell-hid x b t = record { is = λ z. hl.is (g.over (above_in v a) x b t z) }

    guard-hid : (x : ℕ) → T (assigned x y.p y.q) → Hid v (guard v.k x s.threads 0)
    guard-hid x t = record { is = λ z. hl.is (guard_over v x i s.threads 0 (subst (In l y.p y.q) (sym eo) (above_in v a)) t (λ j. (hs.guards j).had) (had_zero v) z) }

    context-hid : Hid v (context os)
    context-hid = above_context v hl a

    cell-quiet : (x : ℕ) (c : Cell) → T (assigned x y.p y.q) → Hid v c.level → Agree v s (set_cell s x c)
    cell-quiet x c t h = record {
      cells_long = sym (length-set s.cells x c);
      cells = λ z. set_pred (λ (d : Cell). CR v (get_or s.cells z blank) d) s.cells x z c blank (cr_same v _)
          (λ e b. cr_hid v (subst (λ (n : ℕ). Hid v (get_or s.cells n blank).level) (sym e) (cell-hid x b t)) h);
      tracks_long = refl;
      tracks = λ n h. refl;
      channels_long = refl;
      channels = λ n h. refl;
      turns = refl;
    }

    raise-quiet : (p q : Code) (l' : ℕ) → Within y p → Within y q → Had v l' → Agree v s (set_cells s (raise v.k (λ x. assigned x p q) l' 0 s.cells))
    raise-quiet p q l' hp hq hl' = record {
      cells_long = sym (raise_long v.k (λ x. assigned x p q) l' 0 s.cells);
      cells = λ z. raise_pred v.k (λ x. assigned x p q) l' (λ (d : Cell). CR v (get_or s.cells z blank) d) s.cells z (cr_same v _)
          (λ t b. let old = cell-hid z b (either_within z p q hp hq t) in cr_hid v old (hid_left v (hs.cells.at z) hl' old));
      tracks_long = refl;
      tracks = λ n h. refl;
      channels_long = refl;
      channels = λ n h. refl;
      turns = refl;
    }

    channel-quiet : (h : ℕ) (c : Channel) → T (v.k.flows (context os) (channel_level v h)) → Agree v s (set_channel s h c)
    channel-quiet h c f = record {
      cells_long = refl;
      cells = λ z. cr_same v _;
      tracks_long = refl;
      tracks = λ n h. refl;
      channels_long = sym (length-set s.channels h c);
      channels = λ n z. set_pred (λ (d : Channel). get_or s.channels n unused ≡ d) s.channels h n c unused refl
          (λ e b. absurd (context-hid.is (seen_down v (context_had v os g.had) (channel_had v h) f (subst (λ (m : ℕ). Seen v (channel_level v m)) e z))));
      turns = refl;
    }

    put-quiet : (h : ℕ) (e : Expr) → Agree v s (do_put v.k v.sc s i h e os)
    unfolding do_put
    put-quiet h e = cond_ind (Agree v s) (v.k.flows (context os) (channel_level v h)) _ _ (λ t. channel-quiet h _ t) (λ t. agree_same v s)

    run_step : (c : Code) (n : ℕ) → Within y c → suc n ≡ duration c + m → After v y l w i s (step_at v.k v.sc s i c running os) n
    unfolding step_at
    run_step done n h e = done_step n a e
    run_step (skip c) n h e = goes s (at_code c os) (agree_same v s) refl refl (runs a (within_skip c h) (omega arith))
    run_step (assign x z c) n h e =
        let t = h.fewer x (or_left (eqb x x) (assigns x c) (eqb_refl x)) in
        goes (set_cell s x _) (at_code c os)
        (cell-quiet x _ t (hid_right v (level_had v s hs.cells z) (guard_had v x s.threads 0 (λ j. (hs.guards j).had) (had_zero v)) (guard-hid x t)))
        refl refl (runs a (within_assign x z c h) (omega arith))
    run_step (put x z c) n h e = goes (do_put v.k v.sc s i x z os) (at_code c os) (put-quiet x z) (put_threads v.k v.sc s i x z os) refl (runs a (within_put x z c h) (omega arith))
    run_step (branch z p q c) n h e =
        let hp = within_branch_p z p q c h in
        let hq = within_branch_q z p q c h in
        let hh = context_had v os g.had in
        let hz = level_had v s hs.cells z in
        let b = not (is_zero (value_of v.k v.sc s z)) in
        goes (set_cells s _) _ (raise-quiet p q _ hp hq (join_had v hh hz)) refl refl
        (runs (in_br a (hid_left v hh hz context-hid) hp hq (within_branch z p q c h)) (one_way b hp hq)
        (omega (arith, lag_duration p q b (and_left (fixed_time p && fixed_time q) (fixed_time c) h.flat))))
    run_step (loop z b c) n h e = absurd h.flat
    run_step (lock x z b c) n h e =
        goes s (at_code b (in_lock x c ∷ os)) (agree_same v s) refl refl
        (runs (in_lk a (within_lock_mask x z b c h) (within_lock x z b c h)) (within_lock_in x z b c h) (omega arith))

  pub quiet_step : {c : Code} {r : Pace} {os : List Open} {n : ℕ} → (get_or s.threads i ended).inside ≡ os → Guards v s.cells os
      → Quiet v y l w c r os (suc n) → After v y l w i s (step_at v.k v.sc s i c r os) n
  unfolding step_at
  quiet_step {n = n} eo g (runs {c = c} {os = os} a h e) = run_step os eo g a c n h e
  quiet_step {n = n} eo g (waits {j = j} {w' = w'} a h hp hq hc e) = inner_close w' j n a h hp hq hc e
  quiet_step {n = n} eo g (waits_last {j = j} e) = base_close j n e
