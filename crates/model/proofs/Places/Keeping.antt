-- What the machine reaches has an account: as a run is made, and after every turn.
use Rattle.std.proofs.Common.{◌≡◌, ℕ, zero, suc, ◌<◌, Bool, true, false, cond, T, eqb, ◌≢◌, List, [], ◌∷◌, map, length, get_or, set, replicate, sym, refl, ap, ◌∙◌, subst, arith, eqb→eq, length-set, get_or-set_same}
use lib.Dec.{eqb_refl}
use Rattle.model.proofs.Tests.{by_test}
use lib.ListN.{length-map}
use Rattle.lattice.specs.Levels.{Levels, Lawful}
use Rattle.codec.specs.Expressions.{Expr}
use Rattle.script.specs.Code.{Code, Script}
use Rattle.script.specs.Code.Code.{done, skip, assign, put, branch, loop, lock}
use Rattle.script.specs.Trees.{script_frames}
use Rattle.model.specs.Levels.{Levelled}
use Rattle.model.specs.Values.{blank, is_zero}
use Rattle.model.specs.Threads.{Open, Pace, Thread, ended, at_code}
use Rattle.model.specs.Threads.Open.{in_branch, in_loop, in_lock}
use Rattle.model.specs.Threads.Pace.{running, idling}
use Rattle.model.specs.Machine.{State, value_of, lag, step_at, step, do_put, close_branch}
use Rattle.model.specs.Calls.{begin}
use Rattle.model.specs.Places.{spot_after, move, start_spot}
use Rattle.model.specs.Fitting.{Account, Accounts, Accountable, Coded, CodedRun, Idles, contexts, behind_thread}
use Rattle.model.proofs.Puts.{put_threads}
use Rattle.model.proofs.Confidential.View.{View, Had}
use Rattle.model.proofs.Confidential.Stack.{In, HadStack, Sound, had_pop}
use Rattle.model.proofs.Confidential.Stack.In.{here, there}
use Rattle.model.proofs.Confidential.SoundStep.{sound_step}
use Rattle.model.proofs.Confidential.Secret.{bounds}
use Rattle.model.proofs.Places.Standing.{step_moves, step_others}
use Rattle.model.proofs.Places.Accounted.{begin_accounts}

-- Idle turns are inside a branch

close_idles : (j l : ℕ) (w : Bool) (p q c : Code) (os : List Open) → (let t = close_branch j (in_branch l w p q c) os c in Idles t.pace t.inside)
close_idles zero l w p q c os = tt
close_idles (suc j) l w p q c os = tt

loop_idles : (z : Bool) (e : Expr) (b c : Code) (os : List Open) → (let t = cond z (at_code c os) (at_code b (in_loop e b c ∷ os)) in Idles t.pace t.inside)
loop_idles true e b c os = tt
loop_idles false e b c os = tt

-- A thread that idles, if it does, inside a branch.
abbrev IdlingWell : Thread → Type 0
IdlingWell t = Idles t.pace t.inside

module _ (k : Levels) (sc : Script) (st : State) (i : ℕ) (within : i < length st.threads) where
  set_idles : (ts : List Thread) (t : Thread) → ts ≡ st.threads → IdlingWell t → IdlingWell (get_or (set ts i t) i ended)
  set_idles ts t e v = subst IdlingWell (sym (get_or-set_same ts i t ended (omega (arith, ap length e)))) v

  step_at_idles : (c : Code) (pace : Pace) (os : List Open) → Idles pace os
      → get_or st.threads i ended ≡ record { code = c; pace = pace; inside = os }
      → IdlingWell (get_or (step_at k sc st i c pace os).threads i ended)
  unfolding step_at
  step_at_idles c (idling n) [] v e = absurd v
  step_at_idles c (idling n) (in_branch l y p q next ∷ os) v e = set_idles st.threads _ refl (close_idles n l y p q next os)
  step_at_idles c (idling n) (in_loop o b next ∷ os) v e = absurd v
  step_at_idles c (idling n) (in_lock m next ∷ os) v e = absurd v
  step_at_idles done running [] v e = subst IdlingWell (sym e) tt
  step_at_idles done running (in_branch l y p q next ∷ os) v e = set_idles st.threads _ refl (close_idles (lag y p q) l y p q next os)
  step_at_idles done running (in_loop o b next ∷ os) v e = set_idles st.threads _ refl tt
  step_at_idles done running (in_lock m next ∷ os) v e = set_idles st.threads _ refl tt
  step_at_idles (skip c) running os v e = set_idles st.threads _ refl tt
  step_at_idles (assign x o c) running os v e = set_idles st.threads _ refl tt
  step_at_idles (put y o c) running os v e = set_idles (do_put k sc st i y o os).threads _ (put_threads k sc st i y o os) tt
  step_at_idles (branch o p q c) running os v e = set_idles st.threads _ refl tt
  step_at_idles (loop o b c) running os v e = set_idles st.threads _ refl (loop_idles (is_zero (value_of k sc st o)) o b c os)
  step_at_idles (lock m o b c) running os v e = set_idles st.threads _ refl tt

-- There are as many threads as before.
module _ (k : Levels) (sc : Script) (st : State) (i : ℕ) where
  step_at_long : (c : Code) (pace : Pace) (os : List Open) → length (step_at k sc st i c pace os).threads ≡ length st.threads
  unfolding step_at
  step_at_long c (idling n) [] = refl
  step_at_long c (idling n) (in_branch l y p q next ∷ os) = length-set st.threads i _
  step_at_long c (idling n) (in_loop o b next ∷ os) = refl
  step_at_long c (idling n) (in_lock m next ∷ os) = refl
  step_at_long done running [] = refl
  step_at_long done running (in_branch l y p q next ∷ os) = length-set st.threads i _
  step_at_long done running (in_loop o b next ∷ os) = length-set st.threads i _
  step_at_long done running (in_lock m next ∷ os) = length-set st.threads i _
  step_at_long (skip c) running os = length-set st.threads i _
  step_at_long (assign x o c) running os = length-set st.threads i _
  step_at_long (put y o c) running os = length-set (do_put k sc st i y o os).threads i _ ∙ ap length (put_threads k sc st i y o os)
  step_at_long (branch o p q c) running os = length-set st.threads i _
  step_at_long (loop o b c) running os = length-set st.threads i _
  step_at_long (lock m o b c) running os = length-set st.threads i _

-- Levels are codes: everything is seen

module _ (v : View) where
  coded_had : (os : List Open) → Coded v.k os → {l : ℕ} {p q : Code} → In l p q os → Had v l
  coded_had [] c m = elim m [ ]
  coded_had (in_branch l w p q n ∷ os) c here = record { is = c.0 }
  coded_had (in_branch l w p q n ∷ os) c (there m) = coded_had os c.1 m
  coded_had (in_loop e b n ∷ os) c (there m) = coded_had os c m
  coded_had (in_lock x n ∷ os) c (there m) = coded_had os c m

  had_coded : (os : List Open) → HadStack v os → Coded v.k os
  had_coded [] h = tt
  had_coded (in_branch l w p q n ∷ os) h = ((h.at here).is, had_coded os (had_pop v h))
  had_coded (in_loop e b n ∷ os) h = had_coded os (had_pop v h)
  had_coded (in_lock m n ∷ os) h = had_coded os (had_pop v h)

module _ (k : Levels) (sc : Script) (law : Lawful k) (lev : Levelled k sc) where
  abbrev all_seen : View
  all_seen = record { k = k; sc = sc; seen = λ l. true; law = bounds law; levelled = lev; view = record { open_seen = tt; down = λ a b ha hb f s. tt } }

  sound_of : (s : State) → CodedRun k s → Sound all_seen s.cells s.threads
  sound_of s h = record {
    cells = record { at = λ x. record { is = h.cells x } };
    guards = λ i. record { had = record { at = coded_had all_seen (get_or s.threads i ended).inside (h.branches i) }; over = λ m x b a s. record { is = tt } };
  }

  pub stays_coded : (s : State) (i : ℕ) → CodedRun k s → CodedRun k (step k sc s i)
  stays_coded s i h =
      let after = sound_step all_seen s i (sound_of s h) in
      record { cells = λ x. (after.cells.at x).is; branches = λ j. had_coded all_seen (get_or (step k sc s i).threads j ended).inside (after.guards j).had }

  module _ (s : State) (i : ℕ) (h : Accountable k sc s) where
    long_after : length (step k sc s i).threads ≡ length sc.codes
    long_after = let t = get_or s.threads i ended in step_at_long k sc s i t.code t.pace t.inside ∙ h.long

    -- The thread that had the turn.
    turned : i < length sc.codes → (a : Account) → Accounts k (script_frames sc) (behind_thread sc i) a (get_or s.threads i ended)
        → (b : Account) × Accounts k (script_frames sc) (behind_thread sc i) b (get_or (step k sc s i).threads i ended)
    turned l a c =
        let fs = script_frames sc in
        let t = get_or s.threads i ended in
        let u = get_or (step k sc s i).threads i ended in
        let within : i < length s.threads = omega (arith, h.long) in (
          record { spot = spot_after fs (move k sc s t.code t.pace t.inside) a.spot; levels = contexts u.inside; pace = u.pace },
          record {
            stands = step_moves k sc fs (behind_thread sc i) s i within a.spot c.stands;
            levels = refl;
            coded = (stays_coded s i h.coded).branches i;
            pace = refl;
            idles = step_at_idles k sc s i within t.code t.pace t.inside c.idles refl;
          },
        )

    each_after : (j : ℕ) → j < length sc.codes → (b : Account) × Accounts k (script_frames sc) (behind_thread sc j) b (get_or (step k sc s i).threads j ended)
    each_after j l = by_test (eqb j i) same other
      where
        same : T (eqb j i) → (b : Account) × Accounts k (script_frames sc) (behind_thread sc j) b (get_or (step k sc s i).threads j ended)
        same e =
            let p : j ≡ i = eqb→eq j i e in
            let c = h.each i (omega (arith, p, l)) in
            subst (λ (x : ℕ). (b : Account) × Accounts k (script_frames sc) (behind_thread sc x) b (get_or (step k sc s i).threads x ended)) (sym p) (turned (omega (arith, p, l)) c.0 c.1)

        other : eqb j i ≡ false → (b : Account) × Accounts k (script_frames sc) (behind_thread sc j) b (get_or (step k sc s i).threads j ended)
        other e =
            let t = get_or s.threads i ended in
            let ne : j ≢ i = λ (p : j ≡ i). subst T e (subst (λ (x : ℕ). T (eqb j x)) p (eqb_refl j)) in
            let c = h.each j l in
            (c.0, subst (Accounts k (script_frames sc) (behind_thread sc j) c.0) (sym (step_others k sc s i t.code t.pace t.inside j ne)) c.1)

    pub stays_so : Accountable k sc (step k sc s i)
    stays_so = record { long = long_after; coded = stays_coded s i h.coded; each = each_after }

  -- As a run is made.
  blank_coded : (n x : ℕ) → T (k.has (get_or (replicate n blank) x blank).level)
  blank_coded zero x = law.open_has
  blank_coded (suc n) zero = law.open_has
  blank_coded (suc n) (suc x) = blank_coded n x

  begin_coded : (cs : List Code) (i : ℕ) → Coded k (get_or (map (λ c. at_code c []) cs) i ended).inside
  begin_coded [] i = tt
  begin_coded (c ∷ cs) zero = tt
  begin_coded (c ∷ cs) (suc i) = begin_coded cs i

  pub starts_so : Accountable k sc (begin sc)
  starts_so = record {
    long = length-map sc.codes (λ c. at_code c []);
    coded = record { cells = blank_coded sc.variables; branches = begin_coded sc.codes };
    each = λ i l. (record { spot = start_spot (script_frames sc) i; levels = []; pace = running }, begin_accounts k sc i l);
  }
