-- The machine agrees with the automaton, command by command.
use Rattle.std.proofs.Common.{◌≡◌, ℕ, zero, suc, pred, ◌+◌, ◌<◌, Bool, true, false, cond, not, ◌&&◌, ◌||◌, T, eqb, ltb, List, [], ◌∷◌, map, length, get_or, set, replicate, pos, sym, refl, ap, ◌∙◌, subst, inl, inr, arith, eqb→eq, ltb→lt, nltb→le, rules}
use mathlib.Core.Option.{Option, none, some}
use lib.Dec.{eqb_refl}
use lib.ListN.{get_or-eq_default}
use lib.Bits.{bit_or}
use Rattle.model.specs.Levels.{is_open}
use Rattle.codec.specs.Expressions.{Expr}
use Rattle.script.specs.Code.{Code, Script}
use Rattle.model.specs.Stretches.{assigns, needs, fixed_time}
use Rattle.script.specs.Code.Code.{done, skip, assign, put, branch, loop, lock}
use Rattle.model.specs.Values.{Cell, blank, is_zero}
use Rattle.model.specs.Threads.{Open, Pace, Thread, ended, context, owned, reserved, against, clash, guard, at_code, at_idle}
use Rattle.model.specs.Machine.{State, Status, level_of, value_of, chosen_status, status_is_ready, raise, lag, close_branch, set_thread, set_cell, set_cells, do_put, step_at, set_channel, add_entry, unused}
use Rattle.model.specs.Threads.Open.{in_branch, in_loop, in_lock}
use Rattle.model.specs.Threads.Pace.{running, idling}
use Rattle.model.specs.Machine.Status.{ready, waiting, barred}
use Rattle.model.specs.Calls.{begin}
use Rattle.model.specs.Automaton.{Q, Input, Output, apart, all_bottom, and_then, either_defines, either_needs, carries, with_w, with_V, entering, leaving, merged, react, update, without}
use Rattle.model.specs.Automaton.Input.{at_branch, at_merge, at_sync, at_assign}
use Rattle.model.specs.Automaton.Output.{ok, no, default}
use Rattle.lattice.specs.Orders.{two_point}
use Rattle.model.specs.Follows.{on_open, outermost, counted, assigning, all_reserved, word, pool, Same, others, entered, asked, Does, Ends, Puts, PutsTo, Begins, Tests, Loops, Syncs, Agrees, first, Follows}
use Rattle.model.proofs.Tests.{by_test, is_true, and_left, and_right, or_left, or_right}
use Rattle.model.proofs.Published.Masks.{test, test_or, test_zero}
use Rattle.model.proofs.Published.Opens.{open_join, flows_open, not_not, level_carries}
use Rattle.model.proofs.Published.Locks.{reserved_found, reserved_more, reserved_less, without_again}
use Rattle.model.proofs.Published.Sound.{Bound, Sound, Kept, clear, as_test, word_context, none_reserved, guard_assigning, assigning_set, assigning_at, set_get, set_put, within_locks, within_literal}
use Rattle.model.proofs.Published.Reach.{more_than_none, raise_at, begun_inside, begun_none, reached_kept}
use Rattle.model.proofs.Published.Moves.{same_refl, moved, still, untold, ways_define, ways_need, ways_go, literal_true, apart_or, against_others, reserved_mine, reserved_free}
use Rattle.model.proofs.Puts.{put_cells, put_threads}

less_one : (m n o c : ℕ) (b : Bool) → m + o ≡ n + c → o ≡ cond b (suc c) c → m ≡ cond b (pred n) n
less_one m n o c true h f = let g : o ≡ suc c = f in let r : m ≡ pred n = omega arith in r
less_one m n o c false h f = let g : o ≡ c = f in let r : m ≡ n = omega arith in r

one_more : (m n o c : ℕ) (b : Bool) → m + c ≡ n + o → o ≡ cond b (suc c) c → m ≡ cond b (suc n) n
one_more m n o c true h f = let g : o ≡ suc c = f in let r : m ≡ suc n = omega arith in r
one_more m n o c false h f = let g : o ≡ c = f in let r : m ≡ n = omega arith in r

-- Only what is ready is ready.
pub never : {P : Type 0} (t : Status) → status_is_ready t ≡ false → t ≡ ready → P
never t f h = clear true tt (sym (ap status_is_ready h) ∙ f)

module _ (sc : Script) (s : State) (K : Kept sc.variables s.cells s.threads) (i : ℕ) (here : i < length s.threads) where
  module _ (os : List Open) (ins : (get_or s.threads i ended).inside ≡ os) (so : Sound os) where
    bottoms : all_bottom (asked sc s i).w ≡ is_open (context os)
    bottoms = ap (λ (u : List Open). all_bottom (word u)) ins ∙ word_context os so

    -- The end of a branch, a loop or a with

    ends : (l : ℕ) (w : Bool) (p q next : Code) (outer : List Open) → os ≡ in_branch l w p q next ∷ outer → Sound (in_branch l w p q next ∷ outer) → (left : ℕ) →
        Ends sc s i (cond w p q) (cond w q p) left (set_thread s i (close_branch left (in_branch l w p q next) outer next))
    ends l w p q next outer e h (suc left) =
        untold sc s i (set_thread s i (at_idle left (in_branch l w p q next ∷ outer))) (at_idle left (in_branch l w p q next ∷ outer)) refl refl
        (λ x. ap (counted x) (ins ∙ e)) (ap reserved (ins ∙ e)) (ap word (sym (ins ∙ e)))
    ends l w p q next outer e h zero = by_test (outermost l outer) closes opens
      where
        then : State
        then = set_thread s i (at_code next outer)

        was : (get_or s.threads i ended).inside ≡ in_branch l w p q next ∷ outer
        was = ins ∙ e

        opens : outermost l outer ≡ false → Does sc s i (at_merge (cond w p q) (cond w q p)) ok then
        opens o = record {
          next = with_w (asked sc s i) (word outer);
          answer = ap (λ (u : List Bool). merged (asked sc s i) u (cond w p q) (cond w q p)) (ap word was ∙ ap (λ (b : Bool). b ∷ word outer) o);
          moves = still sc s i then (at_code next outer) (word outer) here refl (λ x m. refl)
              (λ x. ap (counted x) was ∙ ap (λ (b : Bool). cond (b && (assigns x p || assigns x q)) (suc (counted x outer)) (counted x outer)) o)
              (ap reserved was ∙ ap (λ (b : Bool). bit_or (cond b (bit_or (needs p) (needs q)) 0) (reserved outer)) o) refl;
        }

        closes : T (outermost l outer) → Does sc s i (at_merge (cond w p q) (cond w q p)) ok then
        closes o = record {
          next = leaving (asked sc s i) (either_defines (cond w p q) (cond w q p)) (either_needs (cond w p q) (cond w q p)) (word outer);
          answer =
              ap (λ (u : List Bool). merged (asked sc s i) u (cond w p q) (cond w q p)) (ap word was ∙ ap (λ (b : Bool). b ∷ word outer) (is_true (outermost l outer) o))
              ∙ ap (λ (b : Bool). cond b none (some (ok, leaving (asked sc s i) (either_defines (cond w p q) (cond w q p)) (either_needs (cond w p q) (cond w q p)) (word outer)))) (ways_go w p q (h.1 shut));
          moves = moved sc s i then (at_code next outer) (leaving (asked sc s i) (either_defines (cond w p q) (cond w q p)) (either_needs (cond w p q) (cond w q p)) (word outer)) here refl
              (λ x m. refl) (λ y. refl) fewer locks refl;
        }
          where
            shut : is_open l ≡ false
            shut = go (is_open l) (and_right (is_open (context outer)) (not (is_open l)) o)
              where
                go : (b : Bool) → T (not b) → b ≡ false
                go true h = absurd h
                go false h = refl

            d : ℕ
            d = bit_or (needs p) (needs q)

            reserves : reserved (get_or s.threads i ended).inside ≡ bit_or d (reserved outer)
            reserves = ap reserved was ∙ ap (λ (b : Bool). bit_or (cond b d 0) (reserved outer)) (is_true (outermost l outer) o)

            fewer : (x : ℕ) → assigning x (set s.threads i (at_code next outer)) ≡ cond (either_defines (cond w p q) (cond w q p) x) (pred (assigning x s.threads)) (assigning x s.threads)
            fewer x = go (either_defines (cond w p q) (cond w q p) x) (ap (counted x) was ∙ ap (λ (b : Bool). cond (b && (assigns x p || assigns x q)) (suc (counted x outer)) (counted x outer)) (is_true (outermost l outer) o) ∙ ap (λ (b : Bool). cond b (suc (counted x outer)) (counted x outer)) (sym (ways_define w p q x)))
              where
                go : (b : Bool) → counted x (get_or s.threads i ended).inside ≡ cond b (suc (counted x outer)) (counted x outer) → assigning x (set s.threads i (at_code next outer)) ≡ cond b (pred (assigning x s.threads)) (assigning x s.threads)
                go b f = less_one (assigning x (set s.threads i (at_code next outer))) (assigning x s.threads) (counted x (get_or s.threads i ended).inside) (counted x outer) b (assigning_set x s.threads i (at_code next outer) here) f

            nobody : (n : ℕ) → T (test n (all_reserved (set s.threads i (at_code next outer)))) → T (test n d) → ⊥
            nobody n x y = go (reserved_found n (set s.threads i (at_code next outer)) x).0 (reserved_found n (set s.threads i (at_code next outer)) x).1
              where
                none_left : T (test n (reserved outer)) → ⊥
                none_left z = rw (none_reserved outer h.3 (and_left (is_open (context outer)) (not (is_open l)) o), test_zero n) at z

                by_name : (j : ℕ) (b : Bool) → eqb j i ≡ b → T (test n (reserved (cond b (at_code next outer) (get_or s.threads j ended)).inside)) → ⊥
                by_name j true f z = none_left z
                by_name j false f z =
                    let same : j ≡ i = reserved_mine K i (get_or s.threads i ended).inside refl n j (subst (λ (m : ℕ). T (test n m)) (sym reserves) (rw (test_or n d (reserved outer)) (or_left (test n d) (test n (reserved outer)) y))) (or_right (test n (owned (get_or s.threads j ended).inside)) (test n (reserved (get_or s.threads j ended).inside)) z) in
                    clear (eqb j i) (subst (λ (m : ℕ). T (eqb m i)) (sym same) (eqb_refl i)) f

                go : (j : ℕ) → T (test n (reserved (get_or (set s.threads i (at_code next outer)) j ended).inside)) → ⊥
                go j z = by_name j (eqb j i) refl (subst (λ (u : Thread). T (test n (reserved u.inside))) (set_put s.threads i (at_code next outer) j ended here) z)

            locks : all_reserved (set s.threads i (at_code next outer)) ≡ without (all_reserved s.threads) (either_needs (cond w p q) (cond w q p))
            locks =
                sym (without_again (all_reserved (set s.threads i (at_code next outer))) d nobody)
                ∙ ap (λ (m : ℕ). without m d) (sym (reserved_less s.threads i (at_code next outer) d here reserves))
                ∙ ap (λ (m : ℕ). without (all_reserved s.threads) m) (sym (ways_need w p q))

    -- Assign
    assigned : (x : ℕ) (e : Expr) (c : Code) → Does sc s i (at_assign x e) ok (set_thread (set_cell s x (record { value = value_of two_point sc s e; level = two_point.join (level_of two_point sc s e) (guard two_point x s.threads 0) })) i (at_code c os))
    assigned x e c = go (carries (asked sc s i) e || not (eqb (assigning x s.threads) 0)) refl
      where
        cell : Cell
        cell = record { value = value_of two_point sc s e; level = two_point.join (level_of two_point sc s e) (guard two_point x s.threads 0) }

        then : State
        then = set_thread (set_cell s x cell) i (at_code c os)

        either_way : (a b : Bool) → not (not a && b) ≡ a || not b
        either_way true b = refl
        either_way false b = refl

        closed : not (is_open cell.level) ≡ carries (asked sc s i) e || not (eqb (assigning x s.threads) 0)
        closed =
            ap not (open_join (level_of two_point sc s e) (guard two_point x s.threads 0))
            ∙ ap (λ (b : Bool). not (b && is_open (guard two_point x s.threads 0))) (level_carries sc s i e)
            ∙ ap (λ (b : Bool). not (not (carries (asked sc s i) e) && b)) (guard_assigning x s.threads 0 K.good)
            ∙ either_way (carries (asked sc s i) e) (eqb (assigning x s.threads) 0)

        seen : (v : ℕ → Bool) → ((y : ℕ) → not (is_open (cond (eqb y x) cell (get_or s.cells y blank)).level) ≡ v y) → Same sc.variables (pool sc then) (update (pool sc s) i (with_V (asked sc s i) v))
        seen v f = moved sc s i then (at_code c os) (with_V (asked sc s i) v) here refl
            (λ y l. ap (λ (u : Cell). not (is_open u.level)) (set_get s.cells x cell y blank (subst (λ (k : ℕ). y < k) (sym K.long) l)) ∙ f y)
            (λ y. refl)
            (λ y. Rattle.model.proofs.Published.Sound.assigning_still y s.threads i (at_code c os) (ap (counted y) ins))
            (Rattle.model.proofs.Published.Locks.reserved_still s.threads i (at_code c os) (ap reserved ins))
            (ap word (sym ins))

        at : (y : ℕ) (b v : Bool) → not (is_open cell.level) ≡ v → not (is_open (cond b cell (get_or s.cells y blank)).level) ≡ cond b v (not (is_open (get_or s.cells y blank).level))
        at y true v f = f
        at y false v f = refl

        up : (b v : Bool) → cond b true v ≡ b || v
        up true v = refl
        up false v = refl

        down : (b v : Bool) → cond b false v ≡ not b && v
        down true v = refl
        down false v = refl

        go : (b : Bool) → carries (asked sc s i) e || not (eqb (assigning x s.threads) 0) ≡ b → Does sc s i (at_assign x e) ok then
        go true f = record {
          next = with_V (asked sc s i) (λ y. eqb y x || (asked sc s i).V y);
          answer = ap (λ (b : Bool). cond b (some (ok, with_V (asked sc s i) (λ y. eqb y x || (asked sc s i).V y))) (some (ok, with_V (asked sc s i) (λ y. not (eqb y x) && (asked sc s i).V y)))) f;
          moves = seen (λ y. eqb y x || (asked sc s i).V y) (λ y. at y (eqb y x) true (closed ∙ f) ∙ up (eqb y x) ((asked sc s i).V y));
        }
        go false f = record {
          next = with_V (asked sc s i) (λ y. not (eqb y x) && (asked sc s i).V y);
          answer = ap (λ (b : Bool). cond b (some (ok, with_V (asked sc s i) (λ y. eqb y x || (asked sc s i).V y))) (some (ok, with_V (asked sc s i) (λ y. not (eqb y x) && (asked sc s i).V y)))) f;
          moves = seen (λ y. not (eqb y x) && (asked sc s i).V y) (λ y. at y (eqb y x) false (closed ∙ f) ∙ down (eqb y x) ((asked sc s i).V y));
        }

    -- Put
    abbrev answered : Bool → Bool → Output
    answered true true = default
    answered true false = ok
    answered false m = no

    put_is : (h : ℕ) (e : Expr) (b m : Bool) → T (on_open sc h) → is_open (context os) ≡ b → carries (asked sc s i) e ≡ m → do_put two_point sc s i h e os ≡ entered sc s i h e (answered b m)
    unfolding do_put
    put_is h e b m o eb em =
        rw (eqb→eq (get_or sc.channel_levels h 0) 0 o, flows_open (context os), eb, flows_open (level_of two_point sc s e), level_carries sc s i e, em) (go b m)
      where
        go : (b m : Bool) → cond b (set_channel s h (add_entry (get_or sc.channel_sizes h 0) (record { turn = suc s.turns; thread = i; mark = not (not m); value = cond (not m) (value_of two_point sc s e) (pos 0) }) (get_or s.channels h unused))) s ≡ entered sc s i h e (answered b m)
        go true true = refl
        go true false = refl
        go false m = refl

    puts : (h : ℕ) (e : Expr) (c : Code) → T (on_open sc h) → Puts sc s i h e (at_code c os) (set_thread (do_put two_point sc s i h e os) i (at_code c os))
    puts h e c o = record {
      says = answered (is_open (context os)) (carries (asked sc s i) e);
      does = record {
        next = asked sc s i;
        answer = ap (λ (b : Bool). cond b (cond (carries (asked sc s i) e) (some (default, asked sc s i)) (some (ok, asked sc s i))) (some (no, asked sc s i))) bottoms ∙ go (is_open (context os)) (carries (asked sc s i) e);
        moves = still sc s i (set_thread (do_put two_point sc s i h e os) i (at_code c os)) (at_code c os) (asked sc s i).w here
            (ap (λ (ts : List Thread). set ts i (at_code c os)) (put_threads two_point sc s i h e os))
            (λ x l. ap (λ (cs : List Cell). not (is_open (get_or cs x blank).level)) (put_cells two_point sc s i h e os))
            (λ x. ap (counted x) ins) (ap reserved ins) (ap word (sym ins));
      };
      enters = ap (λ (r : State). set_thread r i (at_code c os)) (put_is h e (is_open (context os)) (carries (asked sc s i) e) o refl refl);
    }
      where
        go : (b m : Bool) → ◌≡◌ {A = Option (Output × Q)} (cond b (cond m (some (default, asked sc s i)) (some (ok, asked sc s i))) (some (no, asked sc s i))) (some (answered b m, asked sc s i))
        go true true = refl
        go true false = refl
        go false m = refl

    puts-to : (h : ℕ) (e : Expr) (c : Code) → (b : Bool) → on_open sc h ≡ b → PutsTo sc s i b h e (at_code c os) (set_thread (do_put two_point sc s i h e os) i (at_code c os))
    puts-to h e c true o = puts h e c (as_test (on_open sc h) o)
    puts-to h e c false o =
        untold sc s i (set_thread (do_put two_point sc s i h e os) i (at_code c os)) (at_code c os)
        (ap (λ (ts : List Thread). set ts i (at_code c os)) (put_threads two_point sc s i h e os)) (put_cells two_point sc s i h e os)
        (λ x. ap (counted x) ins) (ap reserved ins) (ap word (sym ins))

    -- Loop
    tests : (e : Expr) (b c : Code) → carries (asked sc s i) e ≡ false → (z : Bool) → Tests sc s i z e b (set_thread s i (cond z (at_code c os) (at_code b (in_loop e b c ∷ os))))
    tests e b c f false = record {
      next = with_w (asked sc s i) (false ∷ (asked sc s i).w);
      answer = rw f;
      moves = still sc s i (set_thread s i (at_code b (in_loop e b c ∷ os))) (at_code b (in_loop e b c ∷ os)) (false ∷ (asked sc s i).w) here refl (λ x l. refl) (λ x. ap (counted x) ins) (ap reserved ins) (ap (λ (u : List Open). false ∷ word u) (sym ins));
    }
    tests e b c f true = (
      with_w (asked sc s i) (false ∷ (asked sc s i).w),
      rw f,
      asked sc s i,
      refl,
      still sc s i (set_thread s i (at_code c os)) (at_code c os) (asked sc s i).w here refl (λ x l. refl) (λ x. ap (counted x) ins) (ap reserved ins) (ap word (sym ins)),
    )

    loops : (e : Expr) (b c : Code) (m : Bool) → carries (asked sc s i) e ≡ m →
        Loops sc s i m e b (chosen_status (not (is_open (level_of two_point sc s e))) false) (set_thread s i (cond (is_zero (value_of two_point sc s e)) (at_code c os) (at_code b (in_loop e b c ∷ os))))
    loops e b c true f = rw (level_carries sc s i e, f)
    loops e b c false f = (rw (level_carries sc s i e, f), tests e b c f (is_zero (value_of two_point sc s e)))

    -- With
    locks : (m : ℕ) (e : Expr) (b c : Code) → Bound (lock m e b c) os →
        Syncs sc s i m e (chosen_status (not (is_open (level_of two_point sc s e))) (is_open (context os) && (is_zero (value_of two_point sc s e) || clash m (against i s.threads)))) (set_thread s i (at_code b (in_lock m c ∷ os)))
    locks m e b c bo = record { allows = allows; allowed = allowed }
      where
        then : State
        then = set_thread s i (at_code b (in_lock m c ∷ os))

        is-now : chosen_status (not (is_open (level_of two_point sc s e))) (is_open (context os) && (is_zero (value_of two_point sc s e) || clash m (against i s.threads)))
            ≡ chosen_status (carries (asked sc s i) e) (is_open (context os) && (is_zero (value_of two_point sc s e) || not (apart m (others i s.threads) && apart m (all_reserved s.threads))))
        is-now = rw (level_carries sc s i e, not_not, against_others K i, apart_or m (others i s.threads) (all_reserved s.threads))

        does : not (carries (asked sc s i) e) && (not (all_bottom (asked sc s i).w) || apart m (all_reserved s.threads)) ≡ true → Does sc s i (at_sync m e) ok then
        does f = record {
          next = asked sc s i;
          answer = ap (λ (v : Bool). cond v (some (ok, asked sc s i)) none) f;
          moves = still sc s i then (at_code b (in_lock m c ∷ os)) (asked sc s i).w here refl (λ x l. refl) (λ x. ap (counted x) ins) (ap reserved ins) (ap word (sym ins));
        }

        parts : (c b z x y : Bool) → chosen_status c (b && (z || not (x && y))) ≡ ready → (not c && (not b || y) ≡ true) × (T b → (z ≡ false) × T x)
        parts true b z x y h = never barred refl h
        parts false true true x y h = never waiting refl h
        parts false true false true true h = (refl, (λ o. (refl, tt)))
        parts false true false true false h = never waiting refl h
        parts false true false false y h = never waiting refl h
        parts false false z x y h = (refl, (λ o. absurd o))

        allows : chosen_status (not (is_open (level_of two_point sc s e))) (is_open (context os) && (is_zero (value_of two_point sc s e) || clash m (against i s.threads))) ≡ ready →
            Does sc s i (at_sync m e) ok then × (is_zero (value_of two_point sc s e) ≡ false) × T (apart m (others i s.threads))
        allows h =
            let r = parts (carries (asked sc s i) e) (is_open (context os)) (is_zero (value_of two_point sc s e)) (apart m (others i s.threads)) (apart m (all_reserved s.threads)) (sym is-now ∙ h) in
            let d = does (rw bottoms r.0) in
            by_test (is_open (context os))
            (λ o. (d, (r.1 o).0, (r.1 o).1))
            (λ o. (d, literal_true sc s e (within_literal os m e b c (bo o)), reserved_free K i os ins m (within_locks os m e b c (bo o))))

        back : (c w x y z : Bool) → z ≡ false → T x → not c && (not w || y) ≡ true → chosen_status c (w && (z || not (x && y))) ≡ ready
        back true w x y z ez hx f = clear true tt (sym f)
        back false false x y z ez hx f = refl
        back false true true true false ez hx f = refl
        back false true true true true ez hx f = clear true tt ez
        back false true true false z ez hx f = clear true tt (sym f)
        back false true false y z ez hx f = absurd hx

        taken : (v : Bool) (q : Q) → ◌≡◌ {A = Option (Output × Q)} (cond v (some (ok, asked sc s i)) none) (some (ok, q)) → v ≡ true
        taken true q h = refl
        taken false q h = absurd cc

        allowed : (next : Q) → react (asked sc s i) (at_sync m e) ≡ some (ok, next) → is_zero (value_of two_point sc s e) ≡ false → T (apart m (others i s.threads)) →
            chosen_status (not (is_open (level_of two_point sc s e))) (is_open (context os) && (is_zero (value_of two_point sc s e) || clash m (against i s.threads))) ≡ ready
        allowed next d z x = is-now ∙ back (carries (asked sc s i) e) (is_open (context os)) (apart m (others i s.threads)) (apart m (all_reserved s.threads)) (is_zero (value_of two_point sc s e)) z x (rw bottoms at (taken (not (carries (asked sc s i) e) && (not (all_bottom (asked sc s i).w) || apart m (all_reserved s.threads))) next d))

    -- Branch
    module _ (e : Expr) (p q c : Code) (bo : Bound (branch e p q c) os) (l : ℕ) (el : is_open l ≡ is_open (context os) && not (carries (asked sc s i) e)) (way : Bool) where
      abbrev wants : ℕ
      wants = bit_or (needs p) (needs q)

      abbrev marked : ℕ → Bool
      marked x = assigns x p || assigns x q

      abbrev after : Thread
      after = at_code (cond way p q) (in_branch l way p q c ∷ os)

      abbrev then : State
      then = set_thread (set_cells s (raise two_point (λ x. assigns x p || assigns x q) l 0 s.cells)) i after

      abbrev input : Input
      input = at_branch (others i s.threads) e (cond way p q) (cond way q p)

      abbrev bottom : Option (Output × Q)
      bottom = some (ok, with_w (asked sc s i) (false ∷ (asked sc s i).w))

      abbrev entry : Q
      entry = entering (asked sc s i) (either_defines (cond way p q) (cond way q p)) (either_needs (cond way p q) (cond way q p))

      old : ℕ → Bool
      old y = is_open (get_or s.cells y blank).level

      outer-facts : (po m lo : Bool) → lo ≡ po && not m → T (po && not lo) → (not m || not po ≡ false) × (lo ≡ false)
      outer-facts po m lo f h = search rules

      inner-facts : (po m lo : Bool) → lo ≡ po && not m → po && not lo ≡ false → not m || not po ≡ true
      inner-facts po m lo f h = search rules

      asks : (b : Bool) → not (carries (asked sc s i) e) || not (is_open (context os)) ≡ b → not (carries (asked sc s i) e) || not (all_bottom (asked sc s i).w) ≡ b
      asks b f = ap (λ (v : Bool). not (carries (asked sc s i) e) || not v) bottoms ∙ f

      room : (b : Bool) → apart wants (against i s.threads) ≡ b → apart (either_needs (cond way p q) (cond way q p)) (bit_or (others i s.threads) (all_reserved s.threads)) ≡ b
      room b f = ap (λ (m : ℕ). apart m (bit_or (others i s.threads) (all_reserved s.threads))) (ways_need way p q) ∙ ap (apart wants) (sym (against_others K i)) ∙ f

      reacts : (a b : Bool) → not (carries (asked sc s i) e) || not (is_open (context os)) ≡ a → apart wants (against i s.threads) ≡ b → react (asked sc s i) input ≡ cond a bottom (cond b (some (ok, entry)) none)
      reacts a b f g =
          ap (λ (v : Bool). cond v bottom (cond (apart (either_needs (cond way p q) (cond way q p)) (bit_or (others i s.threads) (all_reserved s.threads))) (some (ok, entry)) none)) (asks a f)
          ∙ ap (λ (v : Bool). cond a bottom (cond v (some (ok, entry)) none)) (room b g)

      in_cells : (y : ℕ) → y < sc.variables → is_open (get_or (raise two_point (λ x. assigns x p || assigns x q) l 0 s.cells) y blank).level ≡ old y && not (marked y && not (is_open l))
      unfolding old
      in_cells y h = raise_at (λ x. assigns x p || assigns x q) l s.cells y (subst (λ (k : ℕ). y < k) (sym K.long) h)

      enters : T (outermost l os) → T (apart wants (against i s.threads)) → Does sc s i input ok then
      unfolding old
      enters o a = record {
        next = entry;
        answer = reacts false true facts.0 (is_true (apart wants (against i s.threads)) a);
        moves = moved sc s i then after entry here refl
            (λ y h. ap not (in_cells y h) ∙ ap (λ (v : Bool). not (old y && not (marked y && not v))) facts.1 ∙ joins (old y) (marked y) ∙ ap (λ (v : Bool). not (old y) || v) (sym (ways_define way p q y)))
            (λ y. refl)
            (λ x. one_more (assigning x (set s.threads i after)) (assigning x s.threads) (counted x after.inside) (counted x (get_or s.threads i ended).inside) (either_defines (cond way p q) (cond way q p) x) (assigning_set x s.threads i after here)
            (ap (λ (v : Bool). cond (v && marked x) (suc (counted x os)) (counted x os)) up ∙ ap (λ (v : Bool). cond v (suc (counted x os)) (counted x os)) (sym (ways_define way p q x)) ∙ ap (λ (u : List Open). cond (either_defines (cond way p q) (cond way q p) x) (suc (counted x u)) (counted x u)) (sym ins)))
            (reserved_more s.threads i after wants here (ap (λ (v : Bool). bit_or (cond v wants 0) (reserved os)) up ∙ ap (λ (u : List Open). bit_or wants (reserved u)) (sym ins)) ∙ ap (bit_or (all_reserved s.threads)) (sym (ways_need way p q)))
            (ap (λ (v : Bool). v ∷ word os) up ∙ ap (λ (u : List Open). true ∷ word u) (sym ins));
      }
        where
          facts : (not (carries (asked sc s i) e) || not (is_open (context os)) ≡ false) × (is_open l ≡ false)
          facts = outer-facts (is_open (context os)) (carries (asked sc s i) e) (is_open l) el o

          up : outermost l os ≡ true
          up = is_true (outermost l os) o

          joins : (a m : Bool) → not (a && not (m && true)) ≡ not a || m
          joins true true = refl
          joins true false = refl
          joins false m = refl

      goes_in : outermost l os ≡ false → Does sc s i input ok then
      unfolding old
      goes_in o = record {
        next = with_w (asked sc s i) (false ∷ (asked sc s i).w);
        answer = reacts true (apart wants (against i s.threads)) (inner-facts (is_open (context os)) (carries (asked sc s i) e) (is_open l) el o) refl;
        moves = still sc s i then after (false ∷ (asked sc s i).w) here refl same
            (λ x. ap (counted x) ins ∙ ap (λ (v : Bool). cond (v && marked x) (suc (counted x os)) (counted x os)) (sym o))
            (ap reserved ins ∙ ap (λ (v : Bool). bit_or (cond v wants 0) (reserved os)) (sym o))
            (ap (λ (v : Bool). v ∷ word os) o ∙ ap (λ (u : List Open). false ∷ word u) (sym ins));
      }
        where
          context-shut : (po lo m : Bool) → po && not lo ≡ false → T (m && not lo) → po ≡ false
          context-shut true true true f h = absurd h
          context-shut true true false f h = absurd h
          context-shut true false m f h = clear true tt f
          context-shut false lo m f h = refl

          whole : (b : Bool) → b && true ≡ b
          whole true = refl
          whole false = refl

          same : (y : ℕ) → y < sc.variables → not (is_open (get_or then.cells y blank).level) ≡ not (old y)
          same y h = by_test (marked y && not (is_open l))
              (λ m.
              let po = context-shut (is_open (context os)) (is_open l) (marked y) o m in
              let some-count : eqb (counted y (get_or s.threads i ended).inside) 0 ≡ false = ap (λ (u : List Open). eqb (counted y u) 0) ins ∙ (bo po).0 y (or_left (marked y) (assigns y c) (and_left (marked y) (not (is_open l)) m)) in
              let shut = K.raised y h (more_than_none (counted y (get_or s.threads i ended).inside) (assigning y s.threads) (assigning_at y s.threads i) some-count) in
              ap not (in_cells y h ∙ ap (λ (v : Bool). v && not (marked y && not (is_open l))) shut) ∙ ap not (sym shut))
              (λ m. ap not (in_cells y h ∙ ap (λ (v : Bool). old y && not v) m ∙ whole (old y)))

      shut-is : not (is_open l) ≡ carries (asked sc s i) e || not (all_bottom (asked sc s i).w)
      shut-is = ap not el ∙ go (is_open (context os)) (carries (asked sc s i) e) ∙ ap (λ (v : Bool). carries (asked sc s i) e || not v) (sym bottoms)
        where
          go : (po m : Bool) → not (po && not m) ≡ m || not po
          go true true = refl
          go true false = refl
          go false true = refl
          go false false = refl

      begins : (d : Bool) → not (fixed_time p && fixed_time q) && (carries (asked sc s i) e || not (all_bottom (asked sc s i).w)) ≡ d →
          Begins sc s i d input (chosen_status (not (fixed_time p && fixed_time q) && not (is_open l)) (outermost l os && clash wants (against i s.threads))) then
      begins true f = ap (λ (v : Bool). chosen_status (not (fixed_time p && fixed_time q) && v) (outermost l os && clash wants (against i s.threads))) shut-is ∙ ap (λ (v : Bool). chosen_status v (outermost l os && clash wants (against i s.threads))) f
      begins false f = by_test (outermost l os && clash wants (against i s.threads))
          (λ x. inr (
            now ∙ ap (λ (v : Bool). chosen_status false v) (is_true (outermost l os && clash wants (against i s.threads)) x),
            reacts false false (outer-facts (is_open (context os)) (carries (asked sc s i) e) (is_open l) el (and_left (outermost l os) (clash wants (against i s.threads)) x)).0 (taken (apart wants (against i s.threads)) (and_right (outermost l os) (clash wants (against i s.threads)) x)),
          ))
          (λ x. inl (
            now ∙ ap (λ (v : Bool). chosen_status false v) x,
            by_test (outermost l os) (λ o. enters o (free (outermost l os) (apart wants (against i s.threads)) o x)) goes_in,
          ))
        where
          now : chosen_status (not (fixed_time p && fixed_time q) && not (is_open l)) (outermost l os && clash wants (against i s.threads)) ≡ chosen_status false (outermost l os && clash wants (against i s.threads))
          now = ap (λ (v : Bool). chosen_status (not (fixed_time p && fixed_time q) && v) (outermost l os && clash wants (against i s.threads))) shut-is ∙ ap (λ (v : Bool). chosen_status v (outermost l os && clash wants (against i s.threads))) f

          taken : (b : Bool) → T (not b) → b ≡ false
          taken true h = absurd h
          taken false h = refl

          free : (a b : Bool) → T a → a && not b ≡ false → T b
          free true true h g = tt
          free true false h g = clear true tt g
          free false b h g = absurd h

  -- All together
  agrees : (c : Code) (pace : Pace) (os : List Open) → (get_or s.threads i ended).inside ≡ os → Sound os → Bound c os → Agrees sc s i c pace os
  unfolding step_at
  agrees c (idling n) [] ins so bo = same_refl sc.variables (pool sc s)
  agrees c (idling n) (in_branch l w p q next ∷ os) ins so bo = ends (in_branch l w p q next ∷ os) ins so l w p q next os refl so n
  agrees c (idling n) (in_loop e b next ∷ os) ins so bo = same_refl sc.variables (pool sc s)
  agrees c (idling n) (in_lock m next ∷ os) ins so bo = same_refl sc.variables (pool sc s)
  agrees done running [] ins so bo = refl
  agrees done running (in_branch l w p q next ∷ os) ins so bo = ends (in_branch l w p q next ∷ os) ins so l w p q next os refl so (lag w p q)
  agrees done running (in_loop e b next ∷ os) ins so bo = record {
    next = with_w (asked sc s i) (word os);
    answer = ap (λ (u : List Open). merged (asked sc s i) (word u) (and_then b (loop e b done)) done) ins;
    moves = still sc s i (set_thread s i (at_code (loop e b next) os)) (at_code (loop e b next) os) (word os) here refl (λ x l. refl) (λ x. ap (counted x) ins) (ap reserved ins) refl;
  }
  agrees done running (in_lock m next ∷ os) ins so bo = untold sc s i (set_thread s i (at_code next os)) (at_code next os) refl refl (λ x. ap (counted x) ins) (ap reserved ins) (ap word (sym ins))
  agrees (skip c) running os ins so bo = record {
    next = asked sc s i;
    answer = refl;
    moves = still sc s i (set_thread s i (at_code c os)) (at_code c os) (asked sc s i).w here refl (λ x l. refl) (λ x. ap (counted x) ins) (ap reserved ins) (ap word (sym ins));
  }
  agrees (assign x e c) running os ins so bo = assigned os ins so x e c
  agrees (put h e c) running os ins so bo = puts-to os ins so h e c (on_open sc h) refl
  agrees (branch e p q c) running os ins so bo =
      begins os ins so e p q c bo (two_point.join (context os) (level_of two_point sc s e)) (open_join (context os) (level_of two_point sc s e) ∙ ap (λ (v : Bool). is_open (context os) && v) (level_carries sc s i e)) (not (is_zero (value_of two_point sc s e)))
      (not (fixed_time p && fixed_time q) && (carries (asked sc s i) e || not (all_bottom (asked sc s i).w))) refl
  agrees (loop e b c) running os ins so bo = loops os ins so e b c (carries (asked sc s i) e) refl
  agrees (lock m e b c) running os ins so bo = locks os ins so m e b c bo

blanks : (n x : ℕ) → get_or (replicate n blank) x blank ≡ blank
blanks zero x = refl
blanks (suc n) zero = refl
blanks (suc n) (suc x) = blanks n x

unreserved : (cs : List Code) → all_reserved (map (λ (c : Code). at_code c []) cs) ≡ 0
unreserved [] = refl
unreserved (c ∷ cs) = unreserved cs

pub begins_same : (sc : Script) → Same sc.variables (pool sc (begin sc)) (first sc)
begins_same sc = record {
  V = λ x l. ap (λ (u : Cell). not (is_open u.level)) (blanks sc.variables x);
  secret = λ t. refl;
  W = λ x. begun_none x sc.codes;
  L = unreserved sc.codes;
  w = λ i. ap word (begun_inside sc.codes i);
}

pub agrees_at : (sc : Script) (s : State) → Kept sc.variables s.cells s.threads → (i : ℕ) → let t = get_or s.threads i ended in Agrees sc s i t.code t.pace t.inside
agrees_at sc s K i =
    let t = get_or s.threads i ended in
    by_test (ltb i (length s.threads))
    (λ h. agrees sc s K i (ltb→lt i (length s.threads) h) t.code t.pace t.inside refl (K.good i).0 (K.good i).1)
    (λ h. subst (λ (u : Thread). Agrees sc s i u.code u.pace u.inside) (sym (get_or-eq_default s.threads ended (nltb→le i (length s.threads) (as_test (not (ltb i (length s.threads))) (ap not h))))) refl)

pub follows : Follows
follows sc = (begins_same sc, (λ s r i. agrees_at sc s (reached_kept r) i))
