-- A thread of a valid script stays valid: at most 16 blocks are open around it, and it names only what is declared.
use Rattle.std.proofs.Common.{◌≡◌, ℕ, zero, suc, ◌<◌, ◌≤◌, Bool, true, false, cond, not, List, [], ◌∷◌, length, get_or, set, sym, refl, ap, subst, arith, ltb→lt, get_or-set_same}
use lib.ListN.{get_or-map}
use Rattle.std.proofs.ByRecursion.{All-get_or}
use Rattle.lattice.specs.Levels.{Levels}
use Rattle.codec.specs.Expressions.{Expr}
use Rattle.script.specs.Code.{Code, Script}
use Rattle.script.specs.Code.Code.{done, skip, assign, put, branch, loop, lock}
use Rattle.model.specs.Threads.{Open, Pace, Thread, ended, at_code}
use Rattle.model.specs.Machine.{State, value_of, lag, step_at, step, do_put, close_branch}
use Rattle.model.specs.Values.{is_zero}
use Rattle.model.specs.Threads.Open.{in_branch, in_loop, in_lock}
use Rattle.model.specs.Threads.Pace.{running, idling}
use Rattle.model.specs.Calls.{begin}
use Rattle.codec.specs.Frames.{Head}
use Rattle.script.specs.Trees.{Valid, ValidScript, head_of}
use Rattle.model.specs.Places.{ValidInside, ValidThread}
use Rattle.model.proofs.Puts.{put_threads}

-- At most 16 blocks are open.
pub depth : (h : Head) (os : List Open) → ValidInside h os → length os ≤ 16
depth h [] v = omega arith
depth h (in_branch l w p q n ∷ os) v = ltb→lt (length os) 16 v.0
depth h (in_loop e b n ∷ os) v = ltb→lt (length os) 16 v.0
depth h (in_lock m n ∷ os) v = ltb→lt (length os) 16 v.0

module _ (h : Head) (os : List Open) where
  closing_valid : (j l : ℕ) (w : Bool) (p q c : Code) → ValidInside h (in_branch l w p q c ∷ os) → ValidThread h (close_branch j (in_branch l w p q c) os c)
  closing_valid zero l w p q c v = record { code = v.3; inside = v.4 }
  closing_valid (suc j) l w p q c v = record { code = tt; inside = v }

  branch_valid : (w : Bool) (l : ℕ) (e : Expr) (p q c : Code) → Valid h (length os) (branch e p q c) → ValidInside h os → ValidThread h (at_code (cond w p q) (in_branch l w p q c ∷ os))
  branch_valid true l e p q c v i = record { code = v.2; inside = (v.0, v.2, v.3, v.4, i) }
  branch_valid false l e p q c v i = record { code = v.3; inside = (v.0, v.2, v.3, v.4, i) }

  loop_valid : (z : Bool) (e : Expr) (b c : Code) → Valid h (length os) (loop e b c) → ValidInside h os → ValidThread h (cond z (at_code c os) (at_code b (in_loop e b c ∷ os)))
  loop_valid true e b c v i = record { code = v.3; inside = i }
  loop_valid false e b c v i = record { code = v.2; inside = (v.0, v.1, v.2, v.3, i) }

module _ (k : Levels) (sc : Script) (h : Head) (st : State) (i : ℕ) (within : i < length st.threads) where
  set_valid : (ts : List Thread) (t : Thread) → ts ≡ st.threads → ValidThread h t → ValidThread h (get_or (set ts i t) i ended)
  set_valid ts t e v = subst (ValidThread h) (sym (get_or-set_same ts i t ended (omega (arith, ap length e)))) v

  step_at_valid : (c : Code) (pace : Pace) (os : List Open) → Valid h (length os) c → ValidInside h os
      → get_or st.threads i ended ≡ record { code = c; pace = pace; inside = os }
      → ValidThread h (get_or (step_at k sc st i c pace os).threads i ended)
  unfolding step_at
  step_at_valid c (idling n) [] v w e = subst (ValidThread h) (sym e) (record { code = v; inside = w })
  step_at_valid c (idling n) (in_branch l y p q next ∷ os) v w e = set_valid st.threads _ refl (closing_valid h os n l y p q next w)
  step_at_valid c (idling n) (in_loop o b next ∷ os) v w e = subst (ValidThread h) (sym e) (record { code = v; inside = w })
  step_at_valid c (idling n) (in_lock m next ∷ os) v w e = subst (ValidThread h) (sym e) (record { code = v; inside = w })
  step_at_valid done running [] v w e = subst (ValidThread h) (sym e) (record { code = v; inside = w })
  step_at_valid done running (in_branch l y p q next ∷ os) v w e = set_valid st.threads _ refl (closing_valid h os (lag y p q) l y p q next w)
  step_at_valid done running (in_loop o b next ∷ os) v w e = set_valid st.threads _ refl (record { code = (w.0, w.1, w.2, w.3); inside = w.4 })
  step_at_valid done running (in_lock m next ∷ os) v w e = set_valid st.threads _ refl (record { code = w.2; inside = w.3 })
  step_at_valid (skip c) running os v w e = set_valid st.threads _ refl (record { code = v; inside = w })
  step_at_valid (assign x o c) running os v w e = set_valid st.threads _ refl (record { code = v.2; inside = w })
  step_at_valid (put y o c) running os v w e = set_valid (do_put k sc st i y o os).threads _ (put_threads k sc st i y o os) (record { code = v.2; inside = w })
  step_at_valid (branch o p q c) running os v w e = set_valid st.threads _ refl (branch_valid h os (not (is_zero (value_of k sc st o))) _ o p q c v w)
  step_at_valid (loop o b c) running os v w e = set_valid st.threads _ refl (loop_valid h os (is_zero (value_of k sc st o)) o b c v w)
  step_at_valid (lock m o b c) running os v w e = set_valid st.threads _ refl (record { code = v.3; inside = (v.0, v.1, v.4, w) })

  pub step_valid : ValidThread h (get_or st.threads i ended) → ValidThread h (get_or (step k sc st i).threads i ended)
  step_valid v = let t = get_or st.threads i ended in step_at_valid t.code t.pace t.inside v.code v.inside refl

-- The threads of a valid script begin valid.
pub begin_valid : (kind : ℕ) (k : Levels) (sc : Script) → ValidScript kind k sc → (i : ℕ) → i < length sc.codes → ValidThread (head_of sc) (get_or (begin sc).threads i (at_code done []))
begin_valid kind k sc v i h =
    subst (ValidThread (head_of sc)) (sym (get_or-map (λ c. at_code c []) sc.codes i done))
    (record { code = All-get_or (Valid (head_of sc) 0) sc.codes i done h v.codes; inside = tt })
