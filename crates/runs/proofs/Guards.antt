-- The guard that is worked out from marks is the model's.
use Rattle.std.proofs.Common.{◌≡◌, ℕ, zero, suc, ◌+◌, ◌%◌, ◌^◌, ◌<◌, ◌≤◌, Bool, false, cond, eqb, List, [], ◌∷◌, ◌++◌, length, get_or, take, drop, sym, refl, ap, ◌∙◌, subst, arith, take_all, take-suc}
use native.Mathlib.Nat.{zero-div}
use Rattle.lattice.specs.Levels.{Levels}
use Rattle.model.specs.Threads.{Open, Thread, ended, guard_of, guard}
use Rattle.model.specs.Threads.Open.{in_branch, in_loop, in_lock}
use Rattle.codec.specs.Frames.{Head, Frame}
use Rattle.model.specs.Places.{Opened}
use Rattle.survey.specs.declared.table.Step.{Step}
use Rattle.runs.specs.declared.Mark.{Mark}
use Rattle.runs.specs.declared.Place.{Place}
use Rattle.runs.specs.Flat.{nil_mark, guard_marks, guard_threads, first_mark, nil_place}
use Rattle.survey.specs.Stretches.{has_bit}
use Rattle.survey.specs.Filling.{outer_first}
use Rattle.survey.specs.Table.{step_at_place, Reads}
use Rattle.runs.specs.Views.{openers, Leveled, TabledForTurns, ThreadView, Unless}

pub no_bit : (x : ℕ) → has_bit 0 x ≡ false
no_bit x = ap (λ (n : ℕ). eqb (n % 2) 1) (zero-div (2 ^ x))

-- What a step says at a place whose frames are known.
pub reads : (h : Head) (code : List ℕ) (table : List Step) (fs : List Frame) → TabledForTurns h code table fs → (p : ℕ) (gs : List Frame) → drop p fs ≡ gs → Unless (outer_first gs) (Reads h code p (step_at_place table p) gs)
reads h code table fs tabled p gs e = subst (λ (fs : List Frame). Unless (outer_first fs) (Reads h code p (step_at_place table p) fs)) e (tabled.here p)

module _ (k : Levels) (h : Head) (code : List ℕ) (table : List Step) (fs : List Frame) (tabled : TabledForTurns h code table fs) (x : ℕ) (small : x < 64) where
  unassigned : (mask acc l : ℕ) → mask ≡ 0 → cond (has_bit mask x) (k.join acc l) acc ≡ acc
  unassigned mask acc l e = ap (λ (n : ℕ). cond (has_bit n x) (k.join acc l) acc) e ∙ ap (λ (b : Bool). cond b (k.join acc l) acc) (no_bit x)

  pub guard_marks_is : (ms : List Mark) (r : List Frame) (b d acc : ℕ) (os : List Open) → Leveled ms b d os → Opened fs r (openers ms b d) os → guard_marks k table ms x b d acc ≡ guard_of k x os acc
  unfolding guard_marks
  guard_marks_is ms r b zero acc [] l o = refl
  guard_marks_is ms r b zero acc (q ∷ os) l o = absurd l
  guard_marks_is ms r b (suc d) acc [] l o = absurd l
  guard_marks_is ms r b (suc d) acc (in_branch v w p q n ∷ os) l o =
      let inner = guard_marks_is ms r b d acc os l.1 o.1 in
      let bit = (tabled.ways (get_or ms (b + d) nil_mark).opener o.0.0 p q n _ o.0.1).assigned x small in
      λ i. cond (bit i) (k.join (inner i) (l.0 i)) (inner i)
  guard_marks_is ms r b (suc d) acc (in_loop e p n ∷ os) l o =
      unassigned _ _ _ (reads h code table fs tabled (get_or ms (b + d) nil_mark).opener _ o.0).5 ∙ guard_marks_is ms r b d acc os l.1 o.1
  guard_marks_is ms r b (suc d) acc (in_lock m n ∷ os) l o =
      unassigned _ _ _ (reads h code table fs tabled (get_or ms (b + d) nil_mark).opener _ o.0.2).4 ∙ guard_marks_is ms r b d acc os l.1 o.1

  guard_push : (ts : List Thread) (t : Thread) (acc : ℕ) → guard k x (ts ++ (t ∷ [])) acc ≡ guard_of k x t.inside (guard k x ts acc)
  guard_push [] t acc = refl
  guard_push (u ∷ ts) t acc = guard_push ts t (guard_of k x u.inside acc)

  pub guard_first : (after : ℕ → List Frame) (ms : List Mark) (ps : List Place) (ts : List Thread) → ((j : ℕ) → j < length ts → ThreadView h fs (after j) table ms j (get_or ps j nil_place) (get_or ts j ended)) → (n : ℕ) → n ≤ length ts → guard_threads k table ms x ps n ≡ guard k x (take n ts) 0
  unfolding guard_threads
  guard_first after ms ps ts all zero le = refl
  guard_first after ms ps ts all (suc n) le =
      let v = all n (omega arith) in
      let inner = guard_first after ms ps ts all n (omega arith) in
      ap (guard_marks k table ms x (first_mark n) (get_or ps n nil_place).depth) inner
      ∙ guard_marks_is ms (after n) (first_mark n) (get_or ps n nil_place).depth (guard k x (take n ts) 0) (get_or ts n ended).inside v.leveled v.stands.stands.opened
      ∙ sym (ap (λ (us : List Thread). guard k x us 0) (take-suc ts n ended (omega arith)) ∙ guard_push (take n ts) (get_or ts n ended) 0)

  pub guard_is : (after : ℕ → List Frame) (ms : List Mark) (ps : List Place) (ts : List Thread) → ((j : ℕ) → j < length ts → ThreadView h fs (after j) table ms j (get_or ps j nil_place) (get_or ts j ended)) → guard_threads k table ms x ps (length ts) ≡ guard k x ts 0
  guard_is after ms ps ts all = guard_first after ms ps ts all (length ts) (omega arith) ∙ ap (λ (us : List Thread). guard k x us 0) (take_all (length ts) ts (omega arith))
