-- The status that is worked out from places and marks is the model's.
use Rattle.std.proofs.Common.{◌≡◌, ℕ, zero, suc, ◌<◌, ◌≤◌, Bool, true, false, cond, not, ◌&&◌, ◌||◌, eqb, List, [], ◌∷◌, ◌++◌, length, get_or, take, ℤ, sym, refl, ap, ◌∙◌, arith, length-take, take_all, take-suc, eq-eqb, ne_eqb}
use lib.Bits.{bit_or, or_zero_l, or_zero_r}
use Rattle.std.proofs.Math.Dec.{eqb-suc-suc}
use Rattle.lattice.specs.Levels.{Levels}
use Rattle.model.specs.Levels.{is_open}
use Rattle.script.specs.Code.{Code, Script}
use Rattle.script.specs.Code.Code.{done, skip, assign, put, branch, loop, lock}
use Rattle.model.specs.Threads.{Open, Thread, ended, owned, reserved, held_by, against, clash, Pace as ModelPace}
use Rattle.model.specs.Machine.{State, chosen_status, status_at, status, Status as ModelStatus}
use Rattle.model.specs.Values.{is_zero}
use Rattle.model.specs.Threads.Open.{in_branch, in_loop, in_lock}
use Rattle.model.specs.Threads.Pace.{running, idling}
use Rattle.codec.specs.Frames.{Head, Frame}
use Rattle.script.specs.Trees.{script_frames}
use Rattle.model.specs.Places.{Opened}
use Rattle.lattice.specs.Ors.{or_assoc}
use Rattle.survey.specs.declared.table.Kind.{Kind}
use Rattle.survey.specs.declared.table.Kind.TheVariants.{End, Skip, Assign, Put, If, Else, EndIf, While, EndWhile, With, EndWith}
use Rattle.survey.specs.declared.table.Step.{Step}
use Rattle.runs.specs.declared.Mark.{Mark}
use Rattle.runs.specs.declared.Pace.{Pace}
use Rattle.runs.specs.declared.Place.{Place}
use Rattle.runs.specs.declared.Entry.{Entry}
use Rattle.runs.specs.declared.Core.{Core}
use Rattle.survey.specs.Table.{step_at_place}
use Rattle.runs.specs.Flat.{nil_place, first_mark, pace_at, head_of_core, state_of}
use Rattle.runs.specs.Statuses.{locks_of, owned_marks, reserved_marks, against_first, status_by, status_now}
use Rattle.runs.specs.Views.{openers, Leveled, TabledForTurns, ThreadView, Views}
use Rattle.runs.proofs.Marks.{level_inside_is}
use Rattle.runs.proofs.Guards.{reads}
use Rattle.runs.proofs.Stepping.{value_is, level_is}

-- What a thread holds against thread i, where `own` says whether it is that thread.
abbrev part : Bool → Thread → ℕ
part own t = bit_or (cond own 0 (owned t.inside)) (reserved t.inside)

held_push : (ts : List Thread) (t : Thread) → held_by (ts ++ (t ∷ [])) ≡ bit_or (held_by ts) (part false t)
held_push [] t = or_zero_r _ ∙ sym (or_zero_l (part false t))
held_push (u ∷ ts) t = ap (bit_or _) (held_push ts t) ∙ sym (or_assoc _ (held_by ts) (part false t))

against_push : (i : ℕ) (ts : List Thread) (t : Thread) (own : Bool) → own ≡ eqb (length ts) i → against i (ts ++ (t ∷ [])) ≡ bit_or (against i ts) (part own t)
against_push zero [] t own e = or_zero_r (reserved t.inside) ∙ sym (or_zero_l (reserved t.inside)) ∙ sym (ap (λ (b : Bool). bit_or 0 (part b t)) (e ∙ eq-eqb 0 0 refl) ∙ or_zero_l (part true t))
against_push (suc i) [] t own e = or_zero_r (part false t) ∙ sym (ap (λ (b : Bool). bit_or 0 (part b t)) (e ∙ ne_eqb 0 (suc i) (λ (q : 0 ≡ suc i). omega arith)) ∙ or_zero_l (part false t))
against_push zero (u ∷ ts) t own e =
    ap (bit_or (reserved u.inside)) (held_push ts t) ∙ sym (or_assoc (reserved u.inside) (held_by ts) (part false t))
    ∙ sym (ap (λ (b : Bool). bit_or (bit_or (reserved u.inside) (held_by ts)) (part b t)) (e ∙ ne_eqb (suc (length ts)) 0 (λ (q : suc (length ts) ≡ 0). omega arith)))
against_push (suc i) (u ∷ ts) t own e =
    ap (bit_or (part false u)) (against_push i ts t own (e ∙ eqb-suc-suc (length ts) i)) ∙ sym (or_assoc (part false u) (against i ts) (part own t))

module _ (h : Head) (code : List ℕ) (table : List Step) (fs : List Frame) (tabled : TabledForTurns h code table fs) (ms : List Mark) where
  or_none : (a b : ℕ) → a ≡ 0 → bit_or a b ≡ b
  or_none a b e = ap (λ (x : ℕ). bit_or x b) e ∙ or_zero_l b

  pub owned_is : (r : List Frame) (b d : ℕ) (os : List Open) → Leveled ms b d os → Opened fs r (openers ms b d) os → owned_marks table ms b d ≡ owned os
  unfolding locks_of
  owned_is r b zero [] l o = refl
  owned_is r b zero (q ∷ os) l o = absurd l
  owned_is r b (suc d) [] l o = absurd l
  owned_is r b (suc d) (in_branch v w x y n ∷ os) l o = or_none _ _ (reads h code table fs tabled _ _ o.0.1).3 ∙ owned_is r b d os l.1 o.1
  owned_is r b (suc d) (in_loop e x n ∷ os) l o = or_none _ _ (reads h code table fs tabled _ _ o.0).3 ∙ owned_is r b d os l.1 o.1
  owned_is r b (suc d) (in_lock k n ∷ os) l o = λ j. bit_or ((reads h code table fs tabled _ _ o.0.2).1 j) (owned_is r b d os l.1 o.1 j)

  no_need : (t : Bool) (a : ℕ) → a ≡ 0 → cond t a 0 ≡ 0
  no_need true a e = e
  no_need false a e = refl

  pub reserved_is : (r : List Frame) (b d : ℕ) (os : List Open) → Leveled ms b d os → Opened fs r (openers ms b d) os → reserved_marks table ms b d ≡ reserved os
  unfolding locks_of
  reserved_is r b zero [] l o = refl
  reserved_is r b zero (q ∷ os) l o = absurd l
  reserved_is r b (suc d) [] l o = absurd l
  reserved_is r b (suc d) (in_branch v w x y n ∷ os) l o =
      λ j. bit_or (cond (is_open (level_inside_is ms b d os l.1 j) && not (is_open (l.0 j))) ((tabled.ways _ o.0.0 x y n _ o.0.1).needed j) 0) (reserved_is r b d os l.1 o.1 j)
  reserved_is r b (suc d) (in_loop e x n ∷ os) l o =
      or_none _ _ (no_need _ _ (reads h code table fs tabled _ _ o.0).4) ∙ reserved_is r b d os l.1 o.1
  reserved_is r b (suc d) (in_lock k n ∷ os) l o =
      or_none _ _ (no_need _ _ (reads h code table fs tabled _ _ o.0.2).3) ∙ reserved_is r b d os l.1 o.1

  against_to : (after : ℕ → List Frame) (i : ℕ) (ps : List Place) (ts : List Thread) → ((j : ℕ) → j < length ts → ThreadView h fs (after j) table ms j (get_or ps j nil_place) (get_or ts j ended)) → (n : ℕ) → n ≤ length ts → against_first table ms i ps n ≡ against i (take n ts)
  unfolding against_first
  against_to after zero ps ts all zero le = refl
  against_to after (suc i) ps ts all zero le = refl
  against_to after i ps ts all (suc n) le =
      let v = all n (omega arith) in
      let t = get_or ts n ended in
      let own = owned_is (after n) (first_mark n) (get_or ps n nil_place).depth t.inside v.leveled v.stands.stands.opened in
      let res = reserved_is (after n) (first_mark n) (get_or ps n nil_place).depth t.inside v.leveled v.stands.stands.opened in
      (λ j. bit_or (against_to after i ps ts all n (omega arith) j) (bit_or (cond (eqb n i) 0 (own j)) (res j)))
      ∙ sym (ap (against i) (take-suc ts n ended (omega arith)) ∙ against_push i (take n ts) t (eqb n i) (ap (λ (x : ℕ). eqb x i) (omega (arith, length-take n ts))))

  pub against_is : (after : ℕ → List Frame) (i : ℕ) (ps : List Place) (ts : List Thread) → ((j : ℕ) → j < length ts → ThreadView h fs (after j) table ms j (get_or ps j nil_place) (get_or ts j ended)) → against_first table ms i ps (length ts) ≡ against i ts
  against_is after i ps ts all = against_to after i ps ts all (length ts) (omega arith) ∙ ap (against i) (take_all (length ts) ts (omega arith))

module _ (most : ℕ) (k : Levels) (sc : Script) (after : ℕ → List Frame) (table : List Step) (code : List ℕ) (ss : List ℤ) (c : Core) (ms : List Mark) (es : List Entry) (ts : List Thread) (v : Views most sc after table code c ms es ts) (i : ℕ) (within : i < c.head.threads) where
  abbrev at_now : Place
  at_now = get_or c.threads i nil_place

  abbrev step_now : Step
  step_now = step_at_place table at_now.at

  abbrev state_now : State
  state_now = state_of c ss es ts

  abbrev View : Thread → Type 0
  View t = ThreadView (head_of_core c) (script_frames sc) (after i) table ms i at_now t

  abbrev Says : Pace → Kind → ModelStatus → Type 0
  Says q kd r = status_by k table code ss i q kd c ms at_now step_now ≡ r

  at_kind : (kd : Kind) (r : ModelStatus) → at_now.pace ≡ pace_at step_now.kind → step_now.kind ≡ kd → Says (pace_at kd) kd r → Says at_now.pace step_now.kind r
  at_kind kd r pace kind n = ap (λ (q : Pace). status_by k table code ss i q step_now.kind c ms at_now step_now) pace ∙ ap (λ (x : Kind). status_by k table code ss i (pace_at x) x c ms at_now step_now) kind ∙ n

  stands_against : against_first table ms i c.threads c.head.threads ≡ against i ts
  stands_against =
      ap (against_first table ms i c.threads) (sym v.count)
      ∙ against_is (head_of_core c) code table (script_frames sc) v.tabled ms after i c.threads ts (λ j lt. v.threads j (omega (arith, v.count)))

  status_case : (cd : Code) (pc : ModelPace) (os : List Open) → View (record { code = cd; pace = pc; inside = os }) → Says at_now.pace step_now.kind (status_at k sc state_now i cd pc os)
  status_case cd (idling n) os tv = ap (λ (q : Pace). status_by k table code ss i q step_now.kind c ms at_now step_now) tv.paced
  status_case done running [] tv = at_kind End _ tv.paced (reads (head_of_core c) code table (script_frames sc) v.tabled at_now.at _ tv.stands.stands.here) refl
  status_case done running (in_branch l true a b next ∷ os) tv = at_kind Else _ tv.paced (reads (head_of_core c) code table (script_frames sc) v.tabled at_now.at _ tv.stands.stands.here).0 refl
  status_case done running (in_branch l false a b next ∷ os) tv = at_kind EndIf _ tv.paced (reads (head_of_core c) code table (script_frames sc) v.tabled at_now.at _ tv.stands.stands.here) refl
  status_case done running (in_loop e b next ∷ os) tv = at_kind EndWhile _ tv.paced (reads (head_of_core c) code table (script_frames sc) v.tabled at_now.at _ tv.stands.stands.here) refl
  status_case done running (in_lock x next ∷ os) tv = at_kind EndWith _ tv.paced (reads (head_of_core c) code table (script_frames sc) v.tabled at_now.at _ tv.stands.stands.here) refl
  status_case (skip cd) running os tv = at_kind Skip _ tv.paced (reads (head_of_core c) code table (script_frames sc) v.tabled at_now.at _ tv.stands.stands.here) refl
  status_case (assign x e cd) running os tv = at_kind Assign _ tv.paced (reads (head_of_core c) code table (script_frames sc) v.tabled at_now.at _ tv.stands.stands.here).0 refl
  status_case (put h e cd) running os tv = at_kind Put _ tv.paced (reads (head_of_core c) code table (script_frames sc) v.tabled at_now.at _ tv.stands.stands.here).0 refl
  status_case (branch e a b cd) running os tv =
      let here = tv.stands.stands.here in
      let r = reads (head_of_core c) code table (script_frames sc) v.tabled at_now.at _ here in
      let way = v.tabled.ways at_now.at e a b cd _ here in
      let inner = level_inside_is ms (first_mark i) at_now.depth os tv.leveled in
      let level = level_is most k sc after table code ss c ms es ts v _ e r.2.ops in
      at_kind If _ tv.paced r.0
      (λ j. chosen_status (not (way.fixed j) && not (is_open (k.join (inner j) (level j)))) ((is_open (inner j) && not (is_open (k.join (inner j) (level j)))) && clash (way.needed j) (stands_against j)))
  status_case (loop e b cd) running os tv =
      let r = reads (head_of_core c) code table (script_frames sc) v.tabled at_now.at _ tv.stands.stands.here in
      let level = level_is most k sc after table code ss c ms es ts v _ e r.2.ops in
      at_kind While _ tv.paced r.0 (λ j. chosen_status (not (is_open (level j))) false)
  status_case (lock x e b cd) running os tv =
      let r = reads (head_of_core c) code table (script_frames sc) v.tabled at_now.at _ tv.stands.stands.here in
      let inner = level_inside_is ms (first_mark i) at_now.depth os tv.leveled in
      let level = level_is most k sc after table code ss c ms es ts v _ e r.2.ops in
      let value = value_is most k sc after table code ss c ms es ts v _ e r.2.ops in
      at_kind With _ tv.paced r.0 (λ j. chosen_status (not (is_open (level j))) (is_open (inner j) && (is_zero (value j) || clash (r.1 j) (stands_against j))))

  pub status_is : status_now k table code ss i c ms ≡ status k sc state_now i
  status_is = let t = get_or ts i ended in status_case t.code t.pace t.inside (v.threads i within)
