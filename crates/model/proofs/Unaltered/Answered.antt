-- A typed run and the opened run get the same answers.
use Rattle.std.proofs.Common.{◌≡◌, ℕ, zero, suc, Bool, true, false, cond, ◌||◌, eqb, ltb, List, [], ◌∷◌, length, get_or, sym, refl, ap, ◌∙◌, ap₂, subst₂}
use mathlib.Core.Option.{Option}
use lib.ListN.{length-map}
use Rattle.lattice.specs.Levels.{Levels}
use Rattle.script.specs.Code.{Script}
use Rattle.model.specs.Machine.{State, advance, take_turn, ready_set, all_finished, rules, most_turns}
use Rattle.scheduler.specs.Turns.{Meaning}
use Rattle.model.specs.Calls.{Call, Answer, perform, answers}
use Rattle.model.specs.Calls.Call.{feed, advance_by, count, entry, ask}
use Rattle.model.specs.Calls.Answer.{gave, refused}
use Rattle.model.specs.Levels.{opened}
use Rattle.model.proofs.Unaltered.Erased.{erase}
use Rattle.model.proofs.Unaltered.Typed.{World, Kept}
use Rattle.model.proofs.Unaltered.Standing.{standing, ready_set_erased, all_finished_erased}
use Rattle.model.proofs.Unaltered.Stepped.{turn_erased}
use Rattle.model.proofs.Unaltered.Keeping.{turn_kept}
use Rattle.model.specs.Calls.Refusal.{unfit_memory, no_such, track_full, out_of_turns}

-- Two outcomes, of a typed run and of the opened run, that are alike.
pub record Alike (k : Levels) (sc : Script) (typing : List ℕ) {A G : Type 0} (r r' : A × State × G) : Type 0 where
  pub kept : Kept k sc typing r.1
  pub answer : r.0 ≡ r'.0
  pub state : erase r.1 ≡ r'.1
  pub obedient : r.2 ≡ r'.2

module _ {k : Levels} {sc : Script} {typing : List ℕ} (W : World k sc typing) {G : Type 0} (schedule : Meaning G) where
  still : {A : Type 0} (a : A) (s : State) (g : G) → Kept k sc typing s → Alike k sc typing (a, s, g) (a, erase s, g)
  still a s g K = record { kept = K; answer = refl; state = refl; obedient = refl }

  either : {A : Type 0} (b : Bool) (r r' q q' : A × State × G) → Alike k sc typing r r' → Alike k sc typing q q' → Alike k sc typing (cond b r q) (cond b r' q')
  either true r r' q q' x y = x
  either false r r' q q' x y = y

  later_alike : (r r' : ℕ × State × G) → Alike k sc typing r r' → Alike k sc typing {A = ℕ} (suc r.0, r.1, r.2) (suc r'.0, r'.1, r'.2)
  later_alike r r' x = record { kept = x.kept; answer = ap suc x.answer; state = x.state; obedient = x.obedient }

  advance_alike : (n : ℕ) (s : State) (g : G) → Kept k sc typing s → Alike k sc typing (advance (rules k sc) schedule n s g) (advance (rules k (opened sc)) schedule n (erase s) g)
  advance_alike zero s g K = still 0 s g K
  advance_alike (suc n) s g K =
      let told = schedule g (ready_set (rules k sc) s) in
      let told' = schedule g (ready_set (rules k (opened sc)) (erase s)) in
      let same : told ≡ told' = ap (schedule g) (sym (ready_set_erased W s K)) in
      let later = advance (rules k sc) schedule n (take_turn (rules k sc) s told.0) told.1 in
      let later' = advance (rules k (opened sc)) schedule n (take_turn (rules k (opened sc)) (erase s) told'.0) told'.1 in
      let ih : Alike k sc typing later later' =
      subst₂ (λ (s' : State) (g' : G). Alike k sc typing later (advance (rules k (opened sc)) schedule n s' g'))
      (turn_erased W s K told.0 ∙ ap (λ (o : Option ℕ × G). take_turn (rules k (opened sc)) (erase s) o.0) same)
      (ap (λ (o : Option ℕ × G). o.1) same)
      (advance_alike n (take_turn (rules k sc) s told.0) told.1 (turn_kept W s told.0 K)) in
      rw (all_finished_erased W s K)
      (either (all_finished (rules k sc) s || eqb s.turns most_turns) (0, s, g) (0, erase s, g) (suc later.0, later.1, later.2) (suc later'.0, later'.1, later'.2)
      (still 0 s g K) (later_alike later later' ih))

  perform_alike : (c : Call) (s : State) (g : G) → Kept k sc typing s → Alike k sc typing (perform k sc schedule c s g) (perform k (opened sc) schedule c (erase s) g)
  unfolding perform
  perform_alike (feed false t z) s g K = still (refused unfit_memory) s g K
  perform_alike (feed true t z) s g K = rw (length-map sc.track_levels (λ (l : ℕ). zero))
      (either (ltb t (length sc.track_levels)) _ _ _ _
      (either (ltb (length (get_or s.tracks t [])) (get_or sc.track_sizes t 0)) _ _ _ _ (record { kept = record { cells = K.cells; threads = K.threads }; answer = refl; state = refl; obedient = refl }) (still (refused track_full) s g K))
      (still (refused no_such) s g K))
  perform_alike (advance_by false n) s g K = still (refused unfit_memory) s g K
  perform_alike (advance_by true n) s g K =
      let x = advance_alike n s g K in
      either (eqb s.turns most_turns) _ _ _ _ (still (refused out_of_turns) s g K) (record { kept = x.kept; answer = ap gave x.answer; state = x.state; obedient = x.obedient })
  perform_alike (count false h) s g K = still (refused unfit_memory) s g K
  perform_alike (count true h) s g K = record { kept = K; answer = rw (length-map sc.channel_levels (λ (l : ℕ). zero)); state = refl; obedient = refl }
  perform_alike (entry false h i) s g K = still (refused unfit_memory) s g K
  perform_alike (entry true h i) s g K = record { kept = K; answer = rw (length-map sc.channel_levels (λ (l : ℕ). zero)); state = refl; obedient = refl }
  perform_alike (ask false i) s g K = still (refused unfit_memory) s g K
  perform_alike (ask true i) s g K = record { kept = K; answer = rw (standing W s K i); state = refl; obedient = refl }

  pub answers_alike : (cs : List Call) (s : State) (g : G) → Kept k sc typing s → answers k sc schedule cs s g ≡ answers k (opened sc) schedule cs (erase s) g
  answers_alike [] s g K = refl
  answers_alike (c ∷ cs) s g K =
      let r = perform k sc schedule c s g in
      let r' = perform k (opened sc) schedule c (erase s) g in
      let x = perform_alike c s g K in
      ap₂ (λ (a : Answer) (rest : List Answer). a ∷ rest) x.answer
      (answers_alike cs r.1 r.2 x.kept ∙ ap₂ (answers k (opened sc) schedule cs) x.state x.obedient)
