-- Calls lead to no other states than turns, rests and feeds do.
use Rattle.std.proofs.Common.{◌≡◌, ℕ, zero, suc, Bool, true, false, cond, ◌||◌, eqb, ltb, List, [], ◌∷◌, length, get_or, refl}
use mathlib.Core.Option.{Option, none, some}
use Rattle.model.specs.Machine.{State, ready_set, all_finished, take_turn, advance, rules, most_turns}
use Rattle.scheduler.specs.Turns.{Meaning, Obedient}
use Rattle.script.specs.Code.{Script}
use Rattle.model.specs.Calls.{Call, Answer, begin, perform, after}
use Rattle.model.specs.Calls.Call.{feed, advance_by, count, entry, ask}
use Rattle.lattice.specs.Orders.{two_point}
use Rattle.model.specs.Follows.{Reached}
use Rattle.model.specs.Follows.Reached.{start, turn, rest, fed}
use Rattle.model.specs.Runs.{CallsReach}
use Rattle.model.proofs.Ready.{ready_at}

module _ (sc : Script) {G : Type 0} (schedule : Meaning G) (law : Obedient schedule) where
  turned : (s : State) (g : G) → Reached sc s → Reached sc (take_turn (rules two_point sc) s (schedule g (ready_set (rules two_point sc) s)).0)
  turned s g r = go (schedule g (ready_set (rules two_point sc) s)).0 refl
    where
      go : (o : Option ℕ) → (schedule g (ready_set (rules two_point sc) s)).0 ≡ o → Reached sc (take_turn (rules two_point sc) s o)
      go none e = rest r
      go (some i) e =
          turn i r (ready_at two_point sc s i (law.picks_ready g (ready_set (rules two_point sc) s) i e))

  either : {A : Type 0} (P : A → Type 0) (b : Bool) (x y : A) → P x → P y → P (cond b x y)
  either P true x y p q = p
  either P false x y p q = q

  advanced : (n : ℕ) (s : State) (g : G) → Reached sc s → Reached sc (advance (rules two_point sc) schedule n s g).1
  advanced zero s g r = r
  advanced (suc n) s g r =
      either (λ (v : ℕ × State × G). Reached sc v.1) (all_finished (rules two_point sc) s || eqb s.turns most_turns) _ _ r
      (advanced n (take_turn (rules two_point sc) s (schedule g (ready_set (rules two_point sc) s)).0) (schedule g (ready_set (rules two_point sc) s)).1 (turned s g r))

  performed : (c : Call) (s : State) (g : G) → Reached sc s → Reached sc (perform two_point sc schedule c s g).1
  unfolding perform
  performed (feed false t z) s g r = r
  performed (feed true t z) s g r =
      either (λ (v : Answer × State × G). Reached sc v.1) (ltb t (length sc.track_levels)) _ _
      (either (λ (v : Answer × State × G). Reached sc v.1) (ltb (length (get_or s.tracks t [])) (get_or sc.track_sizes t 0)) _ _ (fed t z r) r) r
  performed (advance_by false n) s g r = r
  performed (advance_by true n) s g r = either (λ (v : Answer × State × G). Reached sc v.1) (eqb s.turns most_turns) _ _ r (advanced n s g r)
  performed (count false h) s g r = r
  performed (count true h) s g r = r
  performed (entry false h i) s g r = r
  performed (entry true h i) s g r = r
  performed (ask false i) s g r = r
  performed (ask true i) s g r = r

  called : (cs : List Call) (s : State) (g : G) → Reached sc s → Reached sc (after two_point sc schedule cs s g).0
  called [] s g r = r
  called (c ∷ cs) s g r = called cs (perform two_point sc schedule c s g).1 (perform two_point sc schedule c s g).2 (performed c s g r)

pub calls_reach : {G : Type 0} (schedule : Meaning G) → Obedient schedule → CallsReach schedule
calls_reach schedule law sc cs g = called sc schedule law cs (begin sc) g start
