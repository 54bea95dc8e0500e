-- Traces whose links are what the model performs: secrecy carries over.
use Rattle.std.proofs.Common.{◌≡◌, ℕ, Bool, true, false, cond, List, [], ◌∷◌, sym, refl, ap, ◌∙◌, ap₂}
use Rattle.lattice.specs.Levels.{Levels, Lawful}
use Rattle.script.specs.Code.{Script}
use Rattle.model.specs.Machine.{State}
use Rattle.scheduler.specs.Turns.{Meaning, Obedient}
use Rattle.model.specs.Calls.{answers, Call, Answer, begin, perform}
use Rattle.model.specs.Levels.{opened, Levelled}
use Rattle.model.specs.Secrecy.{left_out, kept, kept_answers}
use Rattle.model.specs.Traces.{AnsweredAlike, Asked, Trace, calls_of, answers_of, kept_asked, Blind}
use Rattle.model.specs.Traces.Trace.{link}
use Rattle.model.proofs.Confidential.Secret.{secret}
use Rattle.model.specs.Inspection.{Passes}
use Rattle.model.proofs.Unaltered.Transparency.{transparent}

-- The calls that are kept, and those of what is kept.
kept_calls : (seen : ℕ → Bool) (sc : Script) (xs : List Asked) → calls_of (kept_asked seen sc xs) ≡ kept seen sc (calls_of xs)
kept_calls seen sc [] = refl
kept_calls seen sc (a ∷ xs) = by (left_out seen sc a.call) (kept_calls seen sc xs)
  where
    by : (b : Bool) → calls_of (kept_asked seen sc xs) ≡ kept seen sc (calls_of xs) → calls_of (cond b (kept_asked seen sc xs) (a ∷ kept_asked seen sc xs)) ≡ cond b (kept seen sc (calls_of xs)) (a.call ∷ kept seen sc (calls_of xs))
    by true e = e
    by false e = ap (λ cs. a.call ∷ cs) e

module _ (k : Levels) (sc : Script) {G : Type 0} (schedule : Meaning G) {Memory : Type 0} (Did : Memory → Call → Answer → Memory → Type 0) (Views : Memory → State → G → Type 0) where
  -- A call's contract, where the memory views a state: the answer and the memory after are the model's.
  pub Refines : Type 0
  Refines =
      (m : Memory) (s : State) (g : G) (c : Call) (a : Answer) (n : Memory) → Views m s g → Did m c a n →
      (a ≡ (perform k sc schedule c s g).0) × Views n (perform k sc schedule c s g).1 (perform k sc schedule c s g).2

  module _ (seen : ℕ → Bool) (refines : Refines) where
    trace-answers : (xs : List Asked) (m : Memory) (s : State) (g : G) → Views m s g → Trace Did m xs → answers_of (kept_asked seen sc xs) ≡ kept_answers k sc schedule seen (calls_of xs) s g
    unfolding Refines
    trace-answers [] m s g v t = refl
    trace-answers (a ∷ xs) m s g v (link {n = n} d t) =
        let r = refines m s g a.call a.answer n v d in
        by (left_out seen sc a.call) a.answer r.0 (trace-answers xs n (perform k sc schedule a.call s g).1 (perform k sc schedule a.call s g).2 r.1 t)
      where
        by : (b : Bool) (x : Answer) → x ≡ (perform k sc schedule a.call s g).0 →
            answers_of (kept_asked seen sc xs) ≡ kept_answers k sc schedule seen (calls_of xs) (perform k sc schedule a.call s g).1 (perform k sc schedule a.call s g).2 →
            answers_of (cond b (kept_asked seen sc xs) (record { call = a.call; answer = x } ∷ kept_asked seen sc xs)) ≡
            cond b (kept_answers k sc schedule seen (calls_of xs) (perform k sc schedule a.call s g).1 (perform k sc schedule a.call s g).2)
            ((perform k sc schedule a.call s g).0 ∷ kept_answers k sc schedule seen (calls_of xs) (perform k sc schedule a.call s g).1 (perform k sc schedule a.call s g).2)
        by true x e later = later
        by false x e later = ap₂ (λ y ys. y ∷ ys) e later

  pub blind : Lawful k → Levelled k sc → Obedient schedule → Refines → (g : G) (m n : Memory) → Views m (begin sc) g → Views n (begin sc) g → Blind k sc Did m n
  blind law lev obedient refines g m n vm vn reader h xs ys t u alike =
      let seen : ℕ → Bool = λ l. k.flows l reader in
      trace-answers seen refines xs m (begin sc) g vm t
      ∙ secret law lev obedient reader h g (calls_of xs) (calls_of ys) (sym (kept_calls seen sc xs) ∙ alike ∙ kept_calls seen sc ys)
      ∙ sym (trace-answers seen refines ys n (begin sc) g vn u)

  module _ (refines : Refines) where
    all-answers : (xs : List Asked) (m : Memory) (s : State) (g : G) → Views m s g → Trace Did m xs → answers_of xs ≡ answers k sc schedule (calls_of xs) s g
    unfolding Refines
    all-answers [] m s g v t = refl
    all-answers (a ∷ xs) m s g v (link {n = n} d t) =
        let r = refines m s g a.call a.answer n v d in
        ap₂ (λ y ys. y ∷ ys) r.0 (all-answers xs n (perform k sc schedule a.call s g).1 (perform k sc schedule a.call s g).2 r.1 t)

-- A script that passes inspection, and the same with every level open: traces whose calls are alike have the same answers.
pub unaltered : {k : Levels} {sc : Script} {G : Type 0} (schedule : Meaning G) {Memory : Type 0} (Did : Memory → Call → Answer → Memory → Type 0) (Views Views' : Memory → State → G → Type 0)
    → Lawful k → Levelled k sc → (typing : List ℕ) → Passes k sc typing → Refines k sc schedule Did Views → Refines k (opened sc) schedule Did Views'
    → (g : G) (m n : Memory) → Views m (begin sc) g → Views' n (begin (opened sc)) g → AnsweredAlike Did m n
unaltered {k} {sc} schedule Did Views Views' law lev typing passes r r' g m n vm vn xs ys t u alike =
    all-answers k sc schedule Did Views r xs m (begin sc) g vm t
    ∙ transparent schedule law lev typing passes g (calls_of xs)
    ∙ ap (λ (cs : List Call). answers k (opened sc) schedule cs (begin (opened sc)) g) alike
    ∙ sym (all-answers k (opened sc) schedule Did Views' r' ys n (begin (opened sc)) g vn u)
