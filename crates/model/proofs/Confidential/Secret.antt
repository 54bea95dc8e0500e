-- What a reader finds does not depend on what may not flow to that reader.
use Rattle.std.proofs.Common.{◌≡◌, ℕ, zero, suc, Bool, true, false, cond, T, List, [], ◌∷◌, map, get_or, replicate, sym, refl, subst, ap₂}
use Rattle.lattice.specs.Levels.{Levels, Lawful}
use Rattle.script.specs.Code.{Code, Script}
use Rattle.model.specs.Values.{Cell, blank}
use Rattle.model.specs.Threads.{ended, at_code}
use Rattle.model.specs.Machine.{State}
use Rattle.scheduler.specs.Turns.{Meaning, Obedient}
use Rattle.model.specs.Calls.{Call, Answer, begin, perform}
use Rattle.model.specs.Levels.{Levelled}
use Rattle.model.specs.Secrecy.{Bounded, IsView, EveryViewIsBlind, Secret, left_out, kept, kept_answers}
use Rattle.model.proofs.Confidential.View.{View, Had, had_zero}
use Rattle.model.proofs.Confidential.Agree.{agree_same}
use Rattle.model.proofs.Confidential.Stack.{Guards, guards_nil}
use Rattle.model.proofs.Confidential.Threads.{Fits}
use Rattle.model.proofs.Confidential.Threads.TR.{same}
use Rattle.model.proofs.Confidential.Alike.{Safe}
use Rattle.model.proofs.Confidential.Turn.{Pair}
use Rattle.model.proofs.Confidential.Performed.{unheard, Performed, performed, pair_left, pair_right}

-- A run as it is made.
fits_none : (c : Code) → Fits c []
fits_none c = record { fit = record { is = λ n. absurd (n tt) }; deep = tt }

begin_fits : (cs : List Code) (i : ℕ) → Fits (get_or (map (λ c. at_code c []) cs) i ended).code (get_or (map (λ c. at_code c []) cs) i ended).inside
begin_fits [] i = fits_none _
begin_fits (c ∷ cs) zero = fits_none c
begin_fits (c ∷ cs) (suc i) = begin_fits cs i

module _ (v : View) where
  begin_had : (n x : ℕ) → Had v (get_or (replicate n blank) x blank).level
  begin_had zero x = had_zero v
  begin_had (suc n) zero = had_zero v
  begin_had (suc n) (suc x) = begin_had n x

  begin_guards : (cells : List Cell) (cs : List Code) (i : ℕ) → Guards v cells (get_or (map (λ c. at_code c []) cs) i ended).inside
  begin_guards cells [] i = guards_nil v cells
  begin_guards cells (c ∷ cs) zero = guards_nil v cells
  begin_guards cells (c ∷ cs) (suc i) = begin_guards cells cs i

  begin_safe : Safe v (begin v.sc)
  begin_safe = record { cells = record { at = begin_had v.sc.variables }; guards = begin_guards _ v.sc.codes }

  begin_pair : Pair v (begin v.sc) (begin v.sc)
  begin_pair = record {
    alike = record { agree = agree_same v (begin v.sc); long = refl; threads = λ i. same refl (begin_fits v.sc.codes i) };
    safe_l = begin_safe;
    safe_r = begin_safe;
  }

  module _ {G : Type 0} (schedule : Meaning G) (obedient : Obedient schedule) where
    abbrev does : Call → State → G → Answer × State × G
    does = perform v.k v.sc schedule

    abbrev out : Call → Bool
    out = left_out v.seen v.sc

    abbrev left : List Call → List Call
    left = kept v.seen v.sc

    abbrev told : List Call → State → G → List Answer
    told = kept_answers v.k v.sc schedule v.seen

    nothing_left : (ys : List Call) (t : State) (g : G) → ◌≡◌ {A = List Call} [] (left ys) → ◌≡◌ {A = List Answer} [] (told ys t g)
    nothing_left [] t g e = refl
    nothing_left (y ∷ ys) t g e = go (out y) _ _ e (nothing_left ys _ _)
      where
        go : (b : Bool) (us vs : List Answer) → ◌≡◌ {A = List Call} [] (cond b (left ys) (y ∷ left ys)) → (◌≡◌ {A = List Call} [] (left ys) → ◌≡◌ {A = List Answer} [] us) → ◌≡◌ {A = List Answer} [] (cond b us vs)
        go true us vs e f = f e
        go false us vs e f = cc

    abbrev Rest : List Call → Type 0
    Rest xs = (ys : List Call) (s t : State) (g : G) → Pair v s t → left xs ≡ left ys → told xs s g ≡ told ys t g

    -- A kept call on the left: its like is found on the right.
    find : (x : Call) (xs : List Call) → Rest xs → out x ≡ false → (ys : List Call) (s t : State) (g : G) → Pair v s t
        → x ∷ left xs ≡ left ys → (does x s g).0 ∷ told xs (does x s g).1 (does x s g).2 ≡ told ys t g
    find x xs ih o [] s t g h e = cc
    find x xs ih o (y ∷ ys) s t g h e = go (out y) refl e (λ t h e. find x xs ih o ys s t g h e)
      where
        hit : x ≡ y → left xs ≡ left ys → (does x s g).0 ∷ told xs (does x s g).1 (does x s g).2 ≡ (does y t g).0 ∷ told ys (does y t g).1 (does y t g).2
        hit p q =
            let r : Performed v schedule obedient (does x s g) (does y t g) = subst (λ (c : Call). Performed v schedule obedient (does x s g) (does c t g)) p (performed v schedule obedient x s t g o h) in
            ap₂ {B = List Answer} {C = List Answer} ◌∷◌ r.answer
            (subst (λ (z : G). told xs (does x s g).1 (does x s g).2 ≡ told ys (does y t g).1 z) r.schedulers (ih ys _ _ _ r.states q))

        go : (b : Bool) → out y ≡ b → x ∷ left xs ≡ cond b (left ys) (y ∷ left ys)
            → ((t : State) → Pair v s t → x ∷ left xs ≡ left ys → (does x s g).0 ∷ told xs (does x s g).1 (does x s g).2 ≡ told ys t g)
            → (does x s g).0 ∷ told xs (does x s g).1 (does x s g).2 ≡ cond b (told ys (does y t g).1 (does y t g).2) ((does y t g).0 ∷ told ys (does y t g).1 (does y t g).2)
        go true p e f =
            let u = unheard v schedule obedient y t g p h.safe_r in
            subst (λ (z : G). (does x s g).0 ∷ told xs (does x s g).1 (does x s g).2 ≡ told ys (does y t g).1 z) (sym u.1) (f _ (pair_right v h u.0) e)
        go false p e f = let p1 : x ≡ y = cc in let p2 : left xs ≡ left ys = cc in hit p1 p2

    alike-answers : (xs : List Call) → Rest xs
    alike-answers [] ys s t g h e = nothing_left ys t g e
    alike-answers (x ∷ xs) ys s t g h e = go (out x) refl e (alike-answers xs)
      where
        go : (b : Bool) → out x ≡ b → cond b (left xs) (x ∷ left xs) ≡ left ys → Rest xs
            → cond b (told xs (does x s g).1 (does x s g).2) ((does x s g).0 ∷ told xs (does x s g).1 (does x s g).2) ≡ told ys t g
        go true p e ih =
            let u = unheard v schedule obedient x s g p h.safe_l in
            subst (λ (z : G). told xs (does x s g).1 z ≡ told ys t g) (sym u.1) (ih ys _ t g (pair_left v h u.0) e)
        go false p e ih = find x xs ih p ys s t g h e

    pub secret_view : (g : G) (xs ys : List Call) → left xs ≡ left ys → told xs (begin v.sc) g ≡ told ys (begin v.sc) g
    secret_view g xs ys e = alike-answers xs ys _ _ g begin_pair e

-- Secrecy from a view, by four laws of the kind of levels.
pub blind : {S : Type 0} {schedule : Meaning S} → Obedient schedule → EveryViewIsBlind schedule
blind {schedule = schedule} obedient k sc law lev seen view g xs ys e = secret_view (record { k = k; sc = sc; seen = seen; law = law; levelled = lev; view = view }) schedule obedient g xs ys e

pub bounds : {k : Levels} → Lawful k → Bounded k
bounds law = record { open_has = law.open_has; join_has = law.join_has; join_left = law.join_left; join_right = law.join_right }

-- What one reader sees is a view: open flows to every reader, and flow is transitive.
reader_view : (k : Levels) → Lawful k → (r : ℕ) → T (k.has r) → IsView k (λ l. k.flows l r)
reader_view k law r h = record { open_seen = law.open_least r h; down = λ a b ha hb f s. law.flows_trans a b r ha hb h f s }

pub secret : {k : Levels} {sc : Script} {S : Type 0} {schedule : Meaning S} → Lawful k → Levelled k sc → Obedient schedule → Secret k sc schedule
secret {k} {sc} {schedule = schedule} law lev obedient reader h = blind obedient k sc (bounds law) lev (λ l. k.flows l reader) (reader_view k law reader h)
