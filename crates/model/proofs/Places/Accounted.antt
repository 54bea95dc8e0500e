-- What memory says of a thread fits a script exactly if it is the account of a thread of the model, and then of one only.
use Rattle.std.proofs.Common.{◌≡◌, ℕ, suc, ◌<◌, Bool, ◌&&◌, T, eqb, List, [], ◌∷◌, length, get_or, drop, sym, refl, ap, ◌∙◌, subst, eqb→eq, rules}
use lib.Dec.{eqb_refl}
use lib.ListN.{get_or-map}
use Rattle.std.proofs.ByRecursion.{All-get_or}
use Rattle.lattice.specs.Levels.{Levels}
use Rattle.script.specs.Code.{Code, Script}
use Rattle.script.specs.Code.Code.{done, branch, loop, lock}
use Rattle.codec.specs.Frames.{Frame}
use Rattle.codec.specs.Frames.Frame.{else, end_if}
use Rattle.script.specs.Trees.{flatten, script_frames, head_of, Valid, ValidScript}
use Rattle.model.specs.Threads.{Open, Pace, Thread, ended, at_code}
use Rattle.model.specs.Threads.Open.{in_branch, in_loop, in_lock}
use Rattle.model.specs.Threads.Pace.{running, idling}
use Rattle.model.specs.Calls.{begin}
use Rattle.model.specs.Places.{flatten_inside, Spot, Opened, Stands, start_spot, ValidThread}
use Rattle.model.specs.Fitting.{Walk, walk_in, frame_at, around, Account, same_places, spot_fits, levels_fit, pace_fits, thread_fits, is_thread_end, contexts, Idles, Accounts, behind_thread}
use Rattle.model.proofs.Tests.{and_left, and_right, both}
use Rattle.model.proofs.Places.Unique.{flatten_injective, inside_closed, one_code}
use Rattle.model.proofs.Places.Walking.{met}
use Rattle.model.proofs.Places.Rebuilding.{stands_where}
use Rattle.model.proofs.Places.Owning.{thread_own}
use Rattle.model.proofs.Places.Levelling.{contexts_fit, levelled, idles_fit, fit_idles, at_last, last_there}

-- One thread

other_way : {A : Type 0} {f g : List Frame} → else ∷ f ≡ end_if ∷ g → A
other_way e = absurd cc

-- Which way was taken shows in the frame that ends it.
same_way : (l m : ℕ) (v w : Bool) (a b n c d o : Code) (os xs : List Open) (r r' : List Frame) → flatten_inside (in_branch l v a b n ∷ os) r ≡ flatten_inside (in_branch m w c d o ∷ xs) r' → v ≡ w
same_way l m v w a b n c d o os xs r r' e = search rules

module _ (fs : List Frame) where
  -- What a place's frames are the beginning of.
  one_opening : (p : ℕ) (c d : Code) (os xs : List Open) (r r' : List Frame) → drop p fs ≡ flatten c (flatten_inside os r) → drop p fs ≡ flatten d (flatten_inside xs r')
      → (c ≡ d) × (flatten_inside os r ≡ flatten_inside xs r')
  one_opening p c d os xs r r' e h = flatten_injective c d _ _ (inside_closed os r) (inside_closed xs r') (sym e ∙ h)

  later : (l m : ℕ) (ls ms : List ℕ) → l ∷ ls ≡ m ∷ ms → ls ≡ ms
  later l m ls ms e = cc

  first : (l m : ℕ) (ls ms : List ℕ) → l ∷ ls ≡ m ∷ ms → l ≡ m
  first l m ls ms e = cc

  one_inside : (ps : List ℕ) (os xs : List Open) (r r' : List Frame) → flatten_inside os r ≡ flatten_inside xs r' → Opened fs r ps os → Opened fs r' ps xs → contexts os ≡ contexts xs
      → (os ≡ xs) × (r ≡ r')
  one_inside [] [] [] r r' e o u c = (refl, cc)
  one_inside [] [] (x ∷ xs) r r' e o u c = absurd u
  one_inside [] (x ∷ os) xs r r' e o u c = absurd o
  one_inside (p ∷ ps) [] xs r r' e o u c = absurd o
  one_inside (p ∷ ps) (x ∷ os) [] r r' e o u c = absurd u
  one_inside (p ∷ ps) (in_branch l v a b n ∷ os) (in_branch m w a' b' n' ∷ xs) r r' e o u c =
      let s = one_opening p (branch o.0.0 a b n) (branch u.0.0 a' b' n') os xs r r' o.0.1 u.0.1 in
      let t = one_inside ps os xs r r' s.1 o.1 u.1 (later _ _ _ _ c) in
      let same : branch o.0.0 a b n ≡ branch u.0.0 a' b' n' = s.0 in
      let ea : a ≡ a' = cc in
      let eb : b ≡ b' = cc in
      let en : n ≡ n' = cc in
      let el = first _ _ _ _ c in
      let ew = same_way l m v w a b n a' b' n' os xs r r' e in
      (λ j. in_branch (el j) (ew j) (ea j) (eb j) (en j) ∷ t.0 j, t.1)
  one_inside (p ∷ ps) (in_loop x b n ∷ os) (in_loop x' b' n' ∷ xs) r r' e o u c =
      let s = one_opening p (loop x b n) (loop x' b' n') os xs r r' o.0 u.0 in
      let t = one_inside ps os xs r r' s.1 o.1 u.1 (later _ _ _ _ c) in
      let same : loop x b n ≡ loop x' b' n' = s.0 in
      let ex : x ≡ x' = cc in
      let eb : b ≡ b' = cc in
      let en : n ≡ n' = cc in
      (λ j. in_loop (ex j) (eb j) (en j) ∷ t.0 j, t.1)
  one_inside (p ∷ ps) (in_lock m n ∷ os) (in_lock m' n' ∷ xs) r r' e o u c =
      let s = one_opening p (lock m o.0.0 o.0.1 n) (lock m' u.0.0 u.0.1 n') os xs r r' o.0.2 u.0.2 in
      let t = one_inside ps os xs r r' s.1 o.1 u.1 (later _ _ _ _ c) in
      let same : lock m o.0.0 o.0.1 n ≡ lock m' u.0.0 u.0.1 n' = s.0 in
      let em : m ≡ m' = cc in
      let en : n ≡ n' = cc in
      (λ j. in_lock (em j) (en j) ∷ t.0 j, t.1)
  one_inside (p ∷ ps) (in_branch l v a b n ∷ os) (in_loop x' b' n' ∷ xs) r r' e o u c =
      let same : branch o.0.0 a b n ≡ loop x' b' n' = (one_opening p _ _ os xs r r' o.0.1 u.0).0 in absurd cc
  one_inside (p ∷ ps) (in_branch l v a b n ∷ os) (in_lock m' n' ∷ xs) r r' e o u c =
      let same : branch o.0.0 a b n ≡ lock m' u.0.0 u.0.1 n' = (one_opening p _ _ os xs r r' o.0.1 u.0.2).0 in absurd cc
  one_inside (p ∷ ps) (in_loop x b n ∷ os) (in_branch m w a' b' n' ∷ xs) r r' e o u c =
      let same : loop x b n ≡ branch u.0.0 a' b' n' = (one_opening p _ _ os xs r r' o.0 u.0.1).0 in absurd cc
  one_inside (p ∷ ps) (in_loop x b n ∷ os) (in_lock m' n' ∷ xs) r r' e o u c =
      let same : loop x b n ≡ lock m' u.0.0 u.0.1 n' = (one_opening p _ _ os xs r r' o.0 u.0.2).0 in absurd cc
  one_inside (p ∷ ps) (in_lock m n ∷ os) (in_branch l w a' b' n' ∷ xs) r r' e o u c =
      let same : lock m o.0.0 o.0.1 n ≡ branch u.0.0 a' b' n' = (one_opening p _ _ os xs r r' o.0.2 u.0.1).0 in absurd cc
  one_inside (p ∷ ps) (in_lock m n ∷ os) (in_loop x' b' n' ∷ xs) r r' e o u c =
      let same : lock m o.0.0 o.0.1 n ≡ loop x' b' n' = (one_opening p _ _ os xs r r' o.0.2 u.0).0 in absurd cc

pub one_thread : (k : Levels) (fs r r' : List Frame) (a : Account) (t u : Thread) → Accounts k fs r a t → Accounts k fs r' a u → (t ≡ u) × (r ≡ r')
one_thread k fs r r' a t u h g =
    let s = one_code fs r r' a.spot a.spot t.code u.code t.inside u.inside refl h.stands.stands g.stands.stands in
    let i = one_inside fs a.spot.openers t.inside u.inside r r' s.1 h.stands.stands.opened g.stands.stands.opened (sym h.levels ∙ g.levels) in
    let p : t.pace ≡ u.pace = sym h.pace ∙ g.pace in
    (λ j. record { code = s.0 j; pace = p j; inside = i.0 j }, i.1)

-- Fitting

pub same_refl : (ps : List ℕ) → T (same_places ps ps)
same_refl [] = tt
same_refl (p ∷ ps) = both (eqb p p) (same_places ps ps) (eqb_refl p) (same_refl ps)

pub same_is : (ps qs : List ℕ) → T (same_places ps qs) → ps ≡ qs
same_is [] [] t = refl
same_is [] (q ∷ qs) t = absurd t
same_is (p ∷ ps) [] t = absurd t
same_is (p ∷ ps) (q ∷ qs) t =
    let a = eqb→eq p q (and_left (eqb p q) (same_places ps qs) t) in
    let b = same_is ps qs (and_right (eqb p q) (same_places ps qs) t) in
    λ j. a j ∷ b j

-- A walk that has met what a spot says.
walk_fits : (i : ℕ) (ps : List ℕ) (w : Walk) → w ≡ walk_in i ps → T (eqb w.begun (suc i) && (eqb w.ended i && same_places w.openers ps))
walk_fits i ps w e =
    subst (λ (x : Walk). T (eqb x.begun (suc i) && (eqb x.ended i && same_places x.openers ps))) (sym e)
    (both (eqb (suc i) (suc i)) _ (eqb_refl (suc i)) (both (eqb i i) _ (eqb_refl i) (same_refl ps)))

pub spots : (sc : Script) (i : ℕ) → i < length sc.codes → (s : Spot) (c : Code) (os : List Open) → Stands (script_frames sc) (behind_thread sc i) s c os → T (spot_fits (script_frames sc) i s)
spots sc i l s c os h =
    walk_fits i s.openers (around (script_frames sc) s.place) (met (script_frames sc) (behind_thread sc i) i _ (thread_own sc i l).own s.place s.openers c os h.here h.opened)

pub account_fits : (k : Levels) (sc : Script) (i : ℕ) → i < length sc.codes → (a : Account) (t : Thread) → Accounts k (script_frames sc) (behind_thread sc i) a t → T (thread_fits k (script_frames sc) i a)
account_fits k sc i l a t h =
    let fs = script_frames sc in
    let r = behind_thread sc i in
    let s = h.stands.stands in
    let levels = subst (λ (ls : List ℕ). T (levels_fit k fs a.spot.openers ls)) (sym h.levels) (contexts_fit k fs r a.spot.openers t.inside s.opened h.coded) in
    let pace = subst (λ (p : Pace). T (pace_fits (frame_at fs a.spot.place) p)) (sym h.pace) (idles_fit k fs r a.spot.place t.code t.pace t.inside s.here h.stands.idle h.idles) in
    both (spot_fits fs i a.spot) _ (spots sc i l a.spot t.code t.inside s) (both (levels_fit k fs a.spot.openers a.levels) _ levels pace)

-- The parts of fitting.
record SpotParts (fs : List Frame) (i : ℕ) (s : Spot) : Type 0 where
  begun : (around fs s.place).begun ≡ suc i
  over : (around fs s.place).ended ≡ i
  places : (around fs s.place).openers ≡ s.openers

spot_parts : (fs : List Frame) (i : ℕ) (s : Spot) → T (spot_fits fs i s) → SpotParts fs i s
spot_parts fs i s fit =
    let w = around fs s.place in
    let ps = s.openers in
    let counted = eqb w.ended i && same_places w.openers ps in
    let inner : T counted = and_right (eqb w.begun (suc i)) counted fit in
    record {
      begun = eqb→eq w.begun (suc i) (and_left (eqb w.begun (suc i)) counted fit);
      over = eqb→eq w.ended i (and_left (eqb w.ended i) (same_places w.openers ps) inner);
      places = same_is w.openers ps (and_right (eqb w.ended i) (same_places w.openers ps) inner);
    }

record Parts (k : Levels) (fs : List Frame) (i : ℕ) (a : Account) : Type 0 where
  spot : T (spot_fits fs i a.spot)
  levels : T (levels_fit k fs a.spot.openers a.levels)
  pace : T (pace_fits (frame_at fs a.spot.place) a.pace)

parts : (k : Levels) (fs : List Frame) (i : ℕ) (a : Account) → T (thread_fits k fs i a) → Parts k fs i a
parts k fs i a fit =
    let leveled = levels_fit k fs a.spot.openers a.levels in
    let paced = pace_fits (frame_at fs a.spot.place) a.pace in
    let rest : T (leveled && paced) = and_right (spot_fits fs i a.spot) (leveled && paced) fit in
    record { spot = and_left (spot_fits fs i a.spot) (leveled && paced) fit; levels = and_left leveled paced rest; pace = and_right leveled paced rest }

-- What stands at a spot that fits.
record Found (sc : Script) (i : ℕ) (s : Spot) : Type 0 where
  code : Code
  inside : List Open
  here : drop s.place (script_frames sc) ≡ flatten code (flatten_inside inside (behind_thread sc i))
  opened : Opened (script_frames sc) (behind_thread sc i) s.openers inside
  valid : ValidThread (head_of sc) (at_code code inside)

find : (kind : ℕ) (k : Levels) (sc : Script) → ValidScript kind k sc → (i : ℕ) → i < length sc.codes → (s : Spot) → T (spot_fits (script_frames sc) i s) → Found sc i s
find kind k sc v i l s fit =
    let h = head_of sc in
    let fs = script_frames sc in
    let r = behind_thread sc i in
    let t = spot_parts fs i s fit in
    let own = (thread_own sc i l).own in
    let st = stands_where h fs r i _ own (All-get_or (Valid h 0) sc.codes i done l v.codes) s.place t.begun t.over in
    let m = met fs r i _ own s.place st.openers st.code st.inside st.stands.here st.stands.opened in
    let same : st.openers ≡ s.openers = sym (ap (λ (x : Walk). x.openers) m) ∙ t.places in
    record { code = st.code; inside = st.inside; here = st.stands.here; opened = subst (λ (qs : List ℕ). Opened fs r qs st.inside) same st.stands.opened; valid = st.valid }

pub stands : (kind : ℕ) (k : Levels) (sc : Script) → ValidScript kind k sc → (i : ℕ) → i < length sc.codes → (s : Spot) → T (spot_fits (script_frames sc) i s) →
    (c : Code) × (os : List Open) × Stands (script_frames sc) (behind_thread sc i) s c os
stands kind k sc v i l s fit = let f = find kind k sc v i l s fit in (f.code, f.inside, record { here = f.here; opened = f.opened })

pub rebuilt : (kind : ℕ) (k : Levels) (sc : Script) → ValidScript kind k sc → (i : ℕ) → i < length sc.codes → (a : Account) → T (thread_fits k (script_frames sc) i a) →
    (t : Thread) × Accounts k (script_frames sc) (behind_thread sc i) a t × ValidThread (head_of sc) t
rebuilt kind k sc v i l a fit =
    let h = head_of sc in
    let fs = script_frames sc in
    let r = behind_thread sc i in
    let t = parts k fs i a fit in
    let f = find kind k sc v i l a.spot t.spot in
    let x = levelled k fs r h a.spot.openers a.levels f.inside f.opened t.levels f.valid.inside in
    let here : drop a.spot.place fs ≡ flatten f.code (flatten_inside x.blocks r) = f.here ∙ ap (flatten f.code) (sym x.flat) in
    let idle = fit_idles k fs r a.spot.place f.code a.pace x.blocks here t.pace in (
      record { code = f.code; pace = a.pace; inside = x.blocks },
      record {
        stands = record { stands = record { here = here; opened = x.opened }; idle = idle.0 };
        levels = x.levels;
        coded = x.coded;
        pace = refl;
        idles = idle.1;
      },
      record { code = subst (λ (d : ℕ). Valid h d f.code) x.long f.valid.code; inside = x.valid },
    )

-- Begin and end

pub walk_begins : (sc : Script) (i : ℕ) → i < length sc.codes → around (script_frames sc) (start_spot (script_frames sc) i).place ≡ walk_in i []
walk_begins sc i l = let t = thread_own sc i l in ap (around (script_frames sc)) t.begins ∙ t.own.inside

-- Outside every block nothing idles.
no_idling : (s : Pace) (os : List Open) → os ≡ [] → Idles s os → s ≡ running
no_idling running os e i = refl
no_idling (idling n) os e i = absurd (subst (Idles (idling n)) e i)

pub through : (k : Levels) (fs r : List Frame) (a : Account) (t : Thread) → Accounts k fs r a t → T (is_thread_end (frame_at fs a.spot.place)) → t ≡ ended
through k fs r a t h e =
    let l = at_last k fs r a.spot.place t.code t.inside h.stands.stands.here e in
    let p = no_idling t.pace t.inside l.1 h.idles in
    λ j. record { code = l.0 j; pace = p j; inside = l.1 j }

pub at_end : (k : Levels) (fs r : List Frame) (a : Account) (t : Thread) → Accounts k fs r a t → t ≡ ended → T (is_thread_end (frame_at fs a.spot.place))
at_end k fs r a t h e = last_there k fs r a.spot.place (h.stands.stands.here ∙ ap (λ (u : Thread). flatten u.code (flatten_inside u.inside r)) e)

pub begin_accounts : (k : Levels) (sc : Script) (i : ℕ) → i < length sc.codes →
    Accounts k (script_frames sc) (behind_thread sc i) (record { spot = start_spot (script_frames sc) i; levels = []; pace = running }) (get_or (begin sc).threads i ended)
begin_accounts k sc i l =
    let fs = script_frames sc in
    let o = thread_own sc i l in
    let here = ap (λ (p : ℕ). drop p fs) o.begins ∙ o.own.here in
    subst (Accounts k fs (behind_thread sc i) (record { spot = start_spot fs i; levels = []; pace = running })) (sym (get_or-map (λ c. at_code c []) sc.codes i done))
    (record { stands = record { stands = record { here = here; opened = tt }; idle = tt }; levels = refl; coded = tt; pace = refl; idles = tt })
