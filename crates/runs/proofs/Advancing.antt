-- The ready set, the end, and turns one after another.
use Rattle.std.proofs.Common.{◌≡◌, ℕ, zero, suc, ◌+◌, ◌-◌, ◌<◌, ◌≤◌, Bool, true, false, cond, ◌&&◌, ◌||◌, T, eqb, ◌≢◌, List, [], ◌∷◌, length, get_or, take, set, ℤ, Some, None, Option, sym, refl, ap, ◌∙◌, subst, ⊎_elim, add-one, arith, length-take, get_or-set_other, get_or-take, get_or-set_same, ext_get_or}
use mathlib.Core.Option.{Option as Perhaps}
use Rattle.std.proofs.lemmas.List.{get_or_past}
use Rattle.std.proofs.lemmas.Bool.{cases_eq, cases_lt}
use borrow.Author.Tests.{eqb-false}
use Rattle.lattice.specs.Levels.{Levels}
use Rattle.codec.specs.Frames.{Frame}
use Rattle.script.specs.Code.{Script}
use Rattle.model.specs.Machine.{State, status, status_is_ready, status_is_finished, each_from, all_true, rules, ready_set, all_finished, take_turn, advance}
use Rattle.model.specs.Threads.{Thread}
use Rattle.scheduler.specs.Turns.{Meaning, Obedient, answered}
use Rattle.survey.specs.declared.table.Step.{Step}
use Rattle.runs.specs.declared.Mark.{Mark}
use Rattle.runs.specs.declared.Entry.{Entry}
use Rattle.runs.specs.declared.Core.{Core}
use Rattle.runs.specs.Headers.{Few}
use Rattle.runs.specs.Flat.{mem, Mem}
use Rattle.runs.specs.Statuses.{status_now}
use Rattle.runs.specs.Turns.{Within, AllFit, all_first, ReadyList, over_first, Turned, Advanced}
use Rattle.runs.specs.Views.{Runs, RunningMem}
use Rattle.runs.proofs.Threads.{views_later}
use Rattle.runs.proofs.Stepping.{with_turns, tick}
use Rattle.runs.proofs.Fits.{views_sized, views_fit}
use Rattle.runs.proofs.Standing.{status_is}

-- A list of answers, one more at a time

pub answers_more : (f : ℕ → Bool) (xs : List Bool) (i : ℕ) (b : Bool) → i < length xs → ((j : ℕ) → j < i → get_or xs j false ≡ f j) → b ≡ f i → (j : ℕ) → j < i + 1 → get_or (set xs i b) j false ≡ f j
answers_more f xs i b lt h e j below = ⊎_elim
    (λ (q : j ≡ i). ap (λ (n : ℕ). get_or (set xs i b) n false) q ∙ get_or-set_same xs i b false lt ∙ e ∙ ap f (sym q))
    (λ (ne : j ≢ i). get_or-set_other xs i j b false ne ∙ h j (omega arith))
    (cases_eq j i)

pub all_none : (f : ℕ → Bool) → all_first f 0 ≡ true
unfolding all_first
all_none f = refl

pub all_more : (f : ℕ → Bool) (n : ℕ) → all_first f (n + 1) ≡ (all_first f n && f n)
unfolding all_first
all_more f n = ap (all_first f) (add-one n)

from_length : (f : ℕ → Bool) (i : ℕ) (ts : List Thread) → length (each_from f i ts) ≡ length ts
from_length f i [] = refl
from_length f i (t ∷ ts) = ap suc (from_length f (suc i) ts)

from_getD : (f : ℕ → Bool) (i : ℕ) (ts : List Thread) (j : ℕ) → j < length ts → get_or (each_from f i ts) j false ≡ f (i + j)
from_getD f i [] j lt = absurd (omega arith)
from_getD f i (t ∷ ts) zero lt = ap f (omega arith)
from_getD f i (t ∷ ts) (suc j) lt = from_getD f (suc i) ts j (omega arith) ∙ ap f (omega arith)

and_true : (b : Bool) → (b && true) ≡ b
and_true true = refl
and_true false = refl

and_assoc : (a b c : Bool) → (a && (b && c)) ≡ ((a && b) && c)
and_assoc true b c = refl
and_assoc false b c = refl

or_false : (a b : Bool) → (a || b) ≡ false → b ≡ false
or_false true b e = let z : ◌≡◌ {A = ℕ} 0 1 = cc in absurd (omega arith)
or_false false b e = e

all_from : (f g : ℕ → Bool) (i : ℕ) (ts : List Thread) → ((j : ℕ) → j < i + length ts → g j ≡ f j) → (all_first f i && all_true (each_from g i ts)) ≡ all_first f (i + length ts)
unfolding all_first
all_from f g i [] same = let e : i ≡ i + 0 = omega arith in and_true (all_first f i) ∙ ap (all_first f) e
all_from f g i (t ∷ ts) same =
    let e : suc i + length ts ≡ i + suc (length ts) = omega arith in
    ap (λ (b : Bool). all_first f i && (b && all_true (each_from g (suc i) ts))) (same i (omega arith))
    ∙ and_assoc (all_first f i) (f i) _
    ∙ all_from f g (suc i) ts (λ j lt. same j (omega arith))
    ∙ ap (all_first f) e

module _ (k : Levels) (table : List Step) (code : List ℕ) (ss : List ℤ) (c : Core) (ms : List Mark) (es : List Entry) where
  pub all_fit : RunningMem table code ss (mem c ms es) → AllFit c table code ms
  all_fit h =
      let v = h.3.views in
      record { sized = views_sized c.turns h.0 h.1 table code c ms es h.3.ts v; here = λ i lt. (views_fit c.turns h.0 h.1 table code c ms es h.3.ts v i lt (omega arith)).here }

  pub below_limit : (over : Bool) → RunningMem table code ss (mem c ms es) → false ≡ (over || eqb c.turns 1000000) → c.turns < 1000000
  below_limit over h e =
      let le = h.3.views.turns in
      let ne : eqb c.turns 1000000 ≡ false = or_false over (eqb c.turns 1000000) (sym e) in
      ⊎_elim (λ (q : c.turns ≡ 1000000). absurd (eqb-false c.turns 1000000 ne q)) (λ (n : c.turns ≢ 1000000). omega arith) (cases_eq c.turns 1000000)

  module _ (sc : Script) (after : ℕ → List Frame) (s : State) (runs : Runs sc after table code ss (mem c ms es) s) where
    status-same : (i : ℕ) → i < c.head.threads → status_now k table code ss i c ms ≡ status k sc s i
    status-same i lt = status_is c.turns k sc after table code ss c ms es runs.ts runs.views i lt ∙ ap (λ (z : State). status k sc z i) (sym runs.is)

    many : length s.threads ≡ c.head.threads
    many = ap (λ (z : State). length z.threads) runs.is ∙ runs.views.count

    pub ready_is : (ready : List Bool) → length ready ≡ 8 → ReadyList k table code ss c ms ready c.head.threads → take c.head.threads ready ≡ ready_set (rules k sc) s
    ready_is ready eight h =
        let few = c.few.0 in
        let n = many in
        let f : ℕ → Bool = λ i. status_is_ready (status k sc s i) in
        ext_get_or false (take c.head.threads ready) (ready_set (rules k sc) s) (omega (arith, length-take c.head.threads ready, from_length f 0 s.threads))
        (λ j lt.
        let jn : j < c.head.threads = omega (arith, length-take c.head.threads ready) in
        let at : 0 + j ≡ j = omega arith in
        get_or-take c.head.threads ready j false jn ∙ h j jn ∙ ap status_is_ready (status-same j jn) ∙ sym (from_getD f 0 s.threads j (omega arith) ∙ ap f at))

    pub over_is : over_first k table code ss c ms c.head.threads ≡ all_finished (rules k sc) s
    over_is =
        let n = many in
        let e : 0 + length s.threads ≡ c.head.threads = omega arith in
        sym (sym (ap (λ (b : Bool). b && all_true (each_from (λ i. status_is_finished (status k sc s i)) 0 s.threads)) (all_none (λ j. status_is_finished (status_now k table code ss j c ms))))
        ∙ all_from (λ j. status_is_finished (status_now k table code ss j c ms)) (λ i. status_is_finished (status k sc s i)) 0 s.threads (λ j lt. ap status_is_finished (sym (status-same j (omega arith))))
        ∙ ap (all_first (λ j. status_is_finished (status_now k table code ss j c ms))) e)

    -- A rest.
    pub rest_runs : (o : Option ℕ) (f : Few c.head) → o ≡ None → c.turns < 1000000 → Runs sc after table code ss (mem (with_turns c (c.turns + 1) f) ms es) (take_turn (rules k sc) s (answered o))
    rest_runs o f e lt =
        let P : Option ℕ → Type 0 = λ z. Runs sc after table code ss (mem (with_turns c (c.turns + 1) f) ms es) (take_turn (rules k sc) s (answered z)) in
        subst P (sym e) (tick c.turns sc after table code ss c ms es s f lt (record { ts = runs.ts; is = runs.is; counted = refl; fed = runs.fed; views = views_later c.turns sc after table code c ms es runs.ts runs.views }))

-- Turns

holds_within : (rs : List Bool) (i : ℕ) → T (get_or rs i false) → i < length rs
holds_within rs i t = ⊎_elim (λ (lt : i < length rs). lt) (λ (le : length rs ≤ i). absurd (subst T (get_or_past rs i false le) t)) (cases_lt i (length rs))

pub chosen_within : {G : Type 0} (schedule : Meaning G) → Obedient schedule → (g : G) (rs : List Bool) (n : ℕ) (o : Option ℕ) → length rs ≤ n → answered o ≡ (schedule g rs).0 → Within o n
chosen_within schedule law g rs n None le e = tt
chosen_within schedule law g rs n (Some i) le e = let lt = holds_within rs i (law.picks_ready g rs i (sym e)) in omega arith

module _ {G : Type 0} (k : Levels) (schedule : Meaning G) (table : List Step) (code : List ℕ) (ss : List ℤ) where
  pub turn_runs : (c : Core) (ms : List Mark) (es : List Entry) (y : Mem) (g h : G) (ready rs : List Bool) (o : Option ℕ) → length ready ≡ 8 → ReadyList k table code ss c ms ready c.head.threads → rs ≡ take c.head.threads ready
      → answered o ≡ (schedule g rs).0 → h ≡ (schedule g rs).1
      → ((sc : Script) (after : ℕ → List Frame) (s : State) → Runs sc after table code ss (mem c ms es) s → Runs sc after table code ss y (take_turn (rules k sc) s (answered o)))
      → (sc : Script) (after : ℕ → List Frame) (s : State) → Runs sc after table code ss (mem c ms es) s → Turned k schedule table code ss (mem c ms es) y g h sc after s
  turn_runs c ms es y g h ready rs o eight list part answer next takes sc after s runs =
      let same : rs ≡ ready_set (rules k sc) s = part ∙ ready_is k table code ss c ms es sc after s runs ready eight list in
      let P : Perhaps ℕ → Type 0 = λ z. Runs sc after table code ss y (take_turn (rules k sc) s z) in
      record {
        runs = subst P (answer ∙ ap (λ (l : List Bool). (schedule g l).0) same) (takes sc after s runs);
        scheduler = next ∙ ap (λ (l : List Bool). (schedule g l).1) same;
      }

  -- After some of n turns: what is left gives what the whole gives.
  pub record Gone (n given : ℕ) (y : Mem) (g h : G) (sc : Script) (after : ℕ → List Frame) (s : State) : Type 0 where
    pub state : State
    pub runs : Runs sc after table code ss y state
    pub answer : (advance (rules k sc) schedule n s g).0 ≡ given + (advance (rules k sc) schedule (n - given) state h).0
    pub later : (advance (rules k sc) schedule n s g).1 ≡ (advance (rules k sc) schedule (n - given) state h).1
    pub scheduler : (advance (rules k sc) schedule n s g).2 ≡ (advance (rules k sc) schedule (n - given) state h).2

  pub gone_none : (n : ℕ) (x : Mem) (g : G) (sc : Script) (after : ℕ → List Frame) (s : State) → Runs sc after table code ss x s → Gone n 0 x g g sc after s
  gone_none n x g sc after s runs =
      let e : n ≡ n - 0 = omega arith in
      record {
        state = s;
        runs = runs;
        answer = ap (λ (m : ℕ). (advance (rules k sc) schedule m s g).0) e ∙ (let f : (advance (rules k sc) schedule (n - 0) s g).0 ≡ 0 + (advance (rules k sc) schedule (n - 0) s g).0 = omega arith in f);
        later = ap (λ (m : ℕ). (advance (rules k sc) schedule m s g).1) e;
        scheduler = ap (λ (m : ℕ). (advance (rules k sc) schedule m s g).2) e;
      }

  stops_is : (c : Core) (ms : List Mark) (es : List Entry) (sc : Script) (after : ℕ → List Frame) (s : State) → Runs sc after table code ss (mem c ms es) s → (b over : Bool) → over ≡ over_first k table code ss c ms c.head.threads → b ≡ (over || eqb c.turns 1000000) → (all_finished (rules k sc) s || eqb s.turns 1000000) ≡ b
  stops_is c ms es sc after s runs b over o e =
      let t : s.turns ≡ c.turns = ap (λ (z : State). z.turns) runs.is in
      sym (e ∙ (λ j. (o ∙ over_is k table code ss c ms es sc after s runs) j || eqb (sym t j) 1000000))

  pub gone_more : (n given : ℕ) (c : Core) (ms : List Mark) (es : List Entry) (y : Mem) (g h h' : G) (over : Bool) (sc : Script) (after : ℕ → List Frame) (s : State) → given < n → over ≡ over_first k table code ss c ms c.head.threads → false ≡ (over || eqb c.turns 1000000)
      → ((sc : Script) (after : ℕ → List Frame) (s : State) → Runs sc after table code ss (mem c ms es) s → Turned k schedule table code ss (mem c ms es) y h h' sc after s)
      → Gone n given (mem c ms es) g h sc after s → Gone n (given + 1) y g h' sc after s
  gone_more n given c ms es y g h h' over sc after s lt o stop step gone =
      let u = gone.state in
      let m = n - (given + 1) in
      let e : n - given ≡ suc m = omega arith in
      let one = step sc after u gone.runs in
      let test = stops_is c ms es sc after u gone.runs false over o stop in
      let told = schedule h (ready_set (rules k sc) u) in
      let later = advance (rules k sc) schedule m (take_turn (rules k sc) u told.0) told.1 in
      let unroll : advance (rules k sc) schedule (n - given) u h ≡ (suc later.0, later.1, later.2) =
      ap (λ (x : ℕ). advance (rules k sc) schedule x u h) e ∙ ap (λ (b : Bool). cond b (0, u, h) (suc later.0, later.1, later.2)) test in
      let same : later ≡ advance (rules k sc) schedule m (take_turn (rules k sc) u told.0) h' = ap (advance (rules k sc) schedule m (take_turn (rules k sc) u told.0)) (sym one.scheduler) in
      let count : given + suc later.0 ≡ given + 1 + later.0 = omega arith in
      record {
        state = take_turn (rules k sc) u told.0;
        runs = one.runs;
        answer = gone.answer ∙ ap (λ (x : ℕ × State × G). given + x.0) unroll ∙ count ∙ ap (λ (x : ℕ × State × G). given + 1 + x.0) same;
        later = gone.later ∙ ap (λ (x : ℕ × State × G). x.1) unroll ∙ ap (λ (x : ℕ × State × G). x.1) same;
        scheduler = gone.scheduler ∙ ap (λ (x : ℕ × State × G). x.2) unroll ∙ ap (λ (x : ℕ × State × G). x.2) same;
      }

  -- Nothing is left.
  gone_over : (n given : ℕ) (y : Mem) (g h : G) (sc : Script) (after : ℕ → List Frame) (s : State) → (gone : Gone n given y g h sc after s) → advance (rules k sc) schedule (n - given) gone.state h ≡ (0, gone.state, h) → Advanced k schedule table code ss n given y g h sc after s
  gone_over n given y g h sc after s gone e =
      let zero_more : given + 0 ≡ given = omega arith in
      let P : State → Type 0 = λ z. Runs sc after table code ss y z in
      record {
        answer = sym (gone.answer ∙ ap (λ (x : ℕ × State × G). given + x.0) e ∙ zero_more);
        runs = subst P (sym (gone.later ∙ ap (λ (x : ℕ × State × G). x.1) e)) gone.runs;
        scheduler = sym (gone.scheduler ∙ ap (λ (x : ℕ × State × G). x.2) e);
      }

  pub gone_all : (n : ℕ) (y : Mem) (g h : G) (sc : Script) (after : ℕ → List Frame) (s : State) → Gone n n y g h sc after s → Advanced k schedule table code ss n n y g h sc after s
  gone_all n y g h sc after s gone = let e : n - n ≡ 0 = omega arith in gone_over n n y g h sc after s gone (ap (λ (x : ℕ). advance (rules k sc) schedule x gone.state h) e)

  pub gone_stop : (n given : ℕ) (c : Core) (ms : List Mark) (es : List Entry) (g h : G) (over : Bool) (sc : Script) (after : ℕ → List Frame) (s : State) → given < n → over ≡ over_first k table code ss c ms c.head.threads → true ≡ (over || eqb c.turns 1000000)
      → Gone n given (mem c ms es) g h sc after s → Advanced k schedule table code ss n given (mem c ms es) g h sc after s
  gone_stop n given c ms es g h over sc after s lt o stop gone =
      let u = gone.state in
      let m = n - (given + 1) in
      let e : n - given ≡ suc m = omega arith in
      let told = schedule h (ready_set (rules k sc) u) in
      let later = advance (rules k sc) schedule m (take_turn (rules k sc) u told.0) told.1 in
      gone_over n given (mem c ms es) g h sc after s gone
      (ap (λ (x : ℕ). advance (rules k sc) schedule x u h) e ∙ ap (λ (b : Bool). cond b (0, u, h) (suc later.0, later.1, later.2)) (stops_is c ms es sc after u gone.runs true over o stop))
