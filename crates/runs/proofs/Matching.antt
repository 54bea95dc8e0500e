-- What the table of steps tells of the threads is what the script's frames tell.
use Rattle.std.proofs.Common.{◌≡◌, ℕ, zero, suc, ◌+◌, ◌-◌, ◌<◌, Bool, true, false, cond, not, ◌&&◌, T, eqb, ◌≢◌, List, length, get_or, sym, refl, ap, ◌∙◌, subst, ⊎_elim, add-one, arith, ne_eqb}
use Rattle.std.proofs.Math.Bool.{and-true, and_comm}
use Rattle.std.proofs.lemmas.Bool.{cases_eq}
use Rattle.lattice.specs.Levels.{Levels}
use Rattle.codec.specs.Frames.{Head, Frame}
use Rattle.codec.specs.Frames.Frame.{header, track, channel, thread, thread_end, if, else, end_if, while, end_while, with, end_with, last}
use Rattle.script.specs.Code.{Script}
use Rattle.script.specs.Trees.{script_frames, ValidScript}
use Rattle.model.specs.Fitting.{frame_at, around, stacked, same_places, is_if, is_way_end, is_thread_end, innermost_level, level_fits, levels_fit, pace_fits, thread_fits, all_fit}
use Rattle.model.proofs.Tests.{is_true, and_left, and_right, both, by_test}
use Rattle.model.proofs.Places.Stacking.{deep, same_length}
use Rattle.survey.specs.Table.{step_at_place, Tabled}
use Rattle.survey.specs.Around.{Met, Walks}
use Rattle.survey.proofs.Strides.{kind_of, reads_kind}
use Rattle.survey.specs.declared.table.Kind.{Kind}
use Rattle.survey.specs.declared.table.Step.{Step}
use Rattle.survey.specs.declared.around.Around.{Around}
use Rattle.runs.specs.declared.Mark.{Mark}
use Rattle.runs.specs.declared.Pace.{Pace}
use Rattle.runs.specs.declared.Pace.TheVariants.{Running, Idling, Finished}
use Rattle.runs.specs.declared.Place.{Place}
use Rattle.runs.specs.declared.Core.{Core}
use Rattle.runs.specs.Flat.{nil_mark, nil_place, first_mark, level_inside}
use Rattle.runs.specs.Views.{openers}
use Rattle.runs.specs.Memory.{mark_levels, pace_of, account, end_fits}
use Rattle.runs.specs.Turns.{all_first}
use Rattle.runs.specs.Fitted.{if_kind, way_end_kind, thread_end_kind, level_suits, mark_suits, block_suits, pace_suits, end_right, OfScript, thread_right, threads_right, TellsFit, FitsFrames}
use Rattle.runs.proofs.Advancing.{all_more}

-- Tests in another order

pairwise : (a b c d : Bool) → ((a && b) && (c && d)) ≡ ((a && c) && (b && d))
pairwise true true c d = refl
pairwise true false true d = refl
pairwise true false false d = refl
pairwise false b c d = refl

-- The tests of one thread: two counts, its blocks and levels, its pace and its end.
six : (a b s l p e : Bool) → (((a && b) && (s && l)) && (p && e)) ≡ (((a && (b && s)) && (l && p)) && e)
six true true true true p e = refl
six true true true false p e = refl
six true true false l p e = refl
six true false s l p e = refl
six false b s l p e = refl

never_same : (a b l p e s : Bool) → s ≡ false → (((a && (b && s)) && (l && p)) && e) ≡ false
never_same true true l p e s q = ap (λ (t : Bool). (t && (l && p)) && e) q
never_same true false l p e s q = refl
never_same false b l p e s q = refl

-- The kind of a frame

if_of : (f : Frame) → if_kind (kind_of f) ≡ is_if f
if_of (header h) = refl
if_of (track i l z) = refl
if_of (channel i l z) = refl
if_of (thread i) = refl
if_of thread_end = refl
if_of Frame.skip = refl
if_of (Frame.assign x e) = refl
if_of (Frame.put h e) = refl
if_of (if e) = refl
if_of else = refl
if_of end_if = refl
if_of (while e) = refl
if_of end_while = refl
if_of (with m e) = refl
if_of end_with = refl
if_of (last m) = refl

way_end_of : (f : Frame) → way_end_kind (kind_of f) ≡ is_way_end f
way_end_of (header h) = refl
way_end_of (track i l z) = refl
way_end_of (channel i l z) = refl
way_end_of (thread i) = refl
way_end_of thread_end = refl
way_end_of Frame.skip = refl
way_end_of (Frame.assign x e) = refl
way_end_of (Frame.put h e) = refl
way_end_of (if e) = refl
way_end_of else = refl
way_end_of end_if = refl
way_end_of (while e) = refl
way_end_of end_while = refl
way_end_of (with m e) = refl
way_end_of end_with = refl
way_end_of (last m) = refl

thread_end_of : (f : Frame) → thread_end_kind (kind_of f) ≡ is_thread_end f
thread_end_of (header h) = refl
thread_end_of (track i l z) = refl
thread_end_of (channel i l z) = refl
thread_end_of (thread i) = refl
thread_end_of thread_end = refl
thread_end_of Frame.skip = refl
thread_end_of (Frame.assign x e) = refl
thread_end_of (Frame.put h e) = refl
thread_end_of (if e) = refl
thread_end_of else = refl
thread_end_of end_if = refl
thread_end_of (while e) = refl
thread_end_of end_while = refl
thread_end_of (with m e) = refl
thread_end_of end_with = refl
thread_end_of (last m) = refl

-- A thread's pace: whether it may idle here, and whether it is at its end.
pace_of_frame : (f : Frame) (p : Pace) → pace_suits p (kind_of f) ≡ (pace_fits f (pace_of p) && end_fits f p)
pace_of_frame f Running = ap not (thread_end_of f)
pace_of_frame f (Idling n) = way_end_of f ∙ sym (and-true (is_way_end f))
pace_of_frame f Finished = thread_end_of f

-- Open blocks

-- One block more.
pub block_more : (k : Levels) (table : List Step) (xs : List ℕ) (ms : List Mark) (b d : ℕ) (all here : Bool) (outside : ℕ) → all ≡ all_first (block_suits k table xs ms b) d → outside ≡ level_inside ms b d →
    here ≡ mark_suits k table (get_or xs d 0) (get_or ms (b + d) nil_mark) outside → (all && here) ≡ all_first (block_suits k table xs ms b) (d + 1)
block_more k table xs ms b d all here outside ea eo eh =
    let e : here ≡ block_suits k table xs ms b d = eh ∙ ap (mark_suits k table (get_or xs d 0) (get_or ms (b + d) nil_mark)) eo in
    (λ j. ea j && e j) ∙ sym (all_more (block_suits k table xs ms b) d)

openers_length : (ms : List Mark) (b d : ℕ) → length (openers ms b d) ≡ d
openers_length ms b zero = refl
openers_length ms b (suc d) = ap suc (openers_length ms b d)

innermost_is : (ms : List Mark) (b d : ℕ) → level_inside ms b d ≡ innermost_level (mark_levels ms b d)
innermost_is ms b zero = refl
innermost_is ms b (suc d) =
    let e : suc d - 1 ≡ d = omega arith in
    let z : eqb (suc d) 0 ≡ false = ne_eqb (suc d) 0 (λ (q : suc d ≡ 0). omega arith) in
    ap (λ (t : Bool). cond t 0 (get_or ms (b + (suc d - 1)) nil_mark).level) z ∙ ap (λ (n : ℕ). (get_or ms (b + n) nil_mark).level) e

-- Openers in another number are not the same.
other_depth : (xs : List ℕ) (ms : List Mark) (b d e : ℕ) → d ≢ e → same_places (stacked xs d) (openers ms b e) ≡ false
other_depth xs ms b d e ne = by_test (same_places (stacked xs d) (openers ms b e))
    (λ (t : T (same_places (stacked xs d) (openers ms b e))). absurd (ne (sym (deep xs d) ∙ same_length (stacked xs d) (openers ms b e) t ∙ openers_length ms b e)))
    (λ (q : same_places (stacked xs d) (openers ms b e) ≡ false). q)

module _ (k : Levels) (fs : List Frame) (table : List Step) (kinds : (p : ℕ) → (step_at_place table p).kind ≡ kind_of (frame_at fs p)) where
  level_is : (p l outside : ℕ) → level_suits k (step_at_place table p).kind l outside ≡ level_fits k (frame_at fs p) l outside
  level_is p l outside = ap (λ (t : Bool). cond t (k.has l) (eqb l outside)) (ap if_kind (kinds p) ∙ if_of (frame_at fs p))

  -- The blocks one by one: their openers are those that were met, and their levels fit.
  blocks_are : (xs : List ℕ) (ms : List Mark) (b d : ℕ) → all_first (block_suits k table xs ms b) d ≡ (same_places (stacked xs d) (openers ms b d) && levels_fit k fs (openers ms b d) (mark_levels ms b d))
  unfolding all_first stacked
  blocks_are xs ms b zero = refl
  blocks_are xs ms b (suc d) =
      let mk = get_or ms (b + d) nil_mark in
      let met = eqb (get_or xs d 0) mk.opener in
      let outside = innermost_level (mark_levels ms b d) in
      let level = level_fits k (frame_at fs mk.opener) mk.level outside in
      let here : level_suits k (step_at_place table mk.opener).kind mk.level (level_inside ms b d) ≡ level =
      level_is mk.opener mk.level (level_inside ms b d) ∙ ap (level_fits k (frame_at fs mk.opener) mk.level) (innermost_is ms b d)
      in
      (λ i. blocks_are xs ms b d i && (met && here i))
      ∙ and_comm (same_places (stacked xs d) (openers ms b d) && levels_fit k fs (openers ms b d) (mark_levels ms b d)) (met && level)
      ∙ pairwise met level (same_places (stacked xs d) (openers ms b d)) (levels_fit k fs (openers ms b d) (mark_levels ms b d))

  -- One thread

  module _ (c : Core) (ms : List Mark) (i : ℕ) (r : Around) (m : Met r (around fs (get_or c.threads i nil_place).at)) where
    -- Its place, and the tests of it: the two counts, the blocks, their levels, the pace and the end.
    abbrev here-at : Place
    here-at = get_or c.threads i nil_place

    abbrev own : Bool
    own = eqb r.begun (i + 1)

    abbrev others : Bool
    others = eqb r.ended i

    abbrev same : Bool
    same = same_places (stacked r.openers r.depth) (openers ms (first_mark i) here-at.depth)

    abbrev levels : Bool
    levels = levels_fit k fs (openers ms (first_mark i) here-at.depth) (mark_levels ms (first_mark i) here-at.depth)

    abbrev pace : Bool
    pace = pace_fits (frame_at fs here-at.at) (pace_of here-at.pace)

    abbrev end : Bool
    end = end_right fs c i

    -- The openers may be read from the array.
    thread-is : (((own && (others && same)) && (levels && pace)) && end) ≡ thread_right k c ms i fs
    thread-is =
        let e : i + 1 ≡ suc i = add-one i in
        λ j. ((eqb (m.begun j) (e j) && (eqb (m.ended j) i && same_places (m.openers j) (openers ms (first_mark i) here-at.depth))) && (levels && pace)) && end

    same-deep : (b p : Bool) (kd : Kind) → r.depth ≡ here-at.depth → b ≡ all_first (block_suits k table r.openers ms (first_mark i)) r.depth → kd ≡ (step_at_place table here-at.at).kind →
        p ≡ pace_suits here-at.pace kd → (((own && others) && b) && p) ≡ thread_right k c ms i fs
    same-deep b p kd d eb ek ep =
        let os = openers ms (first_mark i) in
        let blocks : b ≡ (same && levels) =
        eb ∙ blocks_are r.openers ms (first_mark i) r.depth
        ∙ ap (λ (n : ℕ). same_places (stacked r.openers r.depth) (os n) && levels_fit k fs (os n) (mark_levels ms (first_mark i) n)) d
        in
        let paces : p ≡ (pace && end) = ep ∙ ap (pace_suits here-at.pace) (ek ∙ kinds here-at.at) ∙ pace_of_frame (frame_at fs here-at.at) here-at.pace in
        (λ j. ((own && others) && blocks j) && paces j) ∙ six own others same levels pace end ∙ thread-is

    not-as-deep : r.depth ≢ here-at.depth → false ≡ thread_right k c ms i fs
    not-as-deep ne = sym (never_same own others levels pace end same (other_depth r.openers ms (first_mark i) r.depth here-at.depth ne)) ∙ thread-is

-- One by one, or first where they stand and then their ends.
pub threads_are : (k : Levels) (c : Core) (ms : List Mark) (fs : List Frame) (n : ℕ) → all_first (λ i. thread_right k c ms i fs) n ≡ threads_right k c ms n fs
unfolding all_fit all_first
threads_are k c ms fs zero = refl
threads_are k c ms fs (suc n) =
    ap (λ (b : Bool). b && thread_right k c ms n fs) (threads_are k c ms fs n)
    ∙ pairwise (all_fit k fs (account c ms) n) (all_first (end_right fs c) n) (thread_fits k fs n (account c ms n)) (end_right fs c n)

module _ (kind : ℕ) (k : Levels) (table : List Step) where
  kinds_are : (sc : Script) (h : Head) (code : List ℕ) → Tabled h code table (script_frames sc) → (p : ℕ) → (step_at_place table p).kind ≡ kind_of (frame_at (script_frames sc) p)
  kinds_are sc h code t p = reads_kind h code p (step_at_place table p) (script_frames sc) p (t.here p)

  module _ (c : Core) (ms : List Mark) where
    -- Where the walk met as many blocks as memory says.
    pub thread_told : (i : ℕ) (r : Around) (b p : Bool) (kd : Kind) → let here = get_or c.threads i nil_place in
        Walks table here.at r → r.depth ≡ here.depth → b ≡ all_first (block_suits k table r.openers ms (first_mark i)) r.depth → kd ≡ (step_at_place table here.at).kind → p ≡ pace_suits here.pace kd →
        OfScript kind k table (thread_right k c ms i) (((eqb r.begun (i + 1) && eqb r.ended i) && b) && p)
    thread_told i r b p kd w d eb ek ep = record { told = λ sc h code v t. same-deep k (script_frames sc) table (kinds_are sc h code t) c ms i r (w kind k sc h code v t) b p kd d eb ek ep }

    -- Where it met another number.
    pub thread_refused : (i : ℕ) (r : Around) → Walks table (get_or c.threads i nil_place).at r → r.depth ≢ (get_or c.threads i nil_place).depth → OfScript kind k table (thread_right k c ms i) false
    thread_refused i r w ne = record { told = λ sc h code v t. not-as-deep k (script_frames sc) table (kinds_are sc h code t) c ms i r (w kind k sc h code v t) ne }

-- What an answer means

-- What holds of the first n numbers holds of each.
pub each_first : (f : ℕ → Bool) (n : ℕ) → T (all_first f n) → (i : ℕ) → i < n → T (f i)
unfolding all_first
each_first f zero t i l = absurd (omega arith)
each_first f (suc n) t i l = ⊎_elim
    (λ (q : i ≡ n). subst (λ (j : ℕ). T (f j)) (sym q) (and_right (all_first f n) (f n) t))
    (λ (ne : i ≢ n). each_first f n (and_left (all_first f n) (f n) t) i (omega arith))
    (cases_eq i n)

-- What holds of each of the first n numbers holds of all.
pub first_each : (f : ℕ → Bool) (n : ℕ) → ((i : ℕ) → i < n → T (f i)) → T (all_first f n)
unfolding all_first
first_each f zero h = tt
first_each f (suc n) h = both (all_first f n) (f n) (first_each f n (λ i l. h i (omega arith))) (h n (omega arith))

module _ (kind : ℕ) (k : Levels) (table : List Step) (c : Core) (ms : List Mark) (r : Bool) (tells : TellsFit kind k table c ms r)
    (sc : Script) (h : Head) (code : List ℕ) (valid : ValidScript kind k sc) (tabled : Tabled h code table (script_frames sc)) where
  -- Where the answer is true, memory fits the script.
  pub fits_then : r ≡ true → FitsFrames k (script_frames sc) c ms
  fits_then e =
      let fs = script_frames sc in
      let accounts = all_fit k fs (account c ms) c.head.threads in
      let ends = all_first (end_right fs c) c.head.threads in
      let all : T (accounts && ends) = subst T (sym e ∙ tells.told sc h code valid tabled) tt in
      record { accounts = and_left accounts ends all; ends = each_first (end_right fs c) c.head.threads (and_right accounts ends all) }

  -- Where memory fits the script, the answer is true.
  pub then_fits : FitsFrames k (script_frames sc) c ms → r ≡ true
  then_fits f =
      let fs = script_frames sc in
      let accounts = all_fit k fs (account c ms) c.head.threads in
      let ends = all_first (end_right fs c) c.head.threads in
      tells.told sc h code valid tabled ∙ is_true (accounts && ends) (both accounts ends f.accounts (first_each (end_right fs c) c.head.threads f.ends))
