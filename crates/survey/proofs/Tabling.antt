-- The whole table, thread by thread.
use Rattle.std.proofs.Common.{◌≡◌, ℕ, zero, suc, ◌+◌, ◌<◌, ◌≤◌, Bool, true, false, T, List, [], ◌∷◌, length, take, drop, sym, refl, ap, ◌∙◌, subst, ⊎_elim, add-one, arith, length-take-le, get_or-take, Option, Some, None, MatchOption, rules}
use mathlib.Core.Option.{none}
use Rattle.std.proofs.lemmas.List.{drop_all, get_or_past}
use Rattle.std.proofs.lemmas.Bool.{cases_lt}
use Rattle.codec.specs.Expressions.{Expr}
use Rattle.codec.specs.Frames.{Frame, Head, Read}
use Rattle.codec.specs.Shapes.{read_of}
use Rattle.codec.specs.declared.frames.Frame.{Frame as Coded}
use Rattle.codec.specs.Frames.Frame.{thread, thread_end, if}
use Rattle.script.specs.Code.{Code}
use Rattle.script.specs.Code.Code.{branch}
use Rattle.script.specs.Promises.{FrameFound}
use Rattle.script.specs.Slabs.{frame_number}
use Rattle.script.specs.Trees.{flatten, head_of, script_frames}
use Rattle.script.proofs.Holding.{held_few}
use Rattle.model.proofs.Places.Skipping.{drop_next, frame_here}
use Rattle.survey.specs.Filling.{BeginsThread, Filled, Outside, Right, ScriptIn, is_thread, outer_first, place_past, plain_step, thread_first}
use Rattle.survey.specs.Stretches.{Survey}
use Rattle.survey.specs.Table.{Reads, Tabulates, Ways, nil_step, step_at_place}
use Rattle.survey.specs.declared.Stretch.{Stretch}
use Rattle.survey.specs.declared.table.Kind.TheVariants.{Other, Begin, End}
use Rattle.survey.specs.declared.table.Step.{Step}
use Rattle.survey.proofs.Parts.{within}
use Rattle.survey.proofs.Peeling.{stepped}
use Rattle.survey.proofs.Righting.{Finds, few, found_at, simple}
use Rattle.survey.proofs.Standing.{Stands, everywhere}

-- A frame that was found stands first.
found_first : (slab : List ℕ) (at : ℕ) (rd : Read) (b : Bool) → Finds slab at rd → b ≡ is_thread rd.frame → BeginsThread slab at b
found_first slab at rd b found e w = e ∙ ap thread_first (sym (found_at slab at rd found w).is)

none_first : (fs : List Frame) (at : ℕ) → none ≡ frame_number at fs → false ≡ thread_first (drop at fs)
none_first [] zero e = refl
none_first [] (suc at) e = refl
none_first (f ∷ fs) zero e = absurd cc
none_first (f ∷ fs) (suc at) e = none_first fs at e

-- Whether the frame that was found begins a thread.
pub found_begins : (slab : List ℕ) (at : ℕ) (found : Option Coded) (b : Bool) → FrameFound slab at found → MatchOption found (b ≡ false) (λ f. b ≡ is_thread (read_of f).frame) → BeginsThread slab at b
found_begins slab at None b f e w = e ∙ none_first (script_frames w.script) at (f.held w.kind w.levels (script_frames w.script) w.holds)
found_begins slab at (Some x) b f e w = found_first slab at (read_of x) b f.held e w

never : false ≡ true → ⊥
never e = cc

-- Frames outside of threads are no steps of theirs.
other_reads : (h : Head) (slab : List ℕ) (p : ℕ) (gs : List Frame) → T (outer_first gs) → false ≡ thread_first gs → Reads h slab p (plain_step Other) gs
other_reads h slab p gs o e = search rules

-- What follows them stands outside too.
abbrev rest_of : List Frame → List Frame
rest_of [] = []
rest_of (f ∷ gs) = gs

other_next : (h : Head) (gs : List Frame) → T (outer_first gs) → false ≡ thread_first gs → Stands h gs → T (outer_first (rest_of gs))
other_next h gs o e s = search rules

drop_rest : (p : ℕ) (fs : List Frame) → drop (suc p) fs ≡ rest_of (drop p fs)
drop_rest zero [] = refl
drop_rest zero (f ∷ fs) = refl
drop_rest (suc p) [] = refl
drop_rest (suc p) (f ∷ fs) = drop_rest p fs

-- A thread, whole.
abbrev Threaded : List Frame → Type 0
Threaded gs = (i : ℕ) × (c : Code) × (r : List Frame) × (gs ≡ thread i ∷ flatten c (thread_end ∷ r)) × T (outer_first r)

threaded : (h : Head) (gs : List Frame) → true ≡ thread_first gs → Stands h gs → Threaded gs
threaded h gs e s = search rules

module _ (slab : List ℕ) (p : ℕ) where
  standing : (w : ScriptIn slab) → Stands (head_of w.script) (drop p (script_frames w.script))
  standing w = everywhere w.kind w.levels w.script w.valid p

  module _ (outside : Outside slab p) (is : BeginsThread slab p false) where
    pub right_other : Right slab p (plain_step Other)
    right_other = record {
      here = λ w. other_reads (head_of w.script) slab p (drop p (script_frames w.script)) (outside w) (is w);
      ways = λ w e a b c r q. absurd (subst (λ (gs : List Frame). T (outer_first gs)) q (outside w));
    }

    pub next_outside : Outside slab (p + 1)
    next_outside w =
        let fs = script_frames w.script in
        subst (λ (gs : List Frame). T (outer_first gs)) (sym (ap (λ (n : ℕ). drop n fs) (add-one p) ∙ drop_rest p fs)) (other_next (head_of w.script) (drop p fs) (outside w) (is w) (standing w))

  module _ (is : BeginsThread slab p true) where
    thread-at : (w : ScriptIn slab) → Threaded (drop p (script_frames w.script))
    thread-at w = threaded (head_of w.script) (drop p (script_frames w.script)) (is w) (standing w)

    pub right_begin : Right slab p (plain_step Begin)
    right_begin = record {
      here = λ w. subst (Reads (head_of w.script) slab p (plain_step Begin)) (sym (thread-at w).3) refl;
      ways = λ w e a b c r q. absurd (no-if (thread-at w).0 e _ _ (sym (thread-at w).3 ∙ q));
    }
      where
        no-if : (i : ℕ) (e : Expr) (gs hs : List Frame) → thread i ∷ gs ≡ if e ∷ hs → ⊥
        no-if i e gs hs q = cc

    module _ (s : Stretch) (inside : Survey slab (p + 1) s) where
      ends_at : (w : ScriptIn slab) → (r : List Frame) × (drop s.end (script_frames w.script) ≡ thread_end ∷ r) × T (outer_first r)
      ends_at w =
          let fs = script_frames w.script in
          let a = thread-at w in
          (a.2, (inside w.kind w.levels fs w.holds a.1 (thread_end ∷ a.2) (ap (λ (n : ℕ). drop n fs) (add-one p) ∙ drop_next p fs a.3) tt).1, a.4)

      pub right_end : Right slab s.end (plain_step End)
      right_end = simple thread_end (λ e q. cc) (λ w. let a = ends_at w in (a.0, a.1, refl))

      pub end_outside : (next : ℕ) → next ≡ place_past s.end → Outside slab next
      end_outside next e w =
          let a = ends_at w in
          subst (λ (gs : List Frame). T (outer_first gs)) (sym (stepped (script_frames w.script) s.end next thread_end a.0 (few w) (within e) a.1)) a.2

-- All 512 places.
pub tabulated : (slab : List ℕ) (was is : List Step) (end : ℕ) → 512 ≤ end → Filled slab 0 end was is → Tabulates slab is
tabulated slab was is end far filled kind k sc valid holds room = record { here = here; ways = ways; long = length-take-le (length fs) is (omega (arith, short)); few = short }
  where
    fs : List Frame
    fs = script_frames sc

    w : ScriptIn slab
    w = record { kind = kind; levels = k; script = sc; valid = valid; holds = holds }

    short : length fs ≤ 512
    short = held_few kind k slab fs holds

    table : List Step
    table = take (length fs) is

    right : (p : ℕ) → p < length fs → Right slab p (step_at_place table p)
    right p l = subst (Right slab p) (sym (get_or-take (length fs) is p nil_step l)) (filled.right (omega (arith, filled.long, room)) p (omega arith) (omega (arith, short)))

    here : (p : ℕ) → Reads (head_of sc) slab p (step_at_place table p) (drop p fs)
    here p = ⊎_elim (λ l. (right p l).here w) past (cases_lt p (length fs))
      where
        past : length fs ≤ p → Reads (head_of sc) slab p (step_at_place table p) (drop p fs)
        past h =
            subst (Reads (head_of sc) slab p (step_at_place table p)) (sym (drop_all p fs h))
            (ap (λ (st : Step). st.kind) (get_or_past table p nil_step (omega (arith, length-take-le (length fs) is (omega (arith, short, room))))))

    ways : (p : ℕ) (e : Expr) (a b c : Code) (r : List Frame) → drop p fs ≡ flatten (branch e a b c) r → Ways (step_at_place table p) a b
    ways p e a b c r q = (right p (frame_here p fs Frame.skip q).1).ways w e a b c r q
