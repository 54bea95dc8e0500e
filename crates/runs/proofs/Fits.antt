-- Memory that stands for a state is such that a turn is safe.
use Rattle.std.proofs.Common.{◌≡◌, ℕ, zero, suc, ◌+◌, ◌<◌, ◌≤◌, true, false, T, ltb, List, [], ◌∷◌, length, get_or, drop, sym, refl, ap, ◌∙◌, subst, ⊎_elim, arith, ltb→lt}
use Rattle.std.proofs.lemmas.Bool.{cases_eq}
use Rattle.script.specs.Code.{Code, Script}
use Rattle.codec.specs.Expressions.{Expr}
use Rattle.script.specs.Code.Code.{done, skip, assign, put, branch, loop, lock}
use Rattle.model.specs.Threads.{Open, Thread, ended, Pace as ModelPace}
use Rattle.model.specs.Threads.Open.{in_branch, in_loop, in_lock}
use Rattle.model.specs.Threads.Pace.{running, idling}
use Rattle.codec.specs.Frames.{Frame}
use Rattle.codec.specs.Frames.Frame.{thread_end, if, else, end_if, while, end_while, with, end_with}
use Rattle.script.specs.Trees.{flatten, script_frames}
use Rattle.model.specs.Places.{Opened, flatten_inside}
use Rattle.model.proofs.Places.Skipping.{frame_here, past_lands}
use Rattle.survey.specs.declared.table.Kind.{Kind}
use Rattle.survey.specs.declared.table.Kind.TheVariants.{End, Skip, Assign, Put, If, Else, EndIf, While, EndWhile, With, EndWith}
use Rattle.survey.specs.declared.table.Step.{Step}
use Rattle.runs.specs.declared.Mark.{Mark}
use Rattle.runs.specs.declared.Pace.{Pace}
use Rattle.runs.specs.declared.Place.{Place}
use Rattle.runs.specs.declared.Entry.{Entry}
use Rattle.runs.specs.declared.Core.{Core}
use Rattle.runs.specs.Flat.{nil_mark, nil_place, first_mark, pace_at, head_of_core, FitNow, SoundStep, Sized, Fit}
use Rattle.survey.specs.Table.{step_at_place, Holds}
use Rattle.runs.specs.Views.{openers, Leveled, ThreadView, Views}
use Rattle.runs.proofs.Marks.{leveled_length}
use Rattle.runs.proofs.Guards.{reads}
use Rattle.runs.proofs.Stepping.{next_place, beyond_here}

-- There is always a frame where a thread stands.
record Begins (fs : List Frame) : Type 0 where
  frame : Frame
  rest : List Frame
  is : fs ≡ frame ∷ rest

inside_begins : (os : List Open) (r : List Frame) → Begins (flatten_inside os r)
inside_begins [] r = record { frame = thread_end; rest = r; is = refl }
inside_begins (in_branch l true p q n ∷ os) r = record { frame = else; rest = _; is = refl }
inside_begins (in_branch l false p q n ∷ os) r = record { frame = end_if; rest = _; is = refl }
inside_begins (in_loop e b n ∷ os) r = record { frame = end_while; rest = _; is = refl }
inside_begins (in_lock k n ∷ os) r = record { frame = end_with; rest = _; is = refl }

code_begins : (c : Code) (os : List Open) (r : List Frame) → Begins (flatten c (flatten_inside os r))
code_begins done os r = inside_begins os r
code_begins (skip c) os r = record { frame = Frame.skip; rest = _; is = refl }
code_begins (assign x e c) os r = record { frame = Frame.assign x e; rest = _; is = refl }
code_begins (put h e c) os r = record { frame = Frame.put h e; rest = _; is = refl }
code_begins (branch e p q c) os r = record { frame = if e; rest = _; is = refl }
code_begins (loop e b c) os r = record { frame = while e; rest = _; is = refl }
code_begins (lock k e b c) os r = record { frame = with k e; rest = _; is = refl }

stands_within : (p : ℕ) (fs : List Frame) (c : Code) (os : List Open) (r : List Frame) → drop p fs ≡ flatten c (flatten_inside os r) → p < length fs
stands_within p fs c os r e = let b = code_begins c os r in (frame_here p fs thread_end (e ∙ b.is)).1

opener_within : (fs r : List Frame) (ms : List Mark) (b : ℕ) (n : ℕ) (os : List Open) → Opened fs r (openers ms b n) os → (d : ℕ) → d < n → (get_or ms (b + d) nil_mark).opener < length fs
opener_within fs r ms b zero os o d lt = absurd (omega arith)
opener_within fs r ms b (suc n) [] o d lt = absurd o
opener_within fs r ms b (suc n) (in_branch l w x y c ∷ os) o d lt = ⊎_elim
    (λ (e : d ≡ n). subst (λ (z : ℕ). (get_or ms (b + z) nil_mark).opener < length fs) (sym e) (stands_within _ fs (branch o.0.0 x y c) os r o.0.1))
    (λ ne. opener_within fs r ms b n os o.1 d (omega arith)) (cases_eq d n)
opener_within fs r ms b (suc n) (in_loop v x c ∷ os) o d lt = ⊎_elim
    (λ (e : d ≡ n). subst (λ (z : ℕ). (get_or ms (b + z) nil_mark).opener < length fs) (sym e) (stands_within _ fs (loop v x c) os r o.0))
    (λ ne. opener_within fs r ms b n os o.1 d (omega arith)) (cases_eq d n)
opener_within fs r ms b (suc n) (in_lock k c ∷ os) o d lt = ⊎_elim
    (λ (e : d ≡ n). subst (λ (z : ℕ). (get_or ms (b + z) nil_mark).opener < length fs) (sym e) (stands_within _ fs (lock k o.0.0 o.0.1 c) os r o.0.2))
    (λ ne. opener_within fs r ms b n os o.1 d (omega arith)) (cases_eq d n)

module _ (most : ℕ) (sc : Script) (after : ℕ → List Frame) (table : List Step) (code : List ℕ) (c : Core) (ms : List Mark) (es : List Entry) (ts : List Thread) (v : Views most sc after table code c ms es ts) where
  pub views_sized : Sized c table ms
  views_sized =
      let long = v.tabled.long in
      let few = v.tabled.few in
      record {
        turns = v.turns;
        short = omega arith;
        room = v.room;
        deep = λ j lt. (v.threads j lt).deep;
        placed = λ j lt. let t = v.threads j lt in let w : (get_or c.threads j nil_place).at < length (script_frames sc) = stands_within _ (script_frames sc) (get_or ts j ended).code (get_or ts j ended).inside (after j) t.stands.stands.here in omega arith;
        openers = λ j k lt lk. let t = v.threads j lt in let w : (get_or ms (first_mark j + k) nil_mark).opener < length (script_frames sc) = opener_within (script_frames sc) (after j) ms (first_mark j) (get_or c.threads j nil_place).depth (get_or ts j ended).inside t.stands.stands.opened k lk in omega arith;
      }

  module _ (i : ℕ) (within : i < c.head.threads) where
    abbrev at_now : Place
    at_now = get_or c.threads i nil_place

    abbrev step_now : Step
    step_now = step_at_place table at_now.at

    abbrev View : Thread → Type 0
    View t = ThreadView (head_of_core c) (script_frames sc) (after i) table ms i at_now t

    abbrev Fits : Pace → Kind → Type 0
    Fits q kd = FitNow q kd c table code at_now step_now

    at_kind : (kd : Kind) → at_now.pace ≡ pace_at step_now.kind → step_now.kind ≡ kd → Fits (pace_at kd) kd → Fits at_now.pace step_now.kind
    at_kind kd pace kind n =
        let Q : Pace → Type 0 = λ q. Fits q step_now.kind in
        let R : Kind → Type 0 = λ x. Fits (pace_at x) x in
        subst Q (sym pace) (subst R (sym kind) n)

    inside-table : (p : ℕ) (cd : Code) (os : List Open) (r : List Frame) → drop p (script_frames sc) ≡ flatten cd (flatten_inside os r) → p < length table
    inside-table p cd os r e = let w = stands_within p (script_frames sc) cd os r e in let long = v.tabled.long in omega arith

    sound : (e : Expr) → Holds (head_of_core c) code step_now e → SoundStep c code step_now
    sound e h = record { good = h.good; ordered = h.ordered; within = h.within }

    deeper : (o : Open) (os : List Open) → Leveled ms (first_mark i) at_now.depth (o ∷ os) → 0 < at_now.depth
    deeper o os l = let n = leveled_length ms (first_mark i) at_now.depth (o ∷ os) l in omega arith

    shallow : (os : List Open) → Leveled ms (first_mark i) at_now.depth os → T (ltb (length os) 16) → at_now.depth < 16
    shallow os l t = let n = leveled_length ms (first_mark i) at_now.depth os l in let lt = ltb→lt (length os) 16 t in omega arith

    fits-case : (cd : Code) (pc : ModelPace) (os : List Open) → View (record { code = cd; pace = pc; inside = os }) → Fits at_now.pace step_now.kind
    fits-case cd (idling n) [] tv = absurd tv.idles
    fits-case cd (idling n) (in_branch l w a b next ∷ os) tv =
        let P : Code → Type 0 = λ x. drop at_now.at (script_frames sc) ≡ flatten x (flatten_inside (in_branch l w a b next ∷ os) (after i)) in
        let Q : Pace → Type 0 = λ q. Fits q step_now.kind in
        let here = subst P tv.stands.idle tv.stands.stands.here in
        subst Q (sym tv.paced) (deeper _ os tv.leveled, inside-table _ next os (after i) (beyond_here most sc after table code c ms es ts v i w l a b next os (after i) here))
    fits-case cd (idling n) (in_loop e b next ∷ os) tv = absurd tv.idles
    fits-case cd (idling n) (in_lock x next ∷ os) tv = absurd tv.idles
    fits-case done running [] tv = at_kind End tv.paced (reads (head_of_core c) code table (script_frames sc) v.tabled at_now.at _ tv.stands.stands.here) tt
    fits-case done running (in_branch l true a b next ∷ os) tv =
        let here = tv.stands.stands.here in
        let r = reads (head_of_core c) code table (script_frames sc) v.tabled at_now.at _ here in
        at_kind Else tv.paced r.0 (inside-table step_now.other next os (after i) (ap (λ (n : ℕ). drop n (script_frames sc)) r.1 ∙ past_lands at_now.at (script_frames sc) else end_if b _ refl here), deeper _ os tv.leveled)
    fits-case done running (in_branch l false a b next ∷ os) tv =
        let here = tv.stands.stands.here in
        at_kind EndIf tv.paced (reads (head_of_core c) code table (script_frames sc) v.tabled at_now.at _ here) (inside-table (at_now.at + 1) next os (after i) (next_place at_now.at _ here), deeper _ os tv.leveled)
    fits-case done running (in_loop e b next ∷ os) tv =
        at_kind EndWhile tv.paced (reads (head_of_core c) code table (script_frames sc) v.tabled at_now.at _ tv.stands.stands.here) (deeper _ os tv.leveled)
    fits-case done running (in_lock x next ∷ os) tv =
        let here = tv.stands.stands.here in
        at_kind EndWith tv.paced (reads (head_of_core c) code table (script_frames sc) v.tabled at_now.at _ here) (inside-table (at_now.at + 1) next os (after i) (next_place at_now.at _ here), deeper _ os tv.leveled)
    fits-case (skip cd) running os tv =
        let here = tv.stands.stands.here in
        at_kind Skip tv.paced (reads (head_of_core c) code table (script_frames sc) v.tabled at_now.at _ here) (inside-table (at_now.at + 1) cd os (after i) (next_place at_now.at _ here))
    fits-case (assign x e cd) running os tv =
        let here = tv.stands.stands.here in
        let r = reads (head_of_core c) code table (script_frames sc) v.tabled at_now.at _ here in
        let lt = ltb→lt x c.head.variables tv.valid.code.0 in
        at_kind Assign tv.paced r.0 (inside-table (at_now.at + 1) cd os (after i) (next_place at_now.at _ here), omega (arith, r.1), sound e r.2)
    fits-case (put h e cd) running os tv =
        let here = tv.stands.stands.here in
        let r = reads (head_of_core c) code table (script_frames sc) v.tabled at_now.at _ here in
        let lt = ltb→lt h c.head.channels tv.valid.code.0 in
        at_kind Put tv.paced r.0 (inside-table (at_now.at + 1) cd os (after i) (next_place at_now.at _ here), omega (arith, r.1), sound e r.2)
    fits-case (branch e a b cd) running os tv =
        let here = tv.stands.stands.here in
        let r = reads (head_of_core c) code table (script_frames sc) v.tabled at_now.at _ here in
        at_kind If tv.paced r.0 (
          inside-table (at_now.at + 1) a (in_branch 0 true a b cd ∷ os) (after i) (next_place at_now.at _ here),
          inside-table step_now.other b (in_branch 0 false a b cd ∷ os) (after i) (ap (λ (n : ℕ). drop n (script_frames sc)) r.1 ∙ past_lands at_now.at (script_frames sc) (if e) else a _ refl here),
          shallow os tv.leveled tv.valid.code.0,
          sound e r.2,
        )
    fits-case (loop e b cd) running os tv =
        let here = tv.stands.stands.here in
        let r = reads (head_of_core c) code table (script_frames sc) v.tabled at_now.at _ here in
        at_kind While tv.paced r.0 (
          inside-table (at_now.at + 1) b (in_loop e b cd ∷ os) (after i) (next_place at_now.at _ here),
          inside-table step_now.other cd os (after i) (ap (λ (n : ℕ). drop n (script_frames sc)) r.1 ∙ past_lands at_now.at (script_frames sc) (while e) end_while b _ refl here),
          shallow os tv.leveled tv.valid.code.0,
          sound e r.2,
        )
    fits-case (lock x e b cd) running os tv =
        let here = tv.stands.stands.here in
        let r = reads (head_of_core c) code table (script_frames sc) v.tabled at_now.at _ here in
        at_kind With tv.paced r.0
        (inside-table (at_now.at + 1) b (in_lock x cd ∷ os) (after i) (next_place at_now.at _ here), shallow os tv.leveled tv.valid.code.0, sound e r.2)

    pub views_fit : most ≤ c.turns → Fit c table code ms es i
    views_fit le =
        let t = get_or ts i ended in
        record {
          sized = views_sized;
          parts = λ h lt. let p = v.parts h lt in let a = p.part in let b = p.held in let d = p.missed in record { part = a; held = b; missed = omega arith };
          thread = within;
          here = fits-case t.code t.pace t.inside (v.threads i within);
        }
