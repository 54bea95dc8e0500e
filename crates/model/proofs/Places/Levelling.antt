-- Levels and paces: what memory says of them, against open blocks.
use Rattle.std.proofs.Common.{◌≡◌, ℕ, suc, Bool, true, false, T, eqb, ltb, List, [], ◌∷◌, length, drop, sym, refl, ap, ◌∙◌, subst, eqb→eq}
use lib.Dec.{eqb_refl}
use Rattle.lattice.specs.Levels.{Levels}
use Rattle.script.specs.Code.{Code}
use Rattle.script.specs.Code.Code.{done, skip, assign, put, branch, loop, lock}
use Rattle.codec.specs.Frames.{Head, Frame}
use Rattle.codec.specs.Frames.Frame.{thread_end, if, else, end_if, while, end_while, with, end_with, last}
use Rattle.script.specs.Trees.{flatten, Valid}
use Rattle.model.specs.Threads.{Open, Pace, context}
use Rattle.model.specs.Threads.Open.{in_branch, in_loop, in_lock}
use Rattle.model.specs.Threads.Pace.{running, idling}
use Rattle.model.specs.Places.{flatten_inside, Opened, Idle, ValidInside}
use Rattle.model.specs.Fitting.{frame_at, level_fits, innermost_level, levels_fit, is_way_end, is_thread_end, pace_fits, contexts, Coded, Idles}
use Rattle.model.proofs.Places.Skipping.{frame_here}
use Rattle.model.proofs.Tests.{and_left, and_right, both}

innermost_context : (os : List Open) → innermost_level (contexts os) ≡ context os
innermost_context [] = refl
innermost_context (o ∷ os) = refl

module _ (k : Levels) (fs r : List Frame) where
  at_frame : (p : ℕ) {f : Frame} {gs : List Frame} → drop p fs ≡ f ∷ gs → frame_at fs p ≡ f
  at_frame p e = (frame_here p fs (last 0) e).0

  -- A level at an opener of a known frame.
  to_level : (p l o : ℕ) (f : Frame) {gs : List Frame} → drop p fs ≡ f ∷ gs → T (level_fits k f l o) → T (level_fits k (frame_at fs p) l o)
  to_level p l o f e h = subst (λ (g : Frame). T (level_fits k g l o)) (sym (at_frame p e)) h

  from_level : (p l o : ℕ) (f : Frame) {gs : List Frame} → drop p fs ≡ f ∷ gs → T (level_fits k (frame_at fs p) l o) → T (level_fits k f l o)
  from_level p l o f e h = subst (λ (g : Frame). T (level_fits k g l o)) (at_frame p e) h

  same_level : (os : List Open) → T (eqb (context os) (innermost_level (contexts os)))
  same_level os = subst (λ (l : ℕ). T (eqb (context os) l)) (sym (innermost_context os)) (eqb_refl (context os))

  -- The context levels of open blocks fit their openers.
  pub contexts_fit : (ps : List ℕ) (os : List Open) → Opened fs r ps os → Coded k os → T (levels_fit k fs ps (contexts os))
  contexts_fit [] [] o c = tt
  contexts_fit [] (x ∷ os) o c = absurd o
  contexts_fit (p ∷ ps) [] o c = absurd o
  contexts_fit (p ∷ ps) (in_branch l w a b n ∷ os) o c =
      both (level_fits k (frame_at fs p) l (innermost_level (contexts os))) _ (to_level p l _ (if o.0.0) o.0.1 c.0) (contexts_fit ps os o.1 c.1)
  contexts_fit (p ∷ ps) (in_loop e b n ∷ os) o c =
      both (level_fits k (frame_at fs p) (context os) (innermost_level (contexts os))) _ (to_level p (context os) _ (while e) o.0 (same_level os)) (contexts_fit ps os o.1 c)
  contexts_fit (p ∷ ps) (in_lock m n ∷ os) o c =
      both (level_fits k (frame_at fs p) (context os) (innermost_level (contexts os))) _ (to_level p (context os) _ (with m o.0.0) o.0.2 (same_level os)) (contexts_fit ps os o.1 c)

  -- The same blocks with the levels that memory gives them.
  pub record Levelled (h : Head) (ps ls : List ℕ) (os : List Open) : Type 0 where
    pub blocks : List Open
    pub flat : flatten_inside blocks r ≡ flatten_inside os r
    pub opened : Opened fs r ps blocks
    pub levels : ls ≡ contexts blocks
    pub coded : Coded k blocks
    pub long : length os ≡ length blocks
    pub valid : ValidInside h blocks

  way_flat : (l l' : ℕ) (w : Bool) (a b n : Code) (xs os : List Open) → flatten_inside xs r ≡ flatten_inside os r → flatten_inside (in_branch l w a b n ∷ xs) r ≡ flatten_inside (in_branch l' w a b n ∷ os) r
  way_flat l l' true a b n xs os e = ap (λ (g : List Frame). else ∷ flatten b (end_if ∷ flatten n g)) e
  way_flat l l' false a b n xs os e = ap (λ (g : List Frame). end_if ∷ flatten n g) e

  outer_level : (p l : ℕ) (ls : List ℕ) (xs : List Open) (f : Frame) {gs : List Frame} → drop p fs ≡ f ∷ gs → ls ≡ contexts xs → T (level_fits k (frame_at fs p) l (innermost_level ls)) → T (level_fits k f l (context xs))
  outer_level p l ls xs f e c t = subst (λ (y : ℕ). T (level_fits k f l y)) (ap innermost_level c ∙ innermost_context xs) (from_level p l (innermost_level ls) f e t)

  pub levelled : (h : Head) (ps ls : List ℕ) (os : List Open) → Opened fs r ps os → T (levels_fit k fs ps ls) → ValidInside h os → Levelled h ps ls os
  levelled h [] [] [] o t v = record { blocks = []; flat = refl; opened = tt; levels = refl; coded = tt; long = refl; valid = tt }
  levelled h [] (l ∷ ls) os o t v = absurd t
  levelled h (p ∷ ps) [] os o t v = absurd t
  levelled h [] [] (x ∷ os) o t v = absurd o
  levelled h (p ∷ ps) (l ∷ ls) [] o t v = absurd o
  levelled h (p ∷ ps) (l ∷ ls) (in_branch l' w a b n ∷ os) o t v =
      let x = levelled h ps ls os o.1 (and_right (level_fits k (frame_at fs p) l (innermost_level ls)) (levels_fit k fs ps ls) t) v.4 in
      let e = o.0.0 in
      let here = o.0.1 in
      let has : T (k.has l) = from_level p l (innermost_level ls) (if e) here (and_left (level_fits k (frame_at fs p) l (innermost_level ls)) (levels_fit k fs ps ls) t) in
      let deep = subst (λ (d : ℕ). T (ltb d 16) × Valid h (suc d) a × Valid h (suc d) b × Valid h d n) x.long (v.0, v.1, v.2, v.3) in
      record {
        blocks = in_branch l w a b n ∷ x.blocks;
        flat = way_flat l l' w a b n x.blocks os x.flat;
        opened = ((e, here ∙ ap (flatten (branch e a b n)) (sym x.flat)), x.opened);
        levels = ap (λ (ys : List ℕ). l ∷ ys) x.levels;
        coded = (has, x.coded);
        long = ap suc x.long;
        valid = (deep.0, deep.1, deep.2, deep.3, x.valid);
      }
  levelled h (p ∷ ps) (l ∷ ls) (in_loop e b n ∷ os) o t v =
      let x = levelled h ps ls os o.1 (and_right (level_fits k (frame_at fs p) l (innermost_level ls)) (levels_fit k fs ps ls) t) v.4 in
      let here = o.0 in
      let same : l ≡ context x.blocks =
      eqb→eq l (context x.blocks) (outer_level p l ls x.blocks (while e) here x.levels (and_left (level_fits k (frame_at fs p) l (innermost_level ls)) (levels_fit k fs ps ls) t)) in
      let deep = subst (λ (d : ℕ). T (ltb d 16) × Valid h (suc d) b × Valid h d n) x.long (v.0, v.2, v.3) in
      record {
        blocks = in_loop e b n ∷ x.blocks;
        flat = ap (λ (g : List Frame). end_while ∷ flatten n g) x.flat;
        opened = (here ∙ ap (flatten (loop e b n)) (sym x.flat), x.opened);
        levels = λ j. same j ∷ x.levels j;
        coded = x.coded;
        long = ap suc x.long;
        valid = (deep.0, v.1, deep.1, deep.2, x.valid);
      }
  levelled h (p ∷ ps) (l ∷ ls) (in_lock m n ∷ os) o t v =
      let x = levelled h ps ls os o.1 (and_right (level_fits k (frame_at fs p) l (innermost_level ls)) (levels_fit k fs ps ls) t) v.3 in
      let e = o.0.0 in
      let b = o.0.1 in
      let here = o.0.2 in
      let same : l ≡ context x.blocks =
      eqb→eq l (context x.blocks) (outer_level p l ls x.blocks (with m e) here x.levels (and_left (level_fits k (frame_at fs p) l (innermost_level ls)) (levels_fit k fs ps ls) t)) in
      let deep = subst (λ (d : ℕ). T (ltb d 16) × Valid h d n) x.long (v.0, v.2) in
      record {
        blocks = in_lock m n ∷ x.blocks;
        flat = ap (λ (g : List Frame). end_with ∷ flatten n g) x.flat;
        opened = ((e, b, here ∙ ap (flatten (lock m e b n)) (sym x.flat)), x.opened);
        levels = λ j. same j ∷ x.levels j;
        coded = x.coded;
        long = ap suc x.long;
        valid = (deep.0, v.1, deep.1, x.valid);
      }

  -- A test of the frame at a place, of a frame that is known.
  tested : (test : Frame → Bool) (p : ℕ) (f : Frame) {gs : List Frame} → drop p fs ≡ f ∷ gs → T (test (frame_at fs p)) → T (test f)
  tested test p f e t = subst (λ (g : Frame). T (test g)) (at_frame p e) t

  tests : (test : Frame → Bool) (p : ℕ) (f : Frame) {gs : List Frame} → drop p fs ≡ f ∷ gs → T (test f) → T (test (frame_at fs p))
  tests test p f e t = subst (λ (g : Frame). T (test g)) (sym (at_frame p e)) t

  -- At the end of a way there is no code left, and the innermost block is a branch.
  pub at_way_end : (n q : ℕ) (c : Code) (os : List Open) → drop q fs ≡ flatten c (flatten_inside os r) → T (is_way_end (frame_at fs q)) → (c ≡ done) × Idles (idling n) os
  at_way_end n q done [] e t = absurd (tested is_way_end q thread_end e t)
  at_way_end n q done (in_branch l w a b d ∷ os) e t = (refl, tt)
  at_way_end n q done (in_loop x b d ∷ os) e t = absurd (tested is_way_end q end_while e t)
  at_way_end n q done (in_lock m d ∷ os) e t = absurd (tested is_way_end q end_with e t)
  at_way_end n q (skip c) os e t = absurd (tested is_way_end q Frame.skip e t)
  at_way_end n q (assign x y c) os e t = absurd (tested is_way_end q (Frame.assign x y) e t)
  at_way_end n q (put x y c) os e t = absurd (tested is_way_end q (Frame.put x y) e t)
  at_way_end n q (branch x a b c) os e t = absurd (tested is_way_end q (if x) e t)
  at_way_end n q (loop x b c) os e t = absurd (tested is_way_end q (while x) e t)
  at_way_end n q (lock m x b c) os e t = absurd (tested is_way_end q (with m x) e t)

  ends_way : (n q : ℕ) (os : List Open) → drop q fs ≡ flatten_inside os r → Idles (idling n) os → T (is_way_end (frame_at fs q))
  ends_way n q [] e i = absurd i
  ends_way n q (in_branch l true a b d ∷ os) e i = tests is_way_end q else e tt
  ends_way n q (in_branch l false a b d ∷ os) e i = tests is_way_end q end_if e tt
  ends_way n q (in_loop x b d ∷ os) e i = absurd i
  ends_way n q (in_lock m d ∷ os) e i = absurd i

  -- The pace of a thread that stands fits.
  pub idles_fit : (q : ℕ) (c : Code) (s : Pace) (os : List Open) → drop q fs ≡ flatten c (flatten_inside os r) → Idle s c → Idles s os → T (pace_fits (frame_at fs q) s)
  idles_fit q c running os e d i = tt
  idles_fit q c (idling n) os e d i = ends_way n q os (e ∙ ap (λ (x : Code). flatten x (flatten_inside os r)) d) i

  pub fit_idles : (q : ℕ) (c : Code) (s : Pace) (os : List Open) → drop q fs ≡ flatten c (flatten_inside os r) → T (pace_fits (frame_at fs q) s) → Idle s c × Idles s os
  fit_idles q c running os e t = (tt, tt)
  fit_idles q c (idling n) os e t = at_way_end n q c os e t

  -- At the thread's last frame there is no code left and no block open.
  pub at_last : (q : ℕ) (c : Code) (os : List Open) → drop q fs ≡ flatten c (flatten_inside os r) → T (is_thread_end (frame_at fs q)) → (c ≡ done) × (os ≡ [])
  at_last q done [] e t = (refl, refl)
  at_last q done (in_branch l true a b d ∷ os) e t = absurd (tested is_thread_end q else e t)
  at_last q done (in_branch l false a b d ∷ os) e t = absurd (tested is_thread_end q end_if e t)
  at_last q done (in_loop x b d ∷ os) e t = absurd (tested is_thread_end q end_while e t)
  at_last q done (in_lock m d ∷ os) e t = absurd (tested is_thread_end q end_with e t)
  at_last q (skip c) os e t = absurd (tested is_thread_end q Frame.skip e t)
  at_last q (assign x y c) os e t = absurd (tested is_thread_end q (Frame.assign x y) e t)
  at_last q (put x y c) os e t = absurd (tested is_thread_end q (Frame.put x y) e t)
  at_last q (branch x a b c) os e t = absurd (tested is_thread_end q (if x) e t)
  at_last q (loop x b c) os e t = absurd (tested is_thread_end q (while x) e t)
  at_last q (lock m x b c) os e t = absurd (tested is_thread_end q (with m x) e t)

  pub last_there : (q : ℕ) → drop q fs ≡ thread_end ∷ r → T (is_thread_end (frame_at fs q))
  last_there q e = tests is_thread_end q thread_end e tt
