-- One turn of a thread: what memory stands for moves as the model does.
use Rattle.codec.specs.Expressions.{decode}
use Rattle.std.proofs.Common.{◌≡◌, ℕ, zero, suc, ◌+◌, ◌-◌, ◌<◌, ◌≤◌, Bool, true, false, cond, not, ◌||◌, T, eqb, ltb, List, [], ◌∷◌, map, length, get_or, take, drop, set, ℤ, pos, sym, refl, ap, ◌∙◌, subst, add-one, arith, ltb→lt, length-set, length-take, get_or-take, ne_eqb}
use lib.ListN
use Rattle.lattice.specs.Levels.{Levels}
use Rattle.script.specs.Code.{Code, Script}
use Rattle.codec.specs.Expressions.{Expr}
use Rattle.model.specs.Stretches.{assigns}
use Rattle.script.specs.Code.Code.{done, skip, assign, put, branch, loop, lock}
use Rattle.model.specs.Threads.{Open, Thread, ended, context, guard, at_code, at_idle, Pace as ModelPace}
use Rattle.model.specs.Machine.{State, raise, step_at, step, one_more, close_branch, lag, set_thread, set_cells, value_of, level_of, do_put, set_channel, add_entry, unused, Channel as ModelChannel}
use Rattle.model.specs.Values.{is_zero, eval, top, joined, blank, Cell as ModelCell}
use Rattle.model.specs.Threads.Open.{in_branch, in_loop, in_lock}
use Rattle.model.specs.Threads.Pace.{running, idling}
use Rattle.codec.specs.Frames.{Frame}
use Rattle.codec.specs.Frames.Frame.{if, else, end_if, while, end_while}
use Rattle.script.specs.Trees.{flatten, script_frames, Valid}
use Rattle.model.specs.Places.{Stands, Opened, flatten_inside, ValidInside}
use Rattle.model.proofs.Places.Skipping.{drop_next, past_lands}
use Rattle.survey.specs.declared.table.Kind.{Kind}
use Rattle.survey.specs.declared.table.Kind.TheVariants.{End, Skip, Assign, Put, If, Else, EndIf, While, EndWhile, With, EndWith}
use Rattle.survey.specs.declared.table.Step.{Step}
use Rattle.runs.specs.declared.Mark.{Mark}
use Rattle.runs.specs.declared.Cell.{Cell}
use Rattle.runs.specs.declared.Pace.{Pace}
use Rattle.runs.specs.declared.Pace.TheVariants.{Idling}
use Rattle.runs.specs.declared.Place.{Place}
use Rattle.runs.specs.declared.Entry.{Entry}
use Rattle.runs.specs.declared.Port.{Port}
use Rattle.runs.specs.declared.Core.{Core}
use Rattle.runs.specs.Headers.{Few}
use Rattle.runs.specs.Flat.{nil_mark, nil_place, first_mark, pace_at, arrived, beyond, closing, opener_step, opened, branch_level, level_inside, guard_threads, value_at, level_at, cells_of, tracks_of, channels_of, cell_of, raised, head_of_core, TrackParts, stepped, after_turn, arrive_in, with_cells, with_channels, nil_port, added_port, added_entries, entry_of, channel_of, level_of_port, mem, state_of}
use Rattle.survey.specs.Table.{step_at_place, bytes_of, Ways}
use Rattle.runs.specs.Views.{openers, Leveled, spot, ThreadView, Views, HoldsState, size_of_port}
use Rattle.runs.proofs.Marks.{leveled_length, level_inside_is, openers_push, leveled_push, leveled_pop}
use Rattle.runs.proofs.Guards.{reads, guard_is}
use Rattle.runs.proofs.Raising.{cells_set, raised_is, raised_length}
use Rattle.runs.proofs.Putting.{channels_added, ports_added}
use Rattle.runs.proofs.Threads.{Others, others_none, others_set, turned, ports_kept, views_next, views_later}
use Rattle.std.proofs.lemmas.List.{get_or-map}

pub next_place : (p : ℕ) (fs : List Frame) {f : Frame} {gs : List Frame} → drop p fs ≡ f ∷ gs → drop (p + 1) fs ≡ gs
next_place p fs e = ap (λ (n : ℕ). drop n fs) (add-one p) ∙ drop_next p fs e

opened_tail : (fs r : List Frame) (p : ℕ) (ps : List ℕ) (o : Open) (os : List Open) → Opened fs r (p ∷ ps) (o ∷ os) → Opened fs r ps os
opened_tail fs r p ps (in_branch l w a b n) os h = h.1
opened_tail fs r p ps (in_loop e b n) os h = h.1
opened_tail fs r p ps (in_lock m n) os h = h.1

no_opened : (fs r : List Frame) (o : Open) (os : List Open) → Opened fs r [] (o ∷ os) → ⊥
no_opened fs r o os h = h

-- One block fewer.
opened_pop : (fs r : List Frame) (ms : List Mark) (b d : ℕ) (o : Open) (os : List Open) → Opened fs r (openers ms b d) (o ∷ os) → Opened fs r (openers ms b (d - 1)) os
opened_pop fs r ms b zero o os h = absurd (no_opened fs r o os h)
opened_pop fs r ms b (suc d) o os h =
    let P : ℕ → Type 0 = λ n. Opened fs r (openers ms b n) os in
    let e : d ≡ suc d - 1 = omega arith in
    subst P e (opened_tail fs r _ _ o os h)

-- The opener of the innermost block.
opener_branch : (fs r : List Frame) (ms : List Mark) (b d l : ℕ) (w : Bool) (x y n : Code) (os : List Open) → Opened fs r (openers ms b d) (in_branch l w x y n ∷ os)
    → (e : Expr) × (drop (get_or ms (b + (d - 1)) nil_mark).opener fs ≡ flatten (branch e x y n) (flatten_inside os r))
opener_branch fs r ms b zero l w x y n os h = absurd h
opener_branch fs r ms b (suc d) l w x y n os h =
    let e : suc d - 1 ≡ d = omega arith in
    (h.0.0, ap (λ (z : ℕ). drop (get_or ms (b + z) nil_mark).opener fs) e ∙ h.0.1)

pub opener_loop : (fs r : List Frame) (ms : List Mark) (b d : ℕ) (e : Expr) (x n : Code) (os : List Open) → Opened fs r (openers ms b d) (in_loop e x n ∷ os)
    → drop (get_or ms (b + (d - 1)) nil_mark).opener fs ≡ flatten (loop e x n) (flatten_inside os r)
opener_loop fs r ms b zero e x n os h = absurd h
opener_loop fs r ms b (suc d) e x n os h = let q : suc d - 1 ≡ d = omega arith in ap (λ (z : ℕ). drop (get_or ms (b + z) nil_mark).opener fs) q ∙ h.0

module _ (most : ℕ) (sc : Script) (after : ℕ → List Frame) (table : List Step) (code : List ℕ) (c : Core) (ms : List Mark) (es : List Entry) (ts : List Thread) (v : Views most sc after table code c ms es ts) (i : ℕ) where
  -- Past the end of a way.
  pub beyond_here : (w : Bool) (l : ℕ) (a b n : Code) (os : List Open) (rest : List Frame) → drop (get_or c.threads i nil_place).at (script_frames sc) ≡ flatten_inside (in_branch l w a b n ∷ os) rest
      → drop (beyond (step_at_place table (get_or c.threads i nil_place).at).kind (step_at_place table (get_or c.threads i nil_place).at).other (get_or c.threads i nil_place).at) (script_frames sc) ≡ flatten n (flatten_inside os rest)
  beyond_here true l a b n os rest here =
      let r = reads (head_of_core c) code table (script_frames sc) v.tabled (get_or c.threads i nil_place).at _ here in
      ap (λ (x : ℕ). drop x (script_frames sc)) (ap (λ (kd : Kind). beyond kd (step_at_place table (get_or c.threads i nil_place).at).other (get_or c.threads i nil_place).at) r.0 ∙ r.1)
      ∙ past_lands (get_or c.threads i nil_place).at (script_frames sc) else end_if b _ refl here
  beyond_here false l a b n os rest here =
      let r = reads (head_of_core c) code table (script_frames sc) v.tabled (get_or c.threads i nil_place).at _ here in
      ap (λ (kd : Kind). drop (beyond kd (step_at_place table (get_or c.threads i nil_place).at).other (get_or c.threads i nil_place).at) (script_frames sc)) r ∙ next_place (get_or c.threads i nil_place).at (script_frames sc) here

-- Expressions

module _ (most : ℕ) (k : Levels) (sc : Script) (after : ℕ → List Frame) (table : List Step) (code : List ℕ) (ss : List ℤ) (c : Core) (ms : List Mark) (es : List Entry) (ts : List Thread) (v : Views most sc after table code c ms es ts) where
  pub value_is : (bytes : List ℕ) (e : Expr) → (decode 0 bytes).ops ≡ e → value_at c ss bytes ≡ value_of k sc (state_of c ss es ts) e
  value_is bytes e q = ap (λ (x : Expr). top (eval (cells_of c) (tracks_of c ss) x [])) q

  pub level_is : (bytes : List ℕ) (e : Expr) → (decode 0 bytes).ops ≡ e → level_at k c bytes ≡ level_of k sc (state_of c ss es ts) e
  level_is bytes e q = λ j. joined k (λ x. (get_or (cells_of c) x blank).level) (λ t. get_or (sym v.declares.track_levels j) t 0) (q j) 0

-- One turn

module _ (most : ℕ) (k : Levels) (sc : Script) (after : ℕ → List Frame) (table : List Step) (code : List ℕ) (ss : List ℤ) (c : Core) (ms : List Mark) (es : List Entry) (ts : List Thread) (v : Views most sc after table code c ms es ts) (fed : TrackParts c ss) (i : ℕ) (within : i < c.head.threads) where
  abbrev at_now : Place
  at_now = get_or c.threads i nil_place

  abbrev step_now : Step
  step_now = step_at_place table at_now.at

  abbrev state_now : State
  state_now = state_of c ss es ts

  abbrev behind : List Frame
  behind = after i

  abbrev View : List Mark → Place → Thread → Type 0
  View ns p t = ThreadView (head_of_core c) (script_frames sc) (after i) table ns i p t

  abbrev ViewOf : ℕ → Type 0
  ViewOf j = ThreadView (head_of_core c) (script_frames sc) (after j) table ms j (get_or c.threads j nil_place) (get_or ts j ended)

  abbrev Next : Pace → Kind → State → Type 0
  Next q kd s = HoldsState (suc most) c.turns sc after table code ss (stepped k table code ss i q kd (mem c ms es) at_now step_now) s

  -- A while whose test is z.
  abbrev LoopTo : Bool → State → Type 0
  LoopTo z s = HoldsState (suc most) c.turns sc after table code ss (mem (cond z (arrive_in table i c step_now.other at_now.depth) (arrive_in table i c (at_now.at + 1) (at_now.depth + 1))) (cond z ms (opened i ms at_now (level_inside ms (first_mark i) at_now.depth))) es) s

  -- An if of level l whose test is z.
  abbrev BranchTo : Bool → ℕ → State → Type 0
  BranchTo z l s = HoldsState (suc most) c.turns sc after table code ss (mem (arrive_in table i (with_cells c (raised k step_now.assigned l c.cells c.head.variables)) (cond z step_now.other (at_now.at + 1)) (at_now.depth + 1)) (opened i ms at_now l) es) s

  -- A put on channel h.
  abbrev PutTo : ℕ → Entry → Bool → State → Type 0
  PutTo h en b s = HoldsState (suc most) c.turns sc after table code ss (mem (arrive_in table i (cond b (with_channels c (set c.channels h (added_port (get_or c.channels h nil_port)))) c) (at_now.at + 1) at_now.depth) ms (cond b (added_entries (get_or c.channels h nil_port) en es) es)) s

  pick_loop : (target : Bool → State) (z : Bool) → LoopTo true (target true) → LoopTo false (target false) → LoopTo z (target z)
  pick_loop target true x y = x
  pick_loop target false x y = y

  pick_put : (h : ℕ) (en : Entry) (target : Bool → State) (b : Bool) → PutTo h en true (target true) → PutTo h en false (target false) → PutTo h en b (target b)
  pick_put h en target true x y = x
  pick_put h en target false x y = y

  pick_way : (l : ℕ) (target : Bool → State) (z : Bool) → BranchTo true l (target true) → BranchTo false l (target false) → BranchTo z l (target z)
  pick_way l target true x y = x
  pick_way l target false x y = y

  at_kind : (kd : Kind) (s : State) → at_now.pace ≡ pace_at step_now.kind → step_now.kind ≡ kd → Next (pace_at kd) kd s → Next at_now.pace step_now.kind s
  at_kind kd s pace kind n =
      let Q : Pace → Type 0 = λ q. Next q step_now.kind s in
      let R : Kind → Type 0 = λ x. Next (pace_at x) x s in
      subst Q (sym pace) (subst R (sym kind) n)

  at_idle_pace : (n : ℕ) (s : State) → at_now.pace ≡ Idling n → Next (Idling n) step_now.kind s → Next at_now.pace step_now.kind s
  at_idle_pace n s e h = let Q : Pace → Type 0 = λ q. Next q step_now.kind s in subst Q (sym e) h

  arrive_view : (ns : List Mark) (p d : ℕ) (cd : Code) (os : List Open)
      → drop p (script_frames sc) ≡ flatten cd (flatten_inside os behind) → Opened (script_frames sc) behind (openers ns (first_mark i) d) os → Leveled ns (first_mark i) d os
      → Valid (head_of_core c) (length os) cd → ValidInside (head_of_core c) os → d ≤ 16 → View ns (arrived table p d) (at_code cd os)
  arrive_view ns p d cd os here opened leveled valid inside deep = record {
    stands = record { stands = record { here = here; opened = opened }; idle = tt };
    leveled = leveled;
    paced = refl;
    idles = tt;
    valid = record { code = valid; inside = inside };
    deep = deep;
  }

  plain : (cs : List Cell) (ns : List Mark) (p : Place) (t : Thread) (s : State) → length cs ≡ 64 → length ns ≡ length ms → Others i ms ns → View ns p t
      → s ≡ state_of (turned c i cs c.channels p) ss es (set ts i t) → HoldsState (suc most) c.turns sc after table code ss (mem (turned c i cs c.channels p) ns es) s
  plain cs ns p t s long same others tv e = record {
    ts = set ts i t;
    is = e;
    counted = refl;
    fed = fed;
    views = views_next most sc after table code c ms es ts v i within cs c.channels ns es p t long (ports_kept most sc after table code c ms es ts v) same others tv;
  }

  -- The same memory, by another place.
  moves : (p : Place) (t : Thread) → View ms p t → HoldsState (suc most) c.turns sc after table code ss (mem (turned c i c.cells c.channels p) ms es) (set_thread state_now i t)
  moves p t tv = plain c.cells ms p t _ v.cells refl (others_none i ms) tv refl

  case_skip : (cd : Code) (os : List Open) → View ms at_now (at_code (skip cd) os) → Next at_now.pace step_now.kind (step_at k sc state_now i (skip cd) running os)
  unfolding step_at
  case_skip cd os tv =
      let here = tv.stands.stands.here in
      at_kind Skip _ tv.paced (reads (head_of_core c) code table (script_frames sc) v.tabled at_now.at _ here)
      (moves _ (at_code cd os) (arrive_view ms (at_now.at + 1) at_now.depth cd os (next_place at_now.at _ here) tv.stands.stands.opened tv.leveled tv.valid.code tv.valid.inside tv.deep))

  -- The end of a way: idle turns, then past the end.
  close_now : (j : ℕ) (w : Bool) (l : ℕ) (a b n : Code) (os : List Open) → Stands (script_frames sc) behind (spot ms i at_now) done (in_branch l w a b n ∷ os)
      → Leveled ms (first_mark i) at_now.depth (in_branch l w a b n ∷ os) → ValidInside (head_of_core c) (in_branch l w a b n ∷ os) → at_now.depth ≤ 16
      → HoldsState (suc most) c.turns sc after table code ss (mem (closing table i j c at_now step_now) ms es) (set_thread state_now i (close_branch j (in_branch l w a b n) os n))
  close_now zero w l a b n os st lv va deep =
      moves _ (at_code n os) (arrive_view ms _ (at_now.depth - 1) n os (beyond_here most sc after table code c ms es ts v i w l a b n os behind st.here)
      (opened_pop (script_frames sc) behind ms (first_mark i) at_now.depth _ os st.opened) (leveled_pop ms (first_mark i) at_now.depth _ os lv) va.3 va.4 (omega arith))
  close_now (suc j) w l a b n os st lv va deep =
      let z : eqb (suc j) 0 ≡ false = ne_eqb (suc j) 0 (λ (q : suc j ≡ 0). omega arith) in
      let q : suc j - 1 ≡ j = omega arith in
      let G : Bool → Type 0 = λ t. HoldsState (suc most) c.turns sc after table code ss (mem (cond t (turned c i c.cells c.channels (arrived table (beyond step_now.kind step_now.other at_now.at) (at_now.depth - 1))) (turned c i c.cells c.channels (record { at = at_now.at; depth = at_now.depth; pace = Idling (suc j - 1) }))) ms es) (set_thread state_now i (at_idle j (in_branch l w a b n ∷ os))) in
      subst G (sym z)
      (moves _ (at_idle j (in_branch l w a b n ∷ os)) (record { stands = record { stands = st; idle = refl }; leveled = lv; paced = ap Idling q; idles = tt; valid = record { code = tt; inside = va }; deep = deep }))

  case_idle : (cd : Code) (n l : ℕ) (w : Bool) (a b next : Code) (os : List Open) → View ms at_now (record { code = cd; pace = idling n; inside = in_branch l w a b next ∷ os })
      → Next at_now.pace step_now.kind (step_at k sc state_now i cd (idling n) (in_branch l w a b next ∷ os))
  unfolding step_at
  case_idle cd n l w a b next os tv =
      let P : Code → Type 0 = λ x. Stands (script_frames sc) behind (spot ms i at_now) x (in_branch l w a b next ∷ os) in
      at_idle_pace n _ tv.paced (close_now n w l a b next os (subst P tv.stands.idle tv.stands.stands) tv.leveled tv.valid.inside tv.deep)

  ways_now : (l : ℕ) (w : Bool) (a b n : Code) (os : List Open) (rest : List Frame) → Opened (script_frames sc) rest (openers ms (first_mark i) at_now.depth) (in_branch l w a b n ∷ os) → Ways (opener_step table ms (first_mark i) at_now.depth) a b
  ways_now l w a b n os rest o =
      let e = opener_branch (script_frames sc) rest ms (first_mark i) at_now.depth l w a b n os o in
      v.tabled.ways _ e.0 a b n _ e.1

  case_branch_end : (l : ℕ) (w : Bool) (a b n : Code) (os : List Open) → View ms at_now (at_code done (in_branch l w a b n ∷ os)) → Next at_now.pace step_now.kind (step_at k sc state_now i done running (in_branch l w a b n ∷ os))
  unfolding step_at
  case_branch_end l true a b n os tv =
      let st = tv.stands.stands in
      let r = reads (head_of_core c) code table (script_frames sc) v.tabled at_now.at _ st.here in
      let way = ways_now l true a b n os behind st.opened in
      let G : ℕ → Type 0 = λ j. HoldsState (suc most) c.turns sc after table code ss (mem (closing table i j c at_now step_now) ms es) (set_thread state_now i (close_branch (lag true a b) (in_branch l true a b n) os n)) in
      at_kind Else _ tv.paced r.0 (subst G (sym way.first) (close_now (lag true a b) true l a b n os st tv.leveled tv.valid.inside tv.deep))
  case_branch_end l false a b n os tv =
      let st = tv.stands.stands in
      let r = reads (head_of_core c) code table (script_frames sc) v.tabled at_now.at _ st.here in
      let way = ways_now l false a b n os behind st.opened in
      let G : ℕ → Type 0 = λ j. HoldsState (suc most) c.turns sc after table code ss (mem (closing table i j c at_now step_now) ms es) (set_thread state_now i (close_branch (lag false a b) (in_branch l false a b n) os n)) in
      at_kind EndIf _ tv.paced r (subst G (sym way.second) (close_now (lag false a b) false l a b n os st tv.leveled tv.valid.inside tv.deep))

  case_loop_end : (e : Expr) (b n : Code) (os : List Open) → View ms at_now (at_code done (in_loop e b n ∷ os)) → Next at_now.pace step_now.kind (step_at k sc state_now i done running (in_loop e b n ∷ os))
  unfolding step_at
  case_loop_end e b n os tv =
      let st = tv.stands.stands in
      let deep = tv.deep in
      let va = tv.valid.inside in
      at_kind EndWhile _ tv.paced (reads (head_of_core c) code table (script_frames sc) v.tabled at_now.at _ st.here)
      (moves _ (at_code (loop e b n) os) (arrive_view ms _ (at_now.depth - 1) (loop e b n) os (opener_loop (script_frames sc) behind ms (first_mark i) at_now.depth e b n os st.opened)
      (opened_pop (script_frames sc) behind ms (first_mark i) at_now.depth _ os st.opened) (leveled_pop ms (first_mark i) at_now.depth _ os tv.leveled) (va.0, va.1, va.2, va.3) va.4 (omega arith)))

  case_lock_end : (m : ℕ) (n : Code) (os : List Open) → View ms at_now (at_code done (in_lock m n ∷ os)) → Next at_now.pace step_now.kind (step_at k sc state_now i done running (in_lock m n ∷ os))
  unfolding step_at
  case_lock_end m n os tv =
      let st = tv.stands.stands in
      let deep = tv.deep in
      let va = tv.valid.inside in
      at_kind EndWith _ tv.paced (reads (head_of_core c) code table (script_frames sc) v.tabled at_now.at _ st.here)
      (moves _ (at_code n os) (arrive_view ms _ (at_now.depth - 1) n os (next_place at_now.at _ st.here)
      (opened_pop (script_frames sc) behind ms (first_mark i) at_now.depth _ os st.opened) (leveled_pop ms (first_mark i) at_now.depth _ os tv.leveled) va.2 va.3 (omega arith)))

  value_here : (bytes : List ℕ) (e : Expr) → (decode 0 bytes).ops ≡ e → value_at c ss bytes ≡ value_of k sc state_now e
  value_here = value_is most k sc after table code ss c ms es ts v

  level_here : (bytes : List ℕ) (e : Expr) → (decode 0 bytes).ops ≡ e → level_at k c bytes ≡ level_of k sc state_now e
  level_here = level_is most k sc after table code ss c ms es ts v

  case_assign : (x : ℕ) (e : Expr) (cd : Code) (os : List Open) → View ms at_now (at_code (assign x e cd) os) → Next at_now.pace step_now.kind (step_at k sc state_now i (assign x e cd) running os)
  unfolding step_at
  case_assign x e cd os tv =
      let st = tv.stands.stands in
      let few = c.few.1 in
      let r = reads (head_of_core c) code table (script_frames sc) v.tabled at_now.at _ st.here in
      let below = ltb→lt x c.head.variables tv.valid.code.0 in
      let all : (j : ℕ) → j < length ts → ViewOf j = λ j lt. v.threads j (omega (arith, v.count)) in
      let num : step_now.number ≡ x = r.1 in
      let guarded : guard_threads k table ms step_now.number c.threads c.head.threads ≡ guard k x ts 0 =
      (λ j. guard_threads k table ms (num j) c.threads (sym v.count j)) ∙ guard_is k (head_of_core c) code table (script_frames sc) v.tabled x (omega arith) after ms c.threads ts all in
      let cell : Cell = record { value = value_at c ss (bytes_of code step_now); level = k.join (level_at k c (bytes_of code step_now)) (guard_threads k table ms step_now.number c.threads c.head.threads) } in
      let new : ModelCell = record { value = value_of k sc state_now e; level = k.join (level_of k sc state_now e) (guard k x ts 0) } in
      let same : cell_of cell ≡ new = λ j. record { value = value_here _ e r.2.ops j; level = k.join (level_here _ e r.2.ops j) (guarded j) } in
      let cells : map cell_of (take c.head.variables (set c.cells step_now.number cell)) ≡ set (cells_of c) x new =
      cells_set c.head.variables c.cells step_now.number cell ∙ (λ j. set (cells_of c) (num j) (same j)) in
      at_kind Assign _ tv.paced r.0
      (plain (set c.cells step_now.number cell) ms _ (at_code cd os) _ (length-set c.cells step_now.number cell ∙ v.cells) refl (others_none i ms)
      (arrive_view ms (at_now.at + 1) at_now.depth cd os (next_place at_now.at _ st.here) st.opened tv.leveled tv.valid.code.2 tv.valid.inside tv.deep)
      (ap (λ (cs : List ModelCell). set_thread (set_cells state_now cs) i (at_code cd os)) (sym cells)))

  -- Into a block

  room_here : (os : List Open) → Leveled ms (first_mark i) at_now.depth os → T (ltb (length os) 16) → (at_now.depth < 16) × (first_mark i + at_now.depth < length ms)
  room_here os l t =
      let n = leveled_length ms (first_mark i) at_now.depth os l in
      let lt = ltb→lt (length os) 16 t in
      let few = c.few.0 in
      let room = v.room in
      (omega arith, omega arith)

  enter_view : (p l : ℕ) (o : Open) (cd : Code) (os : List Open)
      → drop p (script_frames sc) ≡ flatten cd (flatten_inside (o ∷ os) behind)
      → Opened (script_frames sc) behind (at_now.at ∷ openers ms (first_mark i) at_now.depth) (o ∷ os)
      → l ≡ context (o ∷ os) → Leveled ms (first_mark i) at_now.depth os → T (ltb (length os) 16)
      → Valid (head_of_core c) (suc (length os)) cd → ValidInside (head_of_core c) (o ∷ os)
      → View (opened i ms at_now l) (arrived table p (at_now.depth + 1)) (at_code cd (o ∷ os))
  enter_view p l o cd os here op lev leveled t valid inside =
      let room = room_here os leveled t in
      let mark : Mark = record { opener = at_now.at; level = l } in
      let P : List ℕ → Type 0 = λ ps. Opened (script_frames sc) behind ps (o ∷ os) in
      arrive_view (opened i ms at_now l) p (at_now.depth + 1) cd (o ∷ os) here
      (subst P (sym (openers_push ms (first_mark i) at_now.depth mark room.1)) op)
      (leveled_push ms (first_mark i) at_now.depth mark o os room.1 lev leveled) valid inside (omega (arith, room.0))

  entered : (cs : List Cell) (p l : ℕ) (t : Thread) (s : State) (os : List Open) → Leveled ms (first_mark i) at_now.depth os → T (ltb (length os) 16) → length cs ≡ 64
      → View (opened i ms at_now l) (arrived table p (at_now.depth + 1)) t
      → s ≡ state_of (turned c i cs c.channels (arrived table p (at_now.depth + 1))) ss es (set ts i t)
      → HoldsState (suc most) c.turns sc after table code ss (mem (turned c i cs c.channels (arrived table p (at_now.depth + 1))) (opened i ms at_now l) es) s
  entered cs p l t s os leveled d16 long tv e =
      plain cs (opened i ms at_now l) (arrived table p (at_now.depth + 1)) t s long (length-set ms _ _) (others_set i at_now.depth ms _ (room_here os leveled d16).0) tv e

  case_lock : (mk : ℕ) (e : Expr) (b cd : Code) (os : List Open) → View ms at_now (at_code (lock mk e b cd) os) → Next at_now.pace step_now.kind (step_at k sc state_now i (lock mk e b cd) running os)
  unfolding step_at
  case_lock mk e b cd os tv =
      let st = tv.stands.stands in
      let va = tv.valid.code in
      let r = reads (head_of_core c) code table (script_frames sc) v.tabled at_now.at _ st.here in
      at_kind With _ tv.paced r.0
      (entered c.cells (at_now.at + 1) _ (at_code b (in_lock mk cd ∷ os)) _ os tv.leveled va.0 v.cells
      (enter_view (at_now.at + 1) _ (in_lock mk cd) b os (next_place at_now.at _ st.here) ((e, b, st.here), st.opened)
      (level_inside_is ms (first_mark i) at_now.depth os tv.leveled) tv.leveled va.0 va.3 (va.0, va.1, va.4, tv.valid.inside))
      refl)

  case_loop : (e : Expr) (b cd : Code) (os : List Open) → View ms at_now (at_code (loop e b cd) os) → Next at_now.pace step_now.kind (step_at k sc state_now i (loop e b cd) running os)
  unfolding step_at
  case_loop e b cd os tv =
      let st = tv.stands.stands in
      let va = tv.valid.code in
      let r = reads (head_of_core c) code table (script_frames sc) v.tabled at_now.at _ st.here in
      let G : ℤ → Type 0 = λ z. LoopTo (is_zero z) (set_thread state_now i (cond (is_zero (value_of k sc state_now e)) (at_code cd os) (at_code b (in_loop e b cd ∷ os)))) in
      let past-here : drop step_now.other (script_frames sc) ≡ flatten cd (flatten_inside os behind) =
      ap (λ (n : ℕ). drop n (script_frames sc)) r.1 ∙ past_lands at_now.at (script_frames sc) (while e) end_while b _ refl st.here in
      at_kind While _ tv.paced r.0
      (subst G (sym (value_here _ e r.2.ops)) (pick_loop (λ z. set_thread state_now i (cond z (at_code cd os) (at_code b (in_loop e b cd ∷ os)))) (is_zero (value_of k sc state_now e))
      (moves _ (at_code cd os) (arrive_view ms step_now.other at_now.depth cd os past-here st.opened tv.leveled va.3 tv.valid.inside tv.deep))
      (entered c.cells (at_now.at + 1) (level_inside ms (first_mark i) at_now.depth) (at_code b (in_loop e b cd ∷ os)) _ os tv.leveled va.0 v.cells
      (enter_view (at_now.at + 1) _ (in_loop e b cd) b os (next_place at_now.at _ st.here) (st.here, st.opened)
      (level_inside_is ms (first_mark i) at_now.depth os tv.leveled) tv.leveled va.0 va.2 (va.0, va.1, va.2, va.3, tv.valid.inside))
      refl)))

  case_branch : (e : Expr) (a b cd : Code) (os : List Open) → View ms at_now (at_code (branch e a b cd) os) → Next at_now.pace step_now.kind (step_at k sc state_now i (branch e a b cd) running os)
  unfolding step_at
  case_branch e a b cd os tv =
      let st = tv.stands.stands in
      let va = tv.valid.code in
      let few = c.few.1 in
      let r = reads (head_of_core c) code table (script_frames sc) v.tabled at_now.at _ st.here in
      let way = v.tabled.ways at_now.at e a b cd _ st.here in
      let l = k.join (context os) (level_of k sc state_now e) in
      let cs = raised k step_now.assigned l c.cells c.head.variables in
      let marked : ℕ → Bool = λ x. assigns x a || assigns x b in
      let level : branch_level k code i c ms at_now step_now ≡ l = λ j. k.join (level_inside_is ms (first_mark i) at_now.depth os tv.leveled j) (level_here _ e r.2.ops j) in
      let raises : map cell_of (take c.head.variables cs) ≡ raise k marked l 0 (cells_of c) =
      raised_is k step_now.assigned l marked c.cells c.head.variables (omega (arith, v.cells)) (λ x lt. way.assigned x (omega arith)) in
      let long : length cs ≡ 64 = raised_length k step_now.assigned l c.cells c.head.variables ∙ v.cells in
      let target : Bool → State = λ z. set_thread (set_cells state_now (raise k marked l 0 (cells_of c))) i (at_code (cond (not z) a b) (in_branch l (not z) a b cd ∷ os)) in
      let F : ℕ → Type 0 = λ y. BranchTo (is_zero (value_at c ss (bytes_of code step_now))) y (target (is_zero (value_of k sc state_now e))) in
      let G : ℤ → Type 0 = λ z. BranchTo (is_zero z) l (target (is_zero (value_of k sc state_now e))) in
      let else-here : drop step_now.other (script_frames sc) ≡ flatten b (flatten_inside (in_branch l false a b cd ∷ os) behind) =
      ap (λ (n : ℕ). drop n (script_frames sc)) r.1 ∙ past_lands at_now.at (script_frames sc) (if e) else a _ refl st.here in
      at_kind If _ tv.paced r.0
      (subst F (sym level) (subst G (sym (value_here _ e r.2.ops)) (pick_way l target (is_zero (value_of k sc state_now e))
      (entered cs step_now.other l (at_code b (in_branch l false a b cd ∷ os)) _ os tv.leveled va.0 long
      (enter_view step_now.other l (in_branch l false a b cd) b os else-here ((e, st.here), st.opened) refl tv.leveled va.0 va.3 (va.0, va.2, va.3, va.4, tv.valid.inside))
      (ap (λ (x : List ModelCell). set_thread (set_cells state_now x) i (at_code b (in_branch l false a b cd ∷ os))) (sym raises)))
      (entered cs (at_now.at + 1) l (at_code a (in_branch l true a b cd ∷ os)) _ os tv.leveled va.0 long
      (enter_view (at_now.at + 1) l (in_branch l true a b cd) a os (next_place at_now.at _ st.here) ((e, st.here), st.opened) refl tv.leveled va.0 va.2 (va.0, va.2, va.3, va.4, tv.valid.inside))
      (ap (λ (x : List ModelCell). set_thread (set_cells state_now x) i (at_code a (in_branch l true a b cd ∷ os))) (sym raises))))))

  case_done : View ms at_now (at_code done []) → Next at_now.pace step_now.kind (step_at k sc state_now i done running [])
  unfolding step_at
  case_done tv =
      at_kind End _ tv.paced (reads (head_of_core c) code table (script_frames sc) v.tabled at_now.at _ tv.stands.stands.here)
      (record { ts = ts; is = refl; counted = refl; fed = fed; views = views_later most sc after table code c ms es ts v })

  abbrev entry_to : ℕ → Entry
  entry_to to =
      let open-to = k.flows (level_at k c (bytes_of code step_now)) to in
      record { turn = c.turns + 1; thread = i; mark = not open-to; value = cond open-to (value_at c ss (bytes_of code step_now)) (pos 0) }

  case_put : (h : ℕ) (e : Expr) (cd : Code) (os : List Open) → View ms at_now (at_code (put h e cd) os) → Next at_now.pace step_now.kind (step_at k sc state_now i (put h e cd) running os)
  unfolding step_at do_put
  case_put h e cd os tv =
      let st = tv.stands.stands in
      let d = v.declares in
      let few = c.few.3 in
      let long = v.ports in
      let r = reads (head_of_core c) code table (script_frames sc) v.tabled at_now.at _ st.here in
      let below : h < c.head.channels = ltb→lt h c.head.channels tv.valid.code.0 in
      let n : ℕ = c.head.channels in
      let q : Port = get_or c.channels h nil_port in
      let inside : h < length (take n c.channels) = simp length-take (omega arith) in
      let port : get_or (take n c.channels) h nil_port ≡ q = get_or-take n c.channels h nil_port below in
      let to : get_or sc.channel_levels h 0 ≡ q.level =
      ap (λ (ls : List ℕ). get_or ls h 0) d.channel_levels ∙ ListN.get_or-map level_of_port (take n c.channels) h nil_port ∙ ap level_of_port port in
      let size : get_or sc.channel_sizes h 0 ≡ q.size =
      ap (λ (ls : List ℕ). get_or ls h 0) d.channel_sizes ∙ ListN.get_or-map size_of_port (take n c.channels) h nil_port ∙ ap size_of_port port in
      let ch : get_or (map (channel_of es) (take n c.channels)) h unused ≡ channel_of es q =
      get_or-map (channel_of es) (take n c.channels) h nil_port unused inside ∙ ap (channel_of es) port in
      let lv : context os ≡ level_inside ms (first_mark i) at_now.depth = sym (level_inside_is ms (first_mark i) at_now.depth os tv.leveled) in
      let vl : value_of k sc state_now e ≡ value_at c ss (bytes_of code step_now) = sym (value_here _ e r.2.ops) in
      let el : level_of k sc state_now e ≡ level_at k c (bytes_of code step_now) = sym (level_here _ e r.2.ops) in
      let t = at_code cd os in
      let same : step_at k sc state_now i (put h e cd) running os ≡ set_thread (cond (k.flows (level_inside ms (first_mark i) at_now.depth) q.level) (set_channel state_now h (add_entry q.size (entry_of (entry_to q.level)) (channel_of es q))) state_now) i t =
      (λ j. set_thread (cond (k.flows (lv j) (to j)) (set_channel state_now h (add_entry (size j) (record { turn = sym (add-one c.turns) j; thread = i; mark = not (k.flows (el j) (to j)); value = cond (k.flows (el j) (to j)) (vl j) (pos 0) }) (ch j))) state_now) i t) in
      let A : ℕ → Type 0 = λ x. PutTo x (entry_to (get_or c.channels x nil_port).level) (k.flows (level_inside ms (first_mark i) at_now.depth) (get_or c.channels x nil_port).level) (step_at k sc state_now i (put h e cd) running os) in
      let B : State → Type 0 = λ s. PutTo h (entry_to q.level) (k.flows (level_inside ms (first_mark i) at_now.depth) q.level) s in
      let view : View ms (arrived table (at_now.at + 1) at_now.depth) t =
      arrive_view ms (at_now.at + 1) at_now.depth cd os (next_place at_now.at _ st.here) st.opened tv.leveled tv.valid.code.2 tv.valid.inside tv.deep in
      let chs = channels_added n c.channels h (entry_to q.level) es most (omega arith) below v.parts v.apart in
      at_kind Put _ tv.paced r.0
      (subst A (sym r.1) (subst B (sym same)
      (pick_put h (entry_to q.level) (λ b. set_thread (cond b (set_channel state_now h (add_entry q.size (entry_of (entry_to q.level)) (channel_of es q))) state_now) i t)
      (k.flows (level_inside ms (first_mark i) at_now.depth) q.level)
      (record {
        ts = set ts i t;
        is = ap (λ (x : List ModelChannel). record { cells = cells_of c; threads = set ts i t; tracks = tracks_of c ss; channels = x; turns = c.turns }) (sym chs);
        counted = refl;
        fed = fed;
        views = views_next most sc after table code c ms es ts v i within c.cells _ ms _ _ t v.cells (ports_added c h (entry_to q.level) es most (omega arith) below v.parts v.apart long) refl (others_none i ms) view;
      })
      (moves _ t view))))

  -- Every case.
  pub turn_case : (cd : Code) (pc : ModelPace) (os : List Open) → View ms at_now (record { code = cd; pace = pc; inside = os }) → Next at_now.pace step_now.kind (step_at k sc state_now i cd pc os)
  turn_case cd (idling n) [] tv = absurd tv.idles
  turn_case cd (idling n) (in_branch l w a b next ∷ os) tv = case_idle cd n l w a b next os tv
  turn_case cd (idling n) (in_loop e b next ∷ os) tv = absurd tv.idles
  turn_case cd (idling n) (in_lock x next ∷ os) tv = absurd tv.idles
  turn_case done running [] tv = case_done tv
  turn_case done running (in_branch l w a b next ∷ os) tv = case_branch_end l w a b next os tv
  turn_case done running (in_loop e b next ∷ os) tv = case_loop_end e b next os tv
  turn_case done running (in_lock x next ∷ os) tv = case_lock_end x next os tv
  turn_case (skip cd) running os tv = case_skip cd os tv
  turn_case (assign x e cd) running os tv = case_assign x e cd os tv
  turn_case (put h e cd) running os tv = case_put h e cd os tv
  turn_case (branch e a b cd) running os tv = case_branch e a b cd os tv
  turn_case (loop e b cd) running os tv = case_loop e b cd os tv
  turn_case (lock x e b cd) running os tv = case_lock x e b cd os tv

  -- A turn of the memory stands for the step of the state.
  pub turn_views : HoldsState (suc most) c.turns sc after table code ss (after_turn k table code ss i (mem c ms es)) (step k sc state_now i)
  turn_views = let t = get_or ts i ended in turn_case t.code t.pace t.inside (v.threads i within)

-- The turn is counted.
abbrev pub with_turns : (c : Core) → ℕ → Few c.head → Core
with_turns c n f = record { head = c.head; cells = c.cells; threads = c.threads; tracks = c.tracks; channels = c.channels; turns = n; few = f }

pub tick : (given : ℕ) (sc : Script) (after : ℕ → List Frame) (table : List Step) (code : List ℕ) (ss : List ℤ) (c : Core) (ms : List Mark) (es : List Entry) (s : State) (f : Few c.head) → given < 1000000 → HoldsState (suc given) given sc after table code ss (mem c ms es) s
    → HoldsState (given + 1) (given + 1) sc after table code ss (mem (with_turns c (given + 1) f) ms es) (one_more s)
tick given sc after table code ss c ms es s f lt h =
    let v = h.views in
    let n : suc given ≡ given + 1 = sym (add-one given) in
    let P : ℕ → Type 0 = λ z. HoldsState z (given + 1) sc after table code ss (mem (with_turns c (given + 1) f) ms es) (one_more s) in
    subst P n (record {
      ts = h.ts;
      is = ap one_more h.is ∙ ap (λ (z : ℕ). record { cells = cells_of c; threads = h.ts; tracks = tracks_of c ss; channels = channels_of c es; turns = z }) (ap suc h.counted ∙ n);
      counted = refl;
      fed = h.fed;
      views = record { tabled = v.tabled; declares = record { variables = v.declares.variables; track_levels = v.declares.track_levels; channel_levels = v.declares.channel_levels; channel_sizes = v.declares.channel_sizes }; cells = v.cells; places = v.places; ports = v.ports; room = v.room; count = v.count; turns = omega arith; parts = v.parts; apart = v.apart; threads = v.threads };
    })
