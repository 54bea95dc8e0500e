-- What one turn, and turns on end, leave as it was.
use Rattle.std.proofs.Common.{◌≡◌, ℕ, ◌+◌, ◌<◌, ◌≤◌, Bool, true, false, cond, eqb, ltb, ◌≢◌, List, length, get_or, set, ℤ, sym, refl, ap, ◌∙◌, subst, inl, inr, ⊎_elim, arith, length-set, get_or-set_other, get_or-set_same}
use Rattle.std.proofs.lemmas.Bool.{cases_eq}
use Rattle.lattice.specs.Levels.{Levels}
use Rattle.model.specs.Values.{is_zero}
use Rattle.survey.specs.declared.table.Kind.{Kind}
use Rattle.survey.specs.declared.table.Kind.TheVariants.{Other, Begin, End, Skip, Assign, Put, If, Else, EndIf, While, EndWhile, With, EndWith}
use Rattle.survey.specs.declared.table.Step.{Step}
use Rattle.survey.specs.Table.{step_at_place, bytes_of}
use Rattle.runs.specs.declared.Mark.{Mark}
use Rattle.runs.specs.declared.Cell.{Cell}
use Rattle.runs.specs.declared.Pace.{Pace}
use Rattle.runs.specs.declared.Pace.TheVariants.{Running, Idling, Finished}
use Rattle.runs.specs.declared.Place.{Place}
use Rattle.runs.specs.declared.Port.{Port}
use Rattle.runs.specs.declared.Entry.{Entry}
use Rattle.runs.specs.declared.Core.{Core}
use Rattle.runs.specs.Headers.{Few}
use Rattle.runs.specs.Flat.{Mem, mem, nil_mark, nil_place, nil_port, nil_entry, first_mark, value_at, added_port, added_entries, arrive_in, with_channels, new_entry, may_put, stepped, after_turn, Fit, FitNow}
use Rattle.runs.specs.Leaves.{Grown, Outside, Leaves}

-- Nothing changes in a port.
ports_agree : (q : Port) → Grown q q
ports_agree q = record { level = refl; start = refl; size = refl; count = omega arith }

pub leaves_none : (x : Mem) → Leaves x x
leaves_none x = record { head = refl; tracks = refl; ports = λ h. ports_agree _; long_marks = refl; long_entries = refl; marks = λ j le. refl; entries = λ j out. refl }

-- What lies outside a channel's entries lay outside before.
was_outside : (q p : Port) (j : ℕ) → Grown q p → Outside p j → Outside q j
was_outside q p j g = ⊎_elim (λ lt. inl (omega (arith, g.start))) (λ le. inr (omega (arith, g.start, g.count)))

pub leaves_on : (x y z : Mem) → Leaves x y → Leaves y z → Leaves x z
leaves_on x y z a b = record {
  head = b.head ∙ a.head;
  tracks = b.tracks ∙ a.tracks;
  ports = λ h. let p = a.ports h in let q = b.ports h in record { level = q.level ∙ p.level; start = q.start ∙ p.start; size = q.size ∙ p.size; count = omega (arith, p.count, q.count) };
  long_marks = b.long_marks ∙ a.long_marks;
  long_entries = b.long_entries ∙ a.long_entries;
  marks = λ j le. b.marks j le ∙ a.marks j le;
  entries = λ j out.
      let same : y.core.head.channels ≡ x.core.head.channels = ap (λ h. h.channels) a.head in
      b.entries j (λ h lt. out h (omega arith)) ∙ a.entries j (λ h lt. was_outside _ _ j (b.ports h) (out h lt));
}

module _ (c : Core) (ms : List Mark) (es : List Entry) where
  -- Only cells, places and the count of turns change.
  abbrev moved : List Cell → List Place → ℕ → Few c.head → Core
  moved cs ps n f = record { head = c.head; cells = cs; threads = ps; tracks = c.tracks; channels = c.channels; turns = n; few = f }

  pub leaves_moved : (cs : List Cell) (ps : List Place) (n : ℕ) (f : Few c.head) → Leaves (mem c ms es) (mem (moved cs ps n f) ms es)
  leaves_moved cs ps n f = record { head = refl; tracks = refl; ports = λ h. ports_agree _; long_marks = refl; long_entries = refl; marks = λ j le. refl; entries = λ j out. refl }

  -- A mark of one of eight threads as well.
  leaves_marked : (cs : List Cell) (ps : List Place) (n m : ℕ) (v : Mark) → m < 128 → Leaves (mem c ms es) (mem (moved cs ps n c.few) (set ms m v) es)
  leaves_marked cs ps n m v lt = record {
    head = refl;
    tracks = refl;
    ports = λ h. ports_agree _;
    long_marks = length-set ms m v;
    long_entries = refl;
    marks = λ j le. get_or-set_other ms m j v nil_mark (λ (e : j ≡ m). omega arith);
    entries = λ j out. refl;
  }

  -- One of two ways, whichever it is; the second may open a block.
  either : (b : Bool) (x y : Core) → Leaves (mem c ms es) (mem x ms es) → Leaves (mem c ms es) (mem y ms es) → Leaves (mem c ms es) (mem (cond b x y) ms es)
  either true x y a b = a
  either false x y a b = b

  or_opens : (b : Bool) (x y : Core) (ns : List Mark) → Leaves (mem c ms es) (mem x ms es) → Leaves (mem c ms es) (mem y ns es) → Leaves (mem c ms es) (mem (cond b x y) (cond b ms ns) es)
  or_opens true x y ns a b = a
  or_opens false x y ns a b = b

  module _ (long : length c.channels ≡ 8) (h : ℕ) (below : h < 8) (mine : h < c.head.channels) (e : Entry) (ps : List Place) where
    abbrev port : Port
    port = get_or c.channels h nil_port

    abbrev put_on : Core
    put_on = record { head = c.head; cells = c.cells; threads = ps; tracks = c.tracks; channels = set c.channels h (added_port port); turns = c.turns; few = c.few }

    here : get_or (set c.channels h (added_port port)) h nil_port ≡ added_port port
    here = get_or-set_same c.channels h (added_port port) nil_port (omega arith)

    counts_up : (b : Bool) (n : ℕ) → n ≤ cond b (n + 1) n
    counts_up true n = omega arith
    counts_up false n = omega arith

    added-grown : Grown port (added_port port)
    added-grown = record { level = refl; start = refl; size = refl; count = counts_up (ltb port.count port.size) port.count }

    one_more : (j : ℕ) (b : Bool) → Outside (record { level = port.level; start = port.start; size = port.size; count = cond b (port.count + 1) port.count; missed = cond b port.missed (port.missed + 1) }) j
        → get_or (cond b (set es (port.start + port.count) e) es) j nil_entry ≡ get_or es j nil_entry
    one_more j true out = get_or-set_other es (port.start + port.count) j e nil_entry (⊎_elim (λ lt (q : j ≡ port.start + port.count). omega arith) (λ le (q : j ≡ port.start + port.count). omega arith) out)
    one_more j false out = refl

    added-length : (b : Bool) → length (cond b (set es (port.start + port.count) e) es) ≡ length es
    added-length true = length-set es (port.start + port.count) e
    added-length false = refl

    leaves-put : Leaves (mem c ms es) (mem put_on ms (added_entries port e es))
    leaves-put = record {
      head = refl;
      tracks = refl;
      ports = λ n. ⊎_elim
          (λ (q : n ≡ h).
          let P : ℕ → Type 0 = λ x. Grown (get_or c.channels x nil_port) (get_or (set c.channels h (added_port port)) x nil_port) in
          subst P (sym q) (subst (Grown port) (sym here) added-grown))
          (λ (ne : n ≢ h). subst (Grown (get_or c.channels n nil_port)) (sym (get_or-set_other c.channels h n (added_port port) nil_port ne)) (ports_agree _))
          (cases_eq n h);
      long_marks = refl;
      long_entries = added-length (ltb port.count port.size);
      marks = λ j le. refl;
      entries = λ j out. let P : Port → Type 0 = λ q. Outside q j in one_more j (ltb port.count port.size) (subst P here (out h mine));
    }

module _ (k : Levels) (table : List Step) (code : List ℕ) (ss : List ℤ) (i : ℕ) (c : Core) (ms : List Mark) (es : List Entry) (long : length c.channels ≡ 8) (fit : Fit c table code ms es i) where
  abbrev at_now : Place
  at_now = get_or c.threads i nil_place

  abbrev step_now : Step
  step_now = step_at_place table at_now.at

  -- The slot of a mark that is opened.
  slot : at_now.depth < 16 → first_mark i + at_now.depth < 128
  slot deep = let few = c.few.0 in let mine = fit.thread in omega arith

  -- A put leaves something, or nothing.
  put_way : (h : ℕ) (e : Entry) → h < 8 → h < c.head.channels → (b : Bool)
      → Leaves (mem c ms es) (mem (arrive_in table i (cond b (with_channels c (set c.channels h (added_port (get_or c.channels h nil_port)))) c) (at_now.at + 1) at_now.depth) ms (cond b (added_entries (get_or c.channels h nil_port) e es) es))
  put_way h e below mine true = leaves-put c ms es long h below mine e _
  put_way h e below mine false = leaves_moved c ms es _ _ _ _

  leaves_by : (q : Pace) (kd : Kind) → FitNow q kd c table code at_now step_now → Leaves (mem c ms es) (stepped k table code ss i q kd (mem c ms es) at_now step_now)
  leaves_by Finished kd f = leaves_none _
  leaves_by (Idling n) kd f = either c ms es (eqb n 0) _ _ (leaves_moved c ms es _ _ _ _) (leaves_moved c ms es _ _ _ _)
  leaves_by Running Other f = leaves_none _
  leaves_by Running Begin f = leaves_none _
  leaves_by Running End f = leaves_none _
  leaves_by Running Skip f = leaves_moved c ms es _ _ _ _
  leaves_by Running Assign f = leaves_moved c ms es _ _ _ _
  leaves_by Running Put f =
      let few = c.few.3 in
      let below : step_now.number < c.head.channels = f.1 in
      put_way step_now.number (new_entry k code ss i c step_now) (omega arith) below (may_put k table code ss i c ms at_now step_now)
  leaves_by Running If f = leaves_marked c ms es _ _ _ _ _ (slot f.2)
  leaves_by Running Else f = either c ms es _ _ _ (leaves_moved c ms es _ _ _ _) (leaves_moved c ms es _ _ _ _)
  leaves_by Running EndIf f = either c ms es _ _ _ (leaves_moved c ms es _ _ _ _) (leaves_moved c ms es _ _ _ _)
  leaves_by Running While f = or_opens c ms es (is_zero (value_at c ss (bytes_of code step_now))) _ _ _ (leaves_moved c ms es _ _ _ _) (leaves_marked c ms es _ _ _ _ _ (slot f.2))
  leaves_by Running EndWhile f = leaves_moved c ms es _ _ _ _
  leaves_by Running With f = leaves_marked c ms es _ _ _ _ _ (slot f.1)
  leaves_by Running EndWith f = leaves_moved c ms es _ _ _ _

  pub turn_leaves : Leaves (mem c ms es) (after_turn k table code ss i (mem c ms es))
  turn_leaves = leaves_by at_now.pace step_now.kind fit.here
