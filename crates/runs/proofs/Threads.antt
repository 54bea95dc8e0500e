-- One thread moved: memory still stands for the state.
use Rattle.std.proofs.Common.{◌≡◌, ℕ, suc, ◌+◌, ◌*◌, ◌<◌, ◌≢◌, List, map, length, get_or, take, set, sym, refl, ◌∙◌, subst, ⊎_elim, arith, length-set, get_or-set_other, get_or-set_same}
use Rattle.std.proofs.lemmas.Bool.{cases_eq}
use Rattle.model.specs.Threads.{Thread, ended}
use Rattle.script.specs.Code.{Script}
use Rattle.codec.specs.Frames.{Head, Frame}
use Rattle.script.specs.Trees.{script_frames}
use Rattle.model.specs.Places.{StandsAt}
use Rattle.survey.specs.declared.table.Step.{Step}
use Rattle.runs.specs.declared.Mark.{Mark}
use Rattle.runs.specs.declared.Cell.{Cell}
use Rattle.runs.specs.declared.Port.{Port}
use Rattle.runs.specs.declared.Place.{Place}
use Rattle.runs.specs.declared.Entry.{Entry}
use Rattle.runs.specs.declared.Core.{Core}
use Rattle.runs.specs.Flat.{nil_mark, nil_place, nil_port, first_mark, head_of_core, level_of_port, Part}
use Rattle.runs.specs.Views.{ThreadView, size_of_port, Apart, Views}
use Rattle.runs.proofs.Marks.{Same, openers_same, leveled_same}

-- A thread whose marks are as they were.
pub thread_kept : (h : Head) (fs r : List Frame) (table : List Step) (ms ns : List Mark) (j : ℕ) (p : Place) (t : Thread) → Same ms ns (first_mark j) 16 → ThreadView h fs r table ms j p t → ThreadView h fs r table ns j p t
thread_kept h fs r table ms ns j p t same v =
    let deep = v.deep in
    let near : Same ms ns (first_mark j) p.depth = λ e l. same e (omega arith) in
    let P : List ℕ → Type 0 = λ os. StandsAt fs r (record { place = p.at; openers = os }) t in
    record {
      stands = subst P (sym (openers_same ms ns (first_mark j) p.depth near)) v.stands;
      leveled = leveled_same ms ns (first_mark j) p.depth t.inside near v.leveled;
      paced = v.paced;
      idles = v.idles;
      valid = v.valid;
      deep = v.deep;
    }

-- Marks of other threads than i.
abbrev pub Others : ℕ → List Mark → List Mark → Type 0
Others i ms ns = (j : ℕ) → j ≢ i → Same ms ns (first_mark j) 16

pub others_none : (i : ℕ) (ms : List Mark) → Others i ms ms
others_none i ms j ne e l = refl

pub others_set : (i d : ℕ) (ms : List Mark) (v : Mark) → d < 16 → Others i ms (set ms (first_mark i + d) v)
others_set i d ms v lt j ne e l = get_or-set_other ms (i * 16 + d) (j * 16 + e) v nil_mark (λ (q : j * 16 + e ≡ i * 16 + d). ne (omega arith))

-- A core with other cells, other channels and a new place of thread i.
abbrev pub turned : Core → ℕ → List Cell → List Port → Place → Core
turned c i cs qs p = record { head = c.head; cells = cs; threads = set c.threads i p; tracks = c.tracks; channels = qs; turns = c.turns; few = c.few }

pub record Ports (most : ℕ) (c : Core) (qs : List Port) (es : List Entry) : Type 0 where
  pub long : length qs ≡ 8
  pub levels : map level_of_port (take c.head.channels qs) ≡ map level_of_port (take c.head.channels c.channels)
  pub sizes : map size_of_port (take c.head.channels qs) ≡ map size_of_port (take c.head.channels c.channels)
  pub parts : (h : ℕ) → h < c.head.channels → Part (get_or qs h nil_port) most es
  pub apart : (h j : ℕ) → h < c.head.channels → j < c.head.channels → h ≢ j → Apart (get_or qs h nil_port) (get_or qs j nil_port)

module _ (most : ℕ) (sc : Script) (after : ℕ → List Frame) (table : List Step) (code : List ℕ) (c : Core) (ms : List Mark) (es : List Entry) (ts : List Thread) (v : Views most sc after table code c ms es ts) where
  more : (q : Port) → Part q most es → Part q (suc most) es
  more q h = let le = h.missed in record { part = h.part; held = h.held; missed = omega arith }

  pub ports_kept : Ports (suc most) c c.channels es
  ports_kept = record { long = v.ports; levels = refl; sizes = refl; parts = λ h lt. more _ (v.parts h lt); apart = v.apart }

  pub views_later : Views (suc most) sc after table code c ms es ts
  views_later = record { tabled = v.tabled; declares = v.declares; cells = v.cells; places = v.places; ports = v.ports; room = v.room; count = v.count; turns = v.turns; parts = ports_kept.parts; apart = v.apart; threads = v.threads }

module _ (most : ℕ) (sc : Script) (after : ℕ → List Frame) (table : List Step) (code : List ℕ) (c : Core) (ms : List Mark) (es : List Entry) (ts : List Thread) (v : Views most sc after table code c ms es ts) (i : ℕ) (within : i < c.head.threads) where
  pub views_next : (cs : List Cell) (qs : List Port) (ns : List Mark) (fs : List Entry) (p : Place) (t : Thread)
      → length cs ≡ 64 → Ports (suc most) c qs fs → length ns ≡ length ms → Others i ms ns
      → ThreadView (head_of_core c) (script_frames sc) (after i) table ns i p t
      → Views (suc most) sc after table code (turned c i cs qs p) ns fs (set ts i t)
  views_next cs qs ns fs p t long ports same others tv =
      let d = v.declares in
      let count = v.count in
      let places = v.places in
      let room = v.room in
      record {
        tabled = v.tabled;
        declares = record {
          variables = d.variables;
          track_levels = d.track_levels;
          channel_levels = d.channel_levels ∙ sym ports.levels;
          channel_sizes = d.channel_sizes ∙ sym ports.sizes;
        };
        cells = long;
        places = length-set c.threads i p ∙ places;
        ports = ports.long;
        room = omega arith;
        count = length-set ts i t ∙ count;
        turns = v.turns;
        parts = ports.parts;
        apart = ports.apart;
        threads = λ j lt. ⊎_elim
            (λ (e : j ≡ i).
            let few = c.few.0 in
            let P : Place → Type 0 = λ x. ThreadView (head_of_core c) (script_frames sc) (after i) table ns i x t in
            let Q : Thread → Type 0 = λ u. ThreadView (head_of_core c) (script_frames sc) (after i) table ns i (get_or (set c.threads i p) i nil_place) u in
            let R : ℕ → Type 0 = λ x. ThreadView (head_of_core c) (script_frames sc) (after x) table ns x (get_or (set c.threads i p) x nil_place) (get_or (set ts i t) x ended) in
            subst R (sym e) (subst Q (sym (get_or-set_same ts i t ended (omega arith))) (subst P (sym (get_or-set_same c.threads i p nil_place (omega arith))) tv)))
            (λ (ne : j ≢ i).
            let P : Place → Type 0 = λ x. ThreadView (head_of_core c) (script_frames sc) (after j) table ns j x (get_or ts j ended) in
            let Q : Thread → Type 0 = λ u. ThreadView (head_of_core c) (script_frames sc) (after j) table ns j (get_or (set c.threads i p) j nil_place) u in
            subst Q (sym (get_or-set_other ts i j t ended ne)) (subst P (sym (get_or-set_other c.threads i j p nil_place ne)) (thread_kept (head_of_core c) (script_frames sc) (after j) table ms ns j _ _ (others j ne) (v.threads j lt))))
            (cases_eq j i);
      }
