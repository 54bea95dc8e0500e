-- A run and its slabs that stand for a state are memory that the turn loop works on, and what the loop leaves stands for the state after it.
use Rattle.std.proofs.Common.{◌≡◌, ℕ, zero, suc, ◌+◌, ◌<◌, ◌≤◌, Bool, true, false, cond, not, ◌||◌, T, eqb, ◌≢◌, List, [], ◌∷◌, map, length, get_or, drop, take, sym, refl, ap, ◌∙◌, subst, inl, inr, ⊎_elim, arith}
use mathlib.Core.Option.{Option as Perhaps, none, some}
use Rattle.std.proofs.lemmas.Bool.{cases_lt}
use Rattle.std.specs.List.{AllByRecursion}
use Rattle.lattice.specs.Levels.{Levels, Lawful}
use Rattle.codec.specs.Frames.{Head, Frame}
use Rattle.codec.specs.Frames.Frame.{header, track, channel, thread, thread_end, if, else, end_if, while, end_while, with, end_with, last}
use Rattle.codec.specs.Shapes.{head_of as as_head, whole}
use Rattle.scheduler.specs.Turns.{Meaning}
use Rattle.script.specs.Code.{Script}
use Rattle.script.specs.Slabs.{Holds, frame_number}
use Rattle.script.specs.Trees.{head_of, script_frames, ValidScript}
use Rattle.script.proofs.Framing.{frame_held}
use Rattle.script.proofs.Unique.{one_tree}
use Rattle.model.specs.Levels.{all_had, Levelled}
use Rattle.model.specs.Machine.{State, Rules, advance, rules, ready_set, take_turn, all_finished, most_turns}
use Rattle.model.specs.Threads.{Open, Thread, context, ended, Pace as ModelPace}
use Rattle.model.specs.Threads.Pace.{running, idling}
use Rattle.model.specs.Fitting.{AllAccounts, CodedRun, behind_thread, contexts, frame_at, is_thread_end}
use Rattle.model.specs.Places.{ValidThread}
use Rattle.model.proofs.Tests.{both, is_true}
use Rattle.model.proofs.Places.Fit.{places_fit}
use Rattle.model.proofs.Places.Agreeing.{places_agree}
use Rattle.survey.specs.Filling.{outer_first}
use Rattle.survey.specs.Table.{step_at_place, Tabled}
use Rattle.survey.specs.declared.table.Kind.{Kind}
use Rattle.survey.specs.declared.table.Step.{Step}
use Rattle.survey.proofs.Strides.{kind_of, reads_kind}
use Rattle.runs.specs.declared.Mark.{Mark}
use Rattle.runs.specs.declared.Pace.{Pace}
use Rattle.runs.specs.declared.Pace.TheVariants.{Running, Idling, Finished}
use Rattle.runs.specs.declared.Place.{Place}
use Rattle.runs.specs.declared.Port.{Port}
use Rattle.runs.specs.declared.Core.{Core}
use Rattle.runs.specs.Flat.{nil_mark, nil_place, nil_port, first_mark, head_of_core, pace_at, state_of}
use Rattle.runs.specs.Kept.{room, entries_needed, samples_needed, Held, Laid, Missed, Small}
use Rattle.runs.specs.Leaves.{Leaves}
use Rattle.runs.specs.Views.{Apart, Declares, DeclaresForTurns, Leveled, Paced, Runs, TabledForTurns, ThreadView, Unless, size_of_port}
use Rattle.runs.specs.Memory.{Memory, StandsFor, account, changing, end_fits, mark_levels, pace_of}
use Rattle.runs.proofs.Marks.{leveled_length}
use Rattle.runs.proofs.Stored.{room_part, room_same}

-- The arrays of a run have their lengths.
abbrev pub Whole : Core → Type 0
Whole c = (length c.cells ≡ 64) × (length c.threads ≡ 8) × (length c.tracks ≡ 8) × (length c.channels ≡ 8)

-- What a run keeps.
pub record Keeps (c : Core) : Type 0 where
  pub small : Small c
  pub tracks : Laid c.tracks c.head.tracks
  pub fed : Held c.tracks c.head.tracks
  pub channels : Laid c.channels c.head.channels
  pub put : Held c.channels c.head.channels
  pub missed : Missed c
  pub whole : Whole c

-- Parts that lie one behind the other are apart.
pub laid_apart : (ps : List Port) (n : ℕ) → Laid ps n → (h j : ℕ) → h < n → j < n → h ≢ j → Apart (get_or ps h nil_port) (get_or ps j nil_port)
laid_apart ps n laid h j lh lj ne = ⊎_elim
    (λ (less : h < j). inl (omega (arith, laid h lh, laid j lj, room_part ps h j less)))
    (λ (ge : j ≤ h). let less : j < h = omega arith in inr (omega (arith, laid h lh, laid j lj, room_part ps j h less)))
    (cases_lt h j)

-- Levels of blocks

leveled_from : (ms : List Mark) (b d : ℕ) (os : List Open) → mark_levels ms b d ≡ contexts os → Leveled ms b d os
leveled_from ms b zero [] e = tt
leveled_from ms b zero (o ∷ os) e = let z : ◌≡◌ {A = ℕ} 0 1 = cc in absurd (omega arith)
leveled_from ms b (suc d) [] e = let z : ◌≡◌ {A = ℕ} 0 1 = cc in absurd (omega arith)
leveled_from ms b (suc d) (o ∷ os) e =
    let here : (get_or ms (b + d) nil_mark).level ≡ context (o ∷ os) = cc in
    let there : mark_levels ms b d ≡ contexts os = cc in
    (here, leveled_from ms b d os there)

leveled_to : (ms : List Mark) (b d : ℕ) (os : List Open) → Leveled ms b d os → mark_levels ms b d ≡ contexts os
leveled_to ms b zero [] l = refl
leveled_to ms b zero (o ∷ os) l = absurd l
leveled_to ms b (suc d) [] l = absurd l
leveled_to ms b (suc d) (o ∷ os) l = λ i. l.0 i ∷ leveled_to ms b d os l.1 i

-- Paces

ended_pace : (f : Frame) → pace_at (kind_of f) ≡ cond (is_thread_end f) Finished Running
ended_pace (header h) = refl
ended_pace (track i l z) = refl
ended_pace (channel i l z) = refl
ended_pace (thread i) = refl
ended_pace thread_end = refl
ended_pace Frame.skip = refl
ended_pace (Frame.assign x e) = refl
ended_pace (Frame.put h e) = refl
ended_pace (if e) = refl
ended_pace else = refl
ended_pace end_if = refl
ended_pace (while e) = refl
ended_pace end_while = refl
ended_pace (with m e) = refl
ended_pace end_with = refl
ended_pace (last m) = refl

not_true : (b : Bool) → T (not b) → b ≡ false
not_true true t = absurd t
not_true false t = refl

-- The pace in memory is the machine's.
paced_from : (f : Frame) (kd : Kind) (p : Pace) (t : ModelPace) → kd ≡ kind_of f → pace_of p ≡ t → T (end_fits f p) → Paced p kd t
paced_from f kd Running running k e h = sym (ap pace_at k ∙ ended_pace f ∙ ap (λ (b : Bool). cond b Finished Running) (not_true (is_thread_end f) h))
paced_from f kd Running (idling n) k e h = let z : ◌≡◌ {A = ℕ} 0 1 = cc in absurd (omega arith)
paced_from f kd (Idling m) running k e h = let z : ◌≡◌ {A = ℕ} 0 1 = cc in absurd (omega arith)
paced_from f kd (Idling m) (idling n) k e h = let q : m ≡ n = cc in ap Idling q
paced_from f kd Finished running k e h = sym (ap pace_at k ∙ ended_pace f ∙ ap (λ (b : Bool). cond b Finished Running) (is_true (is_thread_end f) h))
paced_from f kd Finished (idling n) k e h = let z : ◌≡◌ {A = ℕ} 0 1 = cc in absurd (omega arith)

paced_to : (f : Frame) (kd : Kind) (p : Pace) (t : ModelPace) → kd ≡ kind_of f → Paced p kd t → (pace_of p ≡ t) × T (end_fits f p)
paced_to f kd p running k e = let P : Pace → Type 0 = λ q. (pace_of q ≡ running) × T (end_fits f q) in subst P (sym (e ∙ ap pace_at k ∙ ended_pace f)) (go (is_thread_end f) refl)
  where
    go : (b : Bool) → is_thread_end f ≡ b → (pace_of (cond b Finished Running) ≡ running) × T (end_fits f (cond b Finished Running))
    go true q = (refl, subst T (sym q) tt)
    go false q = (refl, subst (λ (x : Bool). T (not x)) (sym q) tt)
paced_to f kd p (idling n) k e = let P : Pace → Type 0 = λ q. (pace_of q ≡ idling n) × T (end_fits f q) in subst P (sym e) (refl, tt)

-- From memory that stands for a state to what the turn loop works on

so_unless : (b : Bool) {P : Type 0} → P → Unless b P
so_unless true x = tt
so_unless false x = x

for_turns : {h : Head} {code : List ℕ} {table : List Step} {fs : List Frame} → Tabled h code table fs → TabledForTurns h code table fs
for_turns {h} {code} {table} {fs} t = record { here = λ p. so_unless (outer_first (drop p fs)) (t.here p); ways = t.ways; long = t.long; few = t.few }

module _ (kind : ℕ) (k : Levels) (m : Memory) (sc : Script) (s : State) (st : StandsFor kind k m sc s) where
  abbrev count_is : length sc.codes ≡ m.core.head.threads
  count_is = ap (λ h. h.threads) st.declares.head

  -- A thread of which memory has an account is valid.
  valid_thread : (i : ℕ) → i < length sc.codes → ValidThread (head_of sc) (get_or s.threads i ended)
  valid_thread i lt =
      let a = st.accounts.each i lt in
      let fit = places_fit.fits k sc i lt (account m.core m.marks i) (get_or s.threads i ended) a in
      let r = places_fit.rebuilt kind k sc st.valid i lt (account m.core m.marks i) fit in
      subst (ValidThread (head_of sc)) (places_fit.one k (script_frames sc) (behind_thread sc i) (behind_thread sc i) (account m.core m.marks i) r.0 (get_or s.threads i ended) r.1 a).0 r.2

  module _ (table : List Step) (tabled : Tabled (head_of sc) m.script table (script_frames sc)) where
    view : (i : ℕ) → i < length sc.codes → ThreadView (head_of_core m.core) (script_frames sc) (behind_thread sc i) table m.marks i (get_or m.core.threads i nil_place) (get_or s.threads i ended)
    view i lt =
        let a = st.accounts.each i lt in
        let p = get_or m.core.threads i nil_place in
        let t = get_or s.threads i ended in
        let leveled = leveled_from m.marks (first_mark i) p.depth t.inside a.levels in
        let valid = valid_thread i lt in
        let long = leveled_length m.marks (first_mark i) p.depth t.inside leveled in
        let shallow = places_agree.depth (head_of sc) t valid in
        record {
          stands = a.stands;
          leveled = leveled;
          paced = paced_from (frame_at (script_frames sc) p.at) (step_at_place table p.at).kind p.pace t.pace (reads_kind (head_of sc) m.script p.at (step_at_place table p.at) (script_frames sc) p.at (tabled.here p.at)) a.pace (st.ends i lt);
          idles = a.idles;
          valid = subst (λ (h : Head). ValidThread h t) st.declares.head valid;
          deep = omega arith;
        }

    pub stands_runs : Keeps m.core → Runs sc (behind_thread sc) table m.script m.samples (changing m) s
    stands_runs keeps =
        let c = m.core in
        let sample-long = st.long.samples in
        let entry-long = st.long.entries in
        let tracks-few = keeps.small.0 in
        record {
          ts = s.threads;
          is = st.is;
          counted = refl;
          fed = λ t lt. (
            omega (arith, keeps.tracks t lt, keeps.fed t lt, room_part c.tracks t c.head.tracks lt),
            omega (arith, keeps.fed t lt, room_part c.tracks t c.head.tracks lt),
          );
          views = record {
            tabled = subst (λ (h : Head). TabledForTurns h m.script table (script_frames sc)) st.declares.head (for_turns tabled);
            declares = record {
              variables = ap (λ h. h.variables) st.declares.head;
              track_levels = st.declares.track_levels;
              channel_levels = st.declares.channel_levels;
              channel_sizes = st.declares.channel_sizes;
            };
            cells = keeps.whole.0;
            places = keeps.whole.1;
            ports = keeps.whole.3;
            room = st.long.marks;
            count = st.accounts.long ∙ count_is;
            turns = keeps.small.2;
            parts = λ h lt. record {
              part = omega (arith, keeps.channels h lt, room_part c.channels h c.head.channels lt);
              held = keeps.put h lt;
              missed = keeps.missed h lt;
            };
            apart = laid_apart c.channels c.head.channels keeps.channels;
            threads = λ j lt. view j (omega (arith, count_is));
          };
        }

-- And back

module _ (kind : ℕ) (k : Levels) (m m' : Memory) (sc : Script) (s s' : State) (st : StandsFor kind k m sc s) (table : List Step) (tabled : Tabled (head_of sc) m.script table (script_frames sc))
    (script-is : m'.script ≡ m.script) (samples_are : m'.samples ≡ m.samples) (leaves : Leaves (changing m) (changing m')) where
  abbrev entries_held : entries_needed m'.core ≡ entries_needed m.core
  entries_held = (λ i. room m'.core.channels (leaves.head i).channels) ∙ room_same m.core.channels m'.core.channels m.core.head.channels (λ h. (leaves.ports h).size)

  abbrev samples_held : samples_needed m'.core ≡ samples_needed m.core
  samples_held = λ i. room (leaves.tracks i) (leaves.head i).tracks

  -- The header, the tracks and the sizes of channels are as they were, so the script declares what the run has.
  still_declares : DeclaresForTurns sc m'.core → Declares sc m'.core
  still_declares d = record {
    head = st.declares.head ∙ ap as_head (sym leaves.head);
    track_levels = d.track_levels;
    track_sizes = st.declares.track_sizes ∙ (λ i. map size_of_port (take (sym leaves.head i).tracks (sym leaves.tracks i)));
    channel_levels = d.channel_levels;
    channel_sizes = d.channel_sizes;
  }

  pub runs_stands : Runs sc (behind_thread sc) table m.script m.samples (changing m') s' → CodedRun k s' → StandsFor kind k m' sc s'
  runs_stands r coded =
      let v = r.views in
      let c = m'.core in
      let same : s'.threads ≡ r.ts = ap (λ (x : State). x.threads) r.is in
      let count : length sc.codes ≡ c.head.threads = ap (λ h. h.threads) (still_declares v.declares).head in
      let kinds : (p : Place) → (step_at_place table p.at).kind ≡ kind_of (frame_at (script_frames sc) p.at) = λ p. reads_kind (head_of sc) m.script p.at (step_at_place table p.at) (script_frames sc) p.at (tabled.here p.at) in
      let views : (i : ℕ) → i < length sc.codes → ThreadView (head_of_core c) (script_frames sc) (behind_thread sc i) table m'.marks i (get_or c.threads i nil_place) (get_or s'.threads i ended) =
      λ i lt. subst (λ (ts : List Thread). ThreadView (head_of_core c) (script_frames sc) (behind_thread sc i) table m'.marks i (get_or c.threads i nil_place) (get_or ts i ended)) (sym same) (v.threads i (omega arith)) in
      let entry-long = st.long.entries in
      let sample-long = st.long.samples in
      let lengths = leaves.long_entries in
      record {
        valid = st.valid;
        holds = subst (λ (slab : List ℕ). Holds kind k slab (script_frames sc)) (sym script-is) st.holds;
        declares = still_declares v.declares;
        long = record {
          samples = omega (arith, samples_held, ap length samples_are);
          entries = omega (arith, entries_held);
          marks = v.room;
        };
        accounts = record {
          long = ap length same ∙ v.count ∙ sym count;
          each = λ i lt.
              let t = views i lt in
              let p = get_or c.threads i nil_place in
              record {
                stands = t.stands;
                levels = leveled_to m'.marks (first_mark i) p.depth _ t.leveled;
                coded = coded.branches i;
                pace = (paced_to (frame_at (script_frames sc) p.at) (step_at_place table p.at).kind p.pace _ (kinds p) t.paced).0;
                idles = t.idles;
              };
        };
        ends = λ i lt. let p = get_or c.threads i nil_place in (paced_to (frame_at (script_frames sc) p.at) (step_at_place table p.at).kind p.pace _ (kinds p) (views i lt).paced).1;
        coded = coded;
        is = r.is ∙ (λ i. state_of c (sym samples_are i) m'.entries (sym same i));
      }

  -- What a run keeps.
  pub runs_keeps : Keeps m.core → Runs sc (behind_thread sc) table m.script m.samples (changing m') s' → Keeps m'.core
  runs_keeps keeps r =
      let c = m.core in
      let c' = m'.core in
      let head = leaves.head in
      let laid : Laid c'.channels c'.head.channels = λ h lt.
      let g = leaves.ports h in
      g.start ∙ keeps.channels h (omega (arith, ap (λ x. x.channels) head)) ∙ sym (room_same c.channels c'.channels h (λ j. (leaves.ports j).size)) in
      record {
        small = (omega (arith, samples_held, keeps.small.0), omega (arith, entries_held, keeps.small.1), r.views.turns);
        tracks = subst (λ (ps : List Port). Laid ps c'.head.tracks) (sym leaves.tracks) (λ h lt. keeps.tracks h (omega (arith, ap (λ x. x.tracks) head)));
        fed = subst (λ (ps : List Port). Held ps c'.head.tracks) (sym leaves.tracks) (λ h lt. keeps.fed h (omega (arith, ap (λ x. x.tracks) head)));
        channels = laid;
        put = λ h lt. (r.views.parts h lt).held;
        missed = λ h lt. (r.views.parts h lt).missed;
        whole = (r.views.cells, r.views.places, ap length leaves.tracks ∙ keeps.whole.2, r.views.ports);
      }

-- Levels stay codes

had : (k : Levels) (ls : List ℕ) → AllByRecursion (λ l. T (k.has l)) ls → T (all_had k ls)
had k [] a = tt
had k (l ∷ ls) a = both (k.has l) (all_had k ls) a.0 (had k ls a.1)

pub levelled : (kind : ℕ) (k : Levels) (sc : Script) → ValidScript kind k sc → Levelled k sc
levelled kind k sc v = record { track_codes = had k sc.track_levels v.track_levels; channel_codes = had k sc.channel_levels v.channel_levels }

module _ (k : Levels) (sc : Script) (lawful : Lawful k) (codes : Levelled k sc) where
  coded_turn : (s : State) (o : Perhaps ℕ) → CodedRun k s → CodedRun k (take_turn (rules k sc) s o)
  coded_turn s none h = record { cells = h.cells; branches = h.branches }
  coded_turn s (some i) h = let after = places_fit.stays_coded k sc lawful codes s i h in record { cells = after.cells; branches = after.branches }

  pub coded_advance : {S : Type 0} (schedule : Meaning S) (n : ℕ) (s : State) (g : S) → CodedRun k s → CodedRun k (advance (rules k sc) schedule n s g).1
  coded_advance schedule zero s g h = h
  coded_advance {S} schedule (suc n) s g h =
      let told = schedule g (ready_set (rules k sc) s) in
      let next = take_turn (rules k sc) s told.0 in
      go (all_finished (rules k sc) s || eqb s.turns most_turns) (advance (rules k sc) schedule n next told.1) (coded_advance schedule n next told.1 (coded_turn s told.0 h))
    where
      go : (b : Bool) (later : ℕ × State × S) → CodedRun k later.1 → CodedRun k (cond {A = ℕ × State × S} b (0, s, g) (suc later.0, later.1, later.2)).1
      go true later x = h
      go false later x = x

-- No more turns are given than were asked for.
pub at_most : (r : Rules) {S : Type 0} (schedule : Meaning S) (n : ℕ) (s : State) (g : S) → (advance r schedule n s g).0 ≤ n
at_most r schedule zero s g = omega arith
at_most r {S} schedule (suc n) s g =
    let told = schedule g (ready_set r s) in
    let next = take_turn r s told.0 in
    go (all_finished r s || eqb s.turns most_turns) (advance r schedule n next told.1) (at_most r schedule n next told.1)
  where
    go : (b : Bool) (later : ℕ × State × S) → later.0 ≤ n → (cond {A = ℕ × State × S} b (0, s, g) (suc later.0, later.1, later.2)).0 ≤ suc n
    go true later x = omega arith
    go false later x = omega arith

-- Memory stands for one state only

same_frames : (fs gs : List Frame) → ((i : ℕ) → frame_number i fs ≡ frame_number i gs) → fs ≡ gs
same_frames [] [] e = refl
same_frames [] (g ∷ gs) e = let h = e 0 in let z : ◌≡◌ {A = ℕ} 0 1 = cc in absurd (omega arith)
same_frames (f ∷ fs) [] e = let h = e 0 in let z : ◌≡◌ {A = ℕ} 0 1 = cc in absurd (omega arith)
same_frames (f ∷ fs) (g ∷ gs) e = let h : some (whole f) ≡ some (whole g) = e 0 in let w : whole f ≡ whole g = cc in let q : f ≡ g = ap (λ r. r.frame) w in λ i. q i ∷ same_frames fs gs (λ j. e (suc j)) i

pub one_script : (kind : ℕ) (k : Levels) (slab : List ℕ) (sc sc' : Script) → ValidScript kind k sc → ValidScript kind k sc' → Holds kind k slab (script_frames sc) → Holds kind k slab (script_frames sc') → sc ≡ sc'
one_script kind k slab sc sc' v v' h h' =
    one_tree sc sc' (record { tracks = v.track_sizes; channels = v.channel_sizes }) (record { tracks = v'.track_sizes; channels = v'.channel_sizes })
    (same_frames (script_frames sc) (script_frames sc') (λ i. sym (frame_held kind k slab (script_frames sc) h i) ∙ frame_held kind k slab (script_frames sc') h' i))

pub one_state : (kind : ℕ) (k : Levels) (m : Memory) (sc sc' : Script) (s s' : State) → StandsFor kind k m sc s → StandsFor kind k m sc' s' → (sc ≡ sc') × (s ≡ s')
one_state kind k m sc sc' s s' a b =
    let same = one_script kind k m.script sc sc' a.valid b.valid a.holds b.holds in
    let there = subst (λ (x : Script). AllAccounts k x (account m.core m.marks) s.threads) same a.accounts in
    let threads = places_fit.all_one k sc' (account m.core m.marks) s.threads s'.threads there b.accounts in
    (same, a.is ∙ ap (state_of m.core m.samples m.entries) threads ∙ sym b.is)
