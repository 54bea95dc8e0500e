-- Feeding: the track that is fed has one sample more, the other tracks are as they were, and what memory stands for then is the machine's next state.
use Rattle.std.proofs.Common.{◌≡◌, ℕ, suc, ◌+◌, ◌<◌, ◌≤◌, true, ltb, ◌≢◌, List, [], ◌∷◌, ◌++◌, map, length, get_or, take, drop, set, ℤ, Ok, Err, Result, sym, refl, ap, ◌∙◌, subst, inl, inr, ⊎_elim, arith, length-drop, length-set, length-take-le, get_or-set_other, get_or-take, get_or-set_same, le-ltb, lt-ltb}
use lib.ListN.{get_or-map}
use lib.Seq.{map-set, map-set_same}
use Rattle.std.proofs.lemmas.Bool.{cases_eq, cases_order, cond-false, cond-true}
use Rattle.lattice.specs.Levels.{Levels}
use Rattle.scheduler.specs.Turns.{Meaning}
use Rattle.script.specs.Code.{Script}
use Rattle.script.specs.declared.faults.RunFault.{RunFault}
use Rattle.script.specs.declared.faults.RunFault.TheVariants.{NoState, NoSuch, TrackFull}
use Rattle.model.specs.Machine.{State, set_track}
use Rattle.model.specs.Calls.{Answer, perform}
use Rattle.model.specs.Calls.Call.{feed}
use Rattle.model.specs.Calls.Answer.{holds, refused}
use Rattle.model.specs.Calls.Refusal.{no_such, track_full}
use Rattle.runs.specs.declared.Mark.{Mark}
use Rattle.runs.specs.declared.Entry.{Entry}
use Rattle.runs.specs.declared.Port.{Port}
use Rattle.runs.specs.declared.Core.{Core}
use Rattle.runs.specs.Headers.{Few}
use Rattle.runs.proofs.Bounds.{with_few, same_run}
use Rattle.runs.specs.Flat.{nil_port, track_of, tracks_of, level_of_port}
use Rattle.runs.specs.Kept.{room, samples_needed, Laid, Held, NoPort, PortIn}
use Rattle.runs.specs.Views.{size_of_port}
use Rattle.runs.specs.Memory.{memory, StandsFor}
use Rattle.runs.specs.Answers.{told}
use Rattle.runs.specs.Calls.{fed_core, fed_samples, one_fed, Feeds}
use Rattle.runs.proofs.Raising.{take_set_in}
use Rattle.runs.proofs.Putting.{part_more, part_other, set_map_but}
use Rattle.runs.proofs.Readings.{track_at}
use Rattle.runs.proofs.Stored.{room_part, room_same}

-- A slot of a track or channel lies in what they hold together.
slot_inside : (ps : List Port) (n h i : ℕ) → Laid ps n → h < n → i < (get_or ps h nil_port).size → (get_or ps h nil_port).start + i < room ps n
slot_inside ps n h i laid below less = let part = room_part ps h n below in let at = laid h below in omega arith

module _ (ps : List Port) (n slots h : ℕ) (p : Port) (found : PortIn ps n slots h p) (laid : Laid ps n) where
  pub slot_in : (i : ℕ) → i < p.size → p.start + i < room ps n
  slot_in i = subst (λ (q : Port). i < q.size → q.start + i < room ps n) (sym found.is) (slot_inside ps n h i laid found.below)

  pub size_in : p.size ≤ room ps n
  size_in = subst (λ (q : Port). q.size ≤ room ps n) (sym found.is) (let part = room_part ps h n found.below in omega arith)

  pub held_in : Held ps n → p.count ≤ p.size
  held_in held = subst (λ (q : Port). q.count ≤ q.size) (sym found.is) (held h found.below)

-- One track or channel in another's place

module _ (ps : List Port) (h : ℕ) (p : Port) (within : h < length ps) where
  -- What two of them share, the lists with either share.
  pub field_same : (f : Port → ℕ) → f p ≡ f (get_or ps h nil_port) → (j : ℕ) → f (get_or (set ps h p) j nil_port) ≡ f (get_or ps j nil_port)
  field_same f same j = ⊎_elim
      (λ (e : j ≡ h).
      let R : ℕ → Type 0 = λ x. f (get_or (set ps h p) x nil_port) ≡ f (get_or ps x nil_port) in
      subst R (sym e) (ap f (get_or-set_same ps h p nil_port within) ∙ same))
      (λ (ne : j ≢ h). ap f (get_or-set_other ps h j p nil_port ne))
      (cases_eq j h)

  -- One of the same size: together they hold as much.
  pub room_kept : p.size ≡ (get_or ps h nil_port).size → (n : ℕ) → room (set ps h p) n ≡ room ps n
  room_kept same n = room_same ps (set ps h p) n (field_same size_of_port same)

  -- One that begins at the same slot and is of the same size: each still lies behind those before it.
  pub laid_same : p.size ≡ (get_or ps h nil_port).size → p.start ≡ (get_or ps h nil_port).start → (n : ℕ) → Laid ps n → Laid (set ps h p) n
  laid_same size start n laid j lt = field_same (λ q. q.start) start j ∙ laid j lt ∙ sym (room_kept size j)

  -- One that holds no more than its part.
  pub held_same : p.count ≤ p.size → (n : ℕ) → Held ps n → Held (set ps h p) n
  held_same fits n held j lt = ⊎_elim
      (λ (e : j ≡ h).
      let P : Port → Type 0 = λ q. q.count ≤ q.size in
      let R : ℕ → Type 0 = λ x. (get_or (set ps h p) x nil_port).count ≤ (get_or (set ps h p) x nil_port).size in
      subst R (sym e) (subst P (sym (get_or-set_same ps h p nil_port within)) fits))
      (λ (ne : j ≢ h). let P : Port → Type 0 = λ q. q.count ≤ q.size in subst P (sym (get_or-set_other ps h j p nil_port ne)) (held j lt))
      (cases_eq j h)

-- A field that two of the first n share.
pub fields_same : (f : Port → ℕ) (n : ℕ) (ps : List Port) (h : ℕ) (p : Port) → h < n → f p ≡ f (get_or ps h nil_port) → map f (take n (set ps h p)) ≡ map f (take n ps)
fields_same f n ps h p lt same =
    ap (map f) (take_set_in n ps h p) ∙ map-set_same f (take n ps) h p nil_port (same ∙ ap f (sym (get_or-take n ps h nil_port lt)))

-- A track that is fed

module _ (n : ℕ) (ps : List Port) (ss : List ℤ) (t : ℕ) (z : ℤ) (few : n ≤ length ps) (laid : Laid ps n) (held : Held ps n) (long : room ps n ≤ length ss) (below : t < n) where
  abbrev port : Port
  port = get_or ps t nil_port

  module _ (free : port.count < port.size) where
    -- Its samples are one more.
    track-fed : track_of (set ss (port.start + port.count) z) (one_fed port) ≡ track_of ss port ++ (z ∷ [])
    track-fed =
        let inside = slot_inside ps n t port.count laid below free in
        part_more ss z port.start port.count (omega arith)

    -- Another's are as they were.
    track-other : (j : ℕ) → j < n → j ≢ t → track_of (set ss (port.start + port.count) z) (get_or ps j nil_port) ≡ track_of ss (get_or ps j nil_port)
    track-other j lt ne =
        let q = get_or ps j nil_port in
        let at = laid t below in
        let there = laid j lt in
        let fits = held j lt in
        part_other ss z q.start q.count (port.start + port.count)
        (⊎_elim (λ (e : j ≡ t). absurd (ne e))
        (λ o. ⊎_elim
        (λ (less : j < t). let before = room_part ps j t less in inr (omega arith))
        (λ (more : t < j). let before = room_part ps t j more in inl (omega arith)) o)
        (cases_order j t))

    -- All of them.
    pub tracks_fed : map (track_of (set ss (port.start + port.count) z)) (take n (set ps t (one_fed port))) ≡ set (map (track_of ss) (take n ps)) t (track_of ss port ++ (z ∷ []))
    tracks_fed =
        let ss' = set ss (port.start + port.count) z in
        let cut : length (take n ps) ≡ n = length-take-le n ps few in
        ap (map (track_of ss')) (take_set_in n ps t (one_fed port))
        ∙ map-set (track_of ss') (take n ps) t (one_fed port)
        ∙ ap (set (map (track_of ss') (take n ps)) t) track-fed
        ∙ set_map_but (track_of ss') (track_of ss) (take n ps) nil_port t _
        (λ j lt ne.
        let jn : j < n = omega arith in
        let P : Port → Type 0 = λ q. track_of ss' q ≡ track_of ss q in
        subst P (sym (get_or-take n ps j nil_port jn)) (track-other j jn ne))

-- What a run stands for

module _ (kind : ℕ) (k : Levels) (c : Core) (script : List ℕ) (samples : List ℤ) (entries : List Entry) (marks : List Mark) (sc : Script) (s : State)
    (stands : StandsFor kind k (memory c script samples entries marks) sc s) where
  -- The script has as many tracks as the run.
  pub tracks_counted : length sc.track_levels ≡ c.head.tracks
  tracks_counted = ap (λ h. h.tracks) stands.declares.head

  module _ (t : ℕ) (below : t < c.head.tracks) where
    -- The size of a track.
    pub size_declared : get_or sc.track_sizes t 0 ≡ (get_or c.tracks t nil_port).size
    size_declared =
        ap (λ (ns : List ℕ). get_or ns t 0) stands.declares.track_sizes
        ∙ get_or-map size_of_port (take c.head.tracks c.tracks) t nil_port
        ∙ ap size_of_port (get_or-take c.head.tracks c.tracks t nil_port below)

    -- What was fed to it.
    pub samples_held : get_or s.tracks t [] ≡ track_of samples (get_or c.tracks t nil_port)
    samples_held = ap (λ (x : State). get_or x.tracks t []) stands.is ∙ track_at c samples t below

    -- How many samples that is.
    pub samples_counted : Laid c.tracks c.head.tracks → Held c.tracks c.head.tracks → length (get_or s.tracks t []) ≡ (get_or c.tracks t nil_port).count
    samples_counted laid held =
        let q = get_or c.tracks t nil_port in
        let part = room_part c.tracks t c.head.tracks below in
        let at = laid t below in
        let fits = held t below in
        let long = stands.long.samples in
        let left = length-drop q.start samples in
        ap length samples_held ∙ length-take-le q.count (drop q.start samples) (omega arith)

-- The machine's answers

module _ (k : Levels) {S : Type 0} (schedule : Meaning S) (t : ℕ) (z : ℤ) (sc : Script) (s : State) (g : S) where
  no_track : length sc.track_levels ≤ t → perform k sc schedule (feed true t z) s g ≡ (refused no_such, s, g)
  unfolding perform
  no_track past = cond-false (ltb t (length sc.track_levels)) _ _ (le-ltb t (length sc.track_levels) past)

  module _ (below : t < length sc.track_levels) where
    full-track : get_or sc.track_sizes t 0 ≤ length (get_or s.tracks t []) → perform k sc schedule (feed true t z) s g ≡ (refused track_full, s, g)
    unfolding perform
    full-track full =
        cond-true (ltb t (length sc.track_levels)) _ _ (lt-ltb t (length sc.track_levels) below)
        ∙ cond-false (ltb (length (get_or s.tracks t [])) (get_or sc.track_sizes t 0)) _ _ (le-ltb (length (get_or s.tracks t [])) (get_or sc.track_sizes t 0) full)

    free-track : length (get_or s.tracks t []) < get_or sc.track_sizes t 0
        → perform k sc schedule (feed true t z) s g ≡ (holds (suc (length (get_or s.tracks t []))), set_track s t (get_or s.tracks t [] ++ (z ∷ [])), g)
    unfolding perform
    free-track free =
        cond-true (ltb t (length sc.track_levels)) _ _ (lt-ltb t (length sc.track_levels) below)
        ∙ cond-true (ltb (length (get_or s.tracks t [])) (get_or sc.track_sizes t 0)) _ _ (lt-ltb (length (get_or s.tracks t [])) (get_or sc.track_sizes t 0) free)

-- What each answer promises

module _ (kind : ℕ) (k : Levels) {S : Type 0} (schedule : Meaning S) (t : ℕ) (z : ℤ) (c : Core) (g g' : S) (same : g' ≡ g) (samples : List ℤ) (long : samples_needed c ≤ length samples) where
  -- The answer and the state that it leaves, by the machine's.
  did_by : (r : Result ℕ RunFault) (c' : Core) (samples' : List ℤ) (script : List ℕ) (entries : List Entry) (marks : List Mark) (sc : Script) (s s' : State) (a : Answer)
      → perform k sc schedule (feed true t z) s g ≡ (a, s', g) → r ≡ told a → StandsFor kind k (memory c' script samples' entries marks) sc s'
      → (r ≡ told (perform k sc schedule (feed true t z) s g).0) × StandsFor kind k (memory c' script samples' entries marks) sc (perform k sc schedule (feed true t z) s g).1
  did_by r c' samples' script entries marks sc s s' a does is stands =
      let P : Answer × State × S → Type 0 = λ p. (r ≡ told p.0) × StandsFor kind k (memory c' script samples' entries marks) sc p.1 in
      subst P (sym does) (is, stands)

  -- No such track.
  fed_none : c.head.tracks ≤ t → Feeds kind k schedule t z c g samples c g' samples (Err NoSuch)
  fed_none past = record {
    answer = sym (cond-false (ltb (length samples) (samples_needed c)) _ _ (le-ltb (length samples) (samples_needed c) long) ∙ cond-false (ltb t c.head.tracks) _ _ (le-ltb t c.head.tracks past));
    leaves = (refl, refl);
    scheduler = same;
    did = λ script entries marks sc s stands.
        let counted = tracks_counted kind k c script samples entries marks sc s stands in
        did_by (Err NoSuch) c samples script entries marks sc s s (refused no_such) (no_track k schedule t z sc s g (omega arith)) refl stands;
  }

  module _ (few : c.head.tracks ≤ length c.tracks) (laid : Laid c.tracks c.head.tracks) (held : Held c.tracks c.head.tracks) (below : t < c.head.tracks) where
    abbrev fed-port : Port
    fed-port = get_or c.tracks t nil_port

    -- A track that is full.
    fed_full : fed-port.size ≤ fed-port.count → Feeds kind k schedule t z c g samples c g' samples (Err TrackFull)
    fed_full full = record {
      answer = sym
          (cond-false (ltb (length samples) (samples_needed c)) _ _ (le-ltb (length samples) (samples_needed c) long)
          ∙ cond-true (ltb t c.head.tracks) _ _ (lt-ltb t c.head.tracks below)
          ∙ cond-false (ltb fed-port.count fed-port.size) _ _ (le-ltb fed-port.count fed-port.size full));
      leaves = (refl, refl);
      scheduler = same;
      did = λ script entries marks sc s stands.
          let counted = tracks_counted kind k c script samples entries marks sc s stands in
          let sized = size_declared kind k c script samples entries marks sc s stands t below in
          let holding = samples_counted kind k c script samples entries marks sc s stands t below laid held in
          did_by (Err TrackFull) c samples script entries marks sc s s (refused track_full) (full-track k schedule t z sc s g (omega arith) (omega arith)) refl stands;
    }

    module _ (free : fed-port.count < fed-port.size) where
      -- What memory stands for after one sample more.
      stands-fed : (script : List ℕ) (entries : List Entry) (marks : List Mark) (sc : Script) (s : State) → StandsFor kind k (memory c script samples entries marks) sc s
          → StandsFor kind k (memory (fed_core c t) script (fed_samples c t z samples) entries marks) sc (set_track s t (get_or s.tracks t [] ++ (z ∷ [])))
      stands-fed script entries marks sc s stands =
          let d = stands.declares in
          let l = stands.long in
          let within : t < length c.tracks = omega arith in
          let same-room = room_kept c.tracks t (one_fed fed-port) within refl c.head.tracks in
          let same_length = length-set samples (fed-port.start + fed-port.count) z in
          let holding = samples_held kind k c script samples entries marks sc s stands t below in
          let tracks : set s.tracks t (get_or s.tracks t [] ++ (z ∷ [])) ≡ tracks_of (fed_core c t) (fed_samples c t z samples) =
          (λ i. set (stands.is i).tracks t (holding i ++ (z ∷ [])))
          ∙ sym (tracks_fed c.head.tracks c.tracks samples t z few laid held long below free) in
          record {
            valid = stands.valid;
            holds = stands.holds;
            declares = record {
              head = d.head;
              track_levels = d.track_levels ∙ sym (fields_same level_of_port c.head.tracks c.tracks t (one_fed fed-port) below refl);
              track_sizes = d.track_sizes ∙ sym (fields_same size_of_port c.head.tracks c.tracks t (one_fed fed-port) below refl);
              channel_levels = d.channel_levels;
              channel_sizes = d.channel_sizes;
            };
            long = record { samples = omega arith; entries = l.entries; marks = l.marks };
            accounts = record { long = stands.accounts.long; each = stands.accounts.each };
            ends = stands.ends;
            coded = record { cells = stands.coded.cells; branches = stands.coded.branches };
            is = λ i. record { cells = (stands.is i).cells; threads = s.threads; tracks = tracks i; channels = (stands.is i).channels; turns = (stands.is i).turns };
          }

      -- One sample more.
      fed-one : Feeds kind k schedule t z c g samples (fed_core c t) g' (fed_samples c t z samples) (Ok (fed-port.count + 1))
      fed-one = record {
        answer = sym
            (cond-false (ltb (length samples) (samples_needed c)) _ _ (le-ltb (length samples) (samples_needed c) long)
            ∙ cond-true (ltb t c.head.tracks) _ _ (lt-ltb t c.head.tracks below)
            ∙ cond-true (ltb fed-port.count fed-port.size) _ _ (lt-ltb fed-port.count fed-port.size free));
        leaves = (refl, refl);
        scheduler = same;
        did = λ script entries marks sc s stands.
            let counted = tracks_counted kind k c script samples entries marks sc s stands in
            let sized = size_declared kind k c script samples entries marks sc s stands t below in
            let holding = samples_counted kind k c script samples entries marks sc s stands t below laid held in
            let one : fed-port.count + 1 ≡ suc (length (get_or s.tracks t [])) = omega arith in
            did_by (Ok (fed-port.count + 1)) (fed_core c t) (fed_samples c t z samples) script entries marks sc s (set_track s t (get_or s.tracks t [] ++ (z ∷ []))) (holds (suc (length (get_or s.tracks t []))))
            (free-track k schedule t z sc s g (omega arith) (omega arith)) (ap (λ (n : ℕ). Ok n) one) (stands-fed script entries marks sc s stands);
      }

      -- The same where the sample is known by another term, and the bounds by another proof.
      fed_one_as : (y : ℤ) (f : Few c.head) → y ≡ z → Feeds kind k schedule t z c g samples (with_few (fed_core c t) f) g' (fed_samples c t y samples) (Ok (fed-port.count + 1))
      fed_one_as y f is =
          let P : ℤ → Type 0 = λ x. Feeds kind k schedule t z c g samples (fed_core c t) g' (fed_samples c t x samples) (Ok (fed-port.count + 1)) in
          let Q : Core → Type 0 = λ x. Feeds kind k schedule t z c g samples x g' (fed_samples c t y samples) (Ok (fed-port.count + 1)) in
          subst Q (sym (same_run (fed_core c t) f)) (subst P (sym is) fed-one)

-- By the test that the calls share

-- Track t with this many samples and one more.
abbrev pub counted : Core → ℕ → ℕ → Port
counted c t n = let q = get_or c.tracks t nil_port in record { level = q.level; start = q.start; size = q.size; count = n + 1; missed = q.missed }

abbrev pub fed_run : (c : Core) → ℕ → ℕ → Few c.head → Core
fed_run c t n f = record { head = c.head; cells = c.cells; threads = c.threads; tracks = set c.tracks t (counted c t n); channels = c.channels; turns = c.turns; few = f }

module _ (kind : ℕ) (k : Levels) {S : Type 0} (schedule : Meaning S) (t : ℕ) (z : ℤ) (c : Core) (g g' : S) (same : g' ≡ g) (samples : List ℤ) where
  pub fed_missing : (e : RunFault) → NoPort c.tracks c.head.tracks (length samples) t e → Feeds kind k schedule t z c g samples c g' samples (Err e)
  fed_missing e none = ⊎_elim
      (λ (short : (length samples < samples_needed c) × (e ≡ NoState)).
      subst (λ (f : RunFault). Feeds kind k schedule t z c g samples c g' samples (Err f)) (sym short.1) (record {
        answer = sym (cond-true (ltb (length samples) (samples_needed c)) _ _ (lt-ltb (length samples) (samples_needed c) short.0));
        leaves = (refl, refl);
        scheduler = same;
        did = λ script entries marks sc s stands. let long = stands.long.samples in let less = short.0 in absurd (omega arith);
      }))
      (λ (past : (samples_needed c ≤ length samples) × (c.head.tracks ≤ t) × (e ≡ NoSuch)).
      subst (λ (f : RunFault). Feeds kind k schedule t z c g samples c g' samples (Err f)) (sym past.2) (fed_none kind k schedule t z c g g' same samples past.0 past.1))
      none

  module _ (p : Port) (found : PortIn c.tracks c.head.tracks (length samples) t p) (many : c.head.tracks ≤ length c.tracks) (laid : Laid c.tracks c.head.tracks) (held : Held c.tracks c.head.tracks) where
    pub fed_beyond : p.size ≤ p.count → Feeds kind k schedule t z c g samples c g' samples (Err TrackFull)
    fed_beyond full = fed_full kind k schedule t z c g g' same samples found.enough many laid held found.below (subst (λ (q : Port). q.size ≤ q.count) found.is full)

    pub fed_found : p.count < p.size → (y : ℤ) (f : Few c.head) → y ≡ z → Feeds kind k schedule t z c g samples (fed_run c t p.count f) g' (set samples (p.start + p.count) y) (Ok (p.count + 1))
    fed_found free y f is =
        subst (λ (q : Port). Feeds kind k schedule t z c g samples (fed_run c t q.count f) g' (set samples (q.start + q.count) y) (Ok (q.count + 1))) (sym found.is)
        (fed_one_as kind k schedule t z c g g' same samples found.enough many laid held found.below (subst (λ (q : Port). q.count < q.size) found.is free) y f is)
