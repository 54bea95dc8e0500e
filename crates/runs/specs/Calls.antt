-- What each call on a run promises: the answer, and what the run and every slab then hold.
use Rattle.std.specs.Prelude.{◌≡◌, ℕ, ◌+◌, ◌≤◌, true, cond, List, length, get_or, replicate, ℤ, pos, IfErr, Ok, Err, Result, nat_lt, slice_index_or, slice_set}
use Rattle.lattice.specs.Levels.{Levels}
use Rattle.scheduler.specs.Turns.{Meaning}
use Rattle.script.specs.Code.{Script}
use Rattle.script.specs.Slabs.{Holds}
use Rattle.script.specs.Trees.{script_frames, total, ValidScript}
use Rattle.script.specs.declared.faults.RunFault.{RunFault}
use Rattle.script.specs.declared.faults.RunFault.TheVariants.{NoState, NoSuch, TrackFull}
use Rattle.model.specs.Machine.{State}
use Rattle.model.specs.Calls.{begin, perform}
use Rattle.model.specs.Calls.Call.{feed, advance_by, count, entry}
use Rattle.runs.specs.declared.Mark.{Mark}
use Rattle.runs.specs.declared.Entry.{Entry}
use Rattle.runs.specs.declared.Count.{Count}
use Rattle.runs.specs.declared.Port.{Port}
use Rattle.runs.specs.declared.Core.{Core}
use Rattle.runs.specs.Flat.{nil_entry, nil_mark, nil_port}
use Rattle.runs.specs.Kept.{entries_needed, samples_needed}
use Rattle.runs.specs.Leaves.{Leaves}
use Rattle.runs.specs.Memory.{Memory, memory, changing, StandsFor}
use Rattle.runs.specs.Declaring.{InSlab}
use Rattle.runs.specs.Answers.{told, told_count, told_entry}

-- Making

-- The slabs of samples, entries and open blocks are long enough for a script.
pub record Enough (sc : Script) (samples : List ℤ) (entries : List Entry) (marks : List Mark) : Type 0 where
  pub for_samples : total sc.track_sizes ≤ length samples
  pub for_entries : total sc.channel_sizes ≤ length entries
  pub for_marks : 128 ≤ length marks

module _ (kind : ℕ) (k : Levels) {S : Type 0} where
  -- A run that was made: the slab holds a script, the other slabs are long enough for it, it and the slabs stand for its beginning, and samples,
  -- entries and open blocks are zero.
  pub record Made (script : List ℕ) (samples samples' : List ℤ) (entries entries' : List Entry) (marks marks' : List Mark) (g : S) (c : Core) (h : S) : Type 0 where
    pub made_of : Script
    pub held : InSlab kind k script made_of
    pub enough : Enough made_of samples entries marks
    pub begins : (sc : Script) → ValidScript kind k sc → Holds kind k script (script_frames sc) → StandsFor kind k (memory c script samples' entries' marks') sc (begin sc)
    pub scheduler : h ≡ g
    pub zero_samples : samples' ≡ replicate (length samples) (pos 0)
    pub zero_entries : entries' ≡ replicate (length entries) nil_entry
    pub zero_marks : marks' ≡ replicate (length marks) nil_mark

-- No run: 9, because the slab holds no script of the kind or another slab is too short for it, and nothing changes.
pub record NotMade (kind : ℕ) (k : Levels) (script : List ℕ) (samples samples' : List ℤ) (entries entries' : List Entry) (marks marks' : List Mark) (e : RunFault) : Type 0 where
  pub is : e ≡ NoState
  pub lacks : (sc : Script) → ValidScript kind k sc → Holds kind k script (script_frames sc) → Enough sc samples entries marks → ⊥
  pub same_samples : samples' ≡ samples
  pub same_entries : entries' ≡ entries
  pub same_marks : marks' ≡ marks

-- Feeding

-- The answer: 9 for a slab that is too short, then 10 for no such track, 11 for a full one, else how many samples the track then holds.
abbrev pub fed_answer : Core → List ℤ → ℕ → Result ℕ RunFault
fed_answer c samples t =
    let q = get_or c.tracks t nil_port in
    cond (nat_lt (length samples) (samples_needed c)) (Err NoState)
    (cond (nat_lt t c.head.tracks) (cond (nat_lt q.count q.size) (Ok (q.count + 1)) (Err TrackFull)) (Err NoSuch))

-- A port with one sample more.
abbrev pub one_fed : Port → Port
one_fed q = record { level = q.level; start = q.start; size = q.size; count = q.count + 1; missed = q.missed }

-- A run with one sample more on track t.
abbrev pub fed_core : Core → ℕ → Core
fed_core c t = record { head = c.head; cells = c.cells; threads = c.threads; tracks = slice_set c.tracks t (one_fed (slice_index_or c.tracks t nil_port)); channels = c.channels; turns = c.turns; few = c.few }

-- The samples with one more on track t.
abbrev pub fed_samples : Core → ℕ → ℤ → List ℤ → List ℤ
fed_samples c t z samples = let q = get_or c.tracks t nil_port in slice_set samples (q.start + q.count) z

-- What a call leaves of the run and the samples: one more, or all as it was.
abbrev pub Fed : Core → ℕ → ℤ → List ℤ → Core → List ℤ → Result ℕ RunFault → Type 0
Fed c t z samples c' samples' (Ok n) = (c' ≡ fed_core c t) × (samples' ≡ fed_samples c t z samples)
Fed c t z samples c' samples' (Err e) = (c' ≡ c) × (samples' ≡ samples)

module _ (kind : ℕ) (k : Levels) {S : Type 0} (schedule : Meaning S) where
  -- Feeding a sample z to track t.
  pub record Feeds (t : ℕ) (z : ℤ) (c : Core) (g : S) (samples : List ℤ) (c' : Core) (g' : S) (samples' : List ℤ) (r : Result ℕ RunFault) : Type 0 where
    pub answer : r ≡ fed_answer c samples t
    pub leaves : Fed c t z samples c' samples' r
    pub scheduler : g' ≡ g
    -- Whatever state of whatever script the run stands for with its other slabs: this is what the machine answers, and then it stands for the machine's next state.
    pub did : (script : List ℕ) (entries : List Entry) (marks : List Mark) (sc : Script) (s : State) → StandsFor kind k (memory c script samples entries marks) sc s →
        let p = perform k sc schedule (feed true t z) s g in
        (r ≡ told p.0) × StandsFor kind k (memory c' script samples' entries marks) sc p.1

  -- Reading

  -- The count and the missed of channel h; nothing changes.
  pub record Counts (h : ℕ) (c : Core) (g : S) (entries : List Entry) (r : Result Count RunFault) : Type 0 where
    pub answer : r ≡
        (let q = get_or c.channels h nil_port in
        cond (nat_lt (length entries) (entries_needed c)) (Err NoState) (cond (nat_lt h c.head.channels) (Ok (record { entries = q.count; missed = q.missed })) (Err NoSuch)))
    pub did : (script : List ℕ) (samples : List ℤ) (marks : List Mark) (sc : Script) (s : State) → StandsFor kind k (memory c script samples entries marks) sc s →
        r ≡ told_count (perform k sc schedule (count true h) s g).0

  -- Entry i of channel h; nothing changes.
  pub record Finds (h i : ℕ) (c : Core) (g : S) (entries : List Entry) (r : Result Entry RunFault) : Type 0 where
    pub answer : r ≡
        (let q = get_or c.channels h nil_port in
        cond (nat_lt (length entries) (entries_needed c)) (Err NoState)
        (cond (nat_lt h c.head.channels) (cond (nat_lt i q.count) (Ok (slice_index_or entries (q.start + i) nil_entry)) (Err NoSuch)) (Err NoSuch)))
    pub did : (script : List ℕ) (samples : List ℤ) (marks : List Mark) (sc : Script) (s : State) → StandsFor kind k (memory c script samples entries marks) sc s →
        r ≡ told_entry (perform k sc schedule (entry true h i) s g).0

  -- Advancing

  -- A refusal leaves the run, the scheduler and the slabs as they were.
  abbrev pub UnlessRefused : Memory → S → Memory → S → Result ℕ RunFault → Type 0
  UnlessRefused m g m' g' r = IfErr r (λ e. (m' ≡ m) × (g' ≡ g))

  -- Up to n turns, with a work slab of so many numbers.
  pub record Advances (n : ℕ) (m : Memory) (g : S) (work : ℕ) (m' : Memory) (g' : S) (r : Result ℕ RunFault) : Type 0 where
    -- Whatever state of whatever script memory stands for: this is what the machine answers, and then memory stands for the machine's next state, and so does the scheduler's.
    pub did : (sc : Script) (s : State) → StandsFor kind k m sc s → 16 ≤ work →
        let p = perform k sc schedule (advance_by true n) s g in
        (r ≡ told p.0) × StandsFor kind k m' sc p.1 × (g' ≡ p.2)
    -- Memory that stands for no state, or too short a work slab: 9.
    pub unfit : ((sc : Script) (s : State) → StandsFor kind k m sc s → 16 ≤ work → ⊥) → r ≡ Err NoState
    pub refusal : UnlessRefused m g m' g' r
    pub leaves : Leaves (changing m) (changing m')
    -- Memory stands for one state of one script only.
    pub one : (sc sc' : Script) (s s' : State) → StandsFor kind k m sc s → StandsFor kind k m sc' s' → (sc ≡ sc') × (s ≡ s')

-- Closing

-- Every slab is zero, and the answer is the turns that the run was given.
pub record Closes (c : Core) (script script' : List ℕ) (samples samples' : List ℤ) (entries entries' : List Entry) (marks marks' : List Mark) (work work' : List ℤ) (r : ℕ) : Type 0 where
  pub answer : r ≡ c.turns
  pub zero_script : script' ≡ replicate (length script) 0
  pub zero_samples : samples' ≡ replicate (length samples) (pos 0)
  pub zero_entries : entries' ≡ replicate (length entries) nil_entry
  pub zero_marks : marks' ≡ replicate (length marks) nil_mark
  pub zero_work : work' ≡ replicate (length work) (pos 0)
