-- Reading: what a run's channels tell is what the machine's channels do.
use Rattle.std.proofs.Common.{◌≡◌, ℕ, ◌+◌, ◌<◌, ◌≤◌, true, ◌&&◌, ltb, List, length, get_or, take, drop, ℤ, Ok, Err, sym, ap, ◌∙◌, subst, ⊎_elim, arith, length-drop, length-take-le, get_or-drop, get_or-take, le-ltb, lt-ltb}
use lib.ListN.{get_or-map}
use Rattle.std.proofs.lemmas.List.{length-map}
use Rattle.std.proofs.lemmas.Bool.{and_from, and_left, and_right, cond-false, cond-true}
use Rattle.lattice.specs.Levels.{Levels}
use Rattle.scheduler.specs.Turns.{Meaning}
use Rattle.script.specs.Code.{Script}
use Rattle.script.specs.declared.faults.RunFault.{RunFault}
use Rattle.script.specs.declared.faults.RunFault.TheVariants.{NoState, NoSuch}
use Rattle.model.specs.Machine.{State, Channel, unused}
use Rattle.model.specs.Calls.{no_entry, perform}
use Rattle.model.specs.Calls.Call.{count, entry}
use Rattle.model.specs.Calls.Answer.{counted, found, refused}
use Rattle.model.specs.Calls.Refusal.{no_such}
use Rattle.runs.specs.declared.Mark.{Mark}
use Rattle.runs.specs.declared.Entry.{Entry}
use Rattle.runs.specs.declared.Port.{Port}
use Rattle.runs.specs.declared.Core.{Core}
use Rattle.runs.specs.Flat.{nil_entry, nil_port, channel_of, entry_of}
use Rattle.runs.specs.Kept.{entries_needed, Laid, Held, NoPort, PortIn}
use Rattle.runs.specs.Memory.{memory, StandsFor}
use Rattle.runs.specs.Answers.{as_entry, told_count, told_entry}
use Rattle.runs.specs.Calls.{Counts, Finds}
use Rattle.runs.proofs.Stored.{room_part}

-- What a run stands for

module _ (kind : ℕ) (k : Levels) (c : Core) (script : List ℕ) (samples : List ℤ) (entries : List Entry) (marks : List Mark) (sc : Script) (s : State)
    (stands : StandsFor kind k (memory c script samples entries marks) sc s) where
  -- The script has as many channels as the run.
  channels_counted : length sc.channel_levels ≡ c.head.channels
  channels_counted = ap (λ h. h.channels) stands.declares.head

  module _ (h : ℕ) (below : h < c.head.channels) where
    -- What was put on a channel.
    channel-read : get_or s.channels h unused ≡ channel_of entries (get_or c.channels h nil_port)
    channel-read =
        ap (λ (x : State). get_or x.channels h unused) stands.is
        ∙ get_or-map (channel_of entries) (take c.head.channels c.channels) h nil_port
        ∙ ap (channel_of entries) (get_or-take c.head.channels c.channels h nil_port below)

    missed-read : (get_or s.channels h unused).missed ≡ (get_or c.channels h nil_port).missed
    missed-read = ap (λ (x : Channel). x.missed) channel-read

    -- How many entries that is.
    entries-counted : Laid c.channels c.head.channels → Held c.channels c.head.channels → length (get_or s.channels h unused).entries ≡ (get_or c.channels h nil_port).count
    entries-counted laid held =
        let q = get_or c.channels h nil_port in
        let part = room_part c.channels h c.head.channels below in
        let at = laid h below in
        let fits = held h below in
        let long = stands.long.entries in
        let left = length-drop q.start entries in
        ap (λ (x : Channel). length x.entries) channel-read ∙ length-map (take q.count (drop q.start entries)) entry_of ∙ length-take-le q.count (drop q.start entries) (omega arith)

    -- One of them.
    entry_read : (i : ℕ) → i < (get_or c.channels h nil_port).count → as_entry (get_or (get_or s.channels h unused).entries i no_entry) ≡ get_or entries ((get_or c.channels h nil_port).start + i) nil_entry
    entry_read i less =
        let q = get_or c.channels h nil_port in
        ap (λ (x : Channel). as_entry (get_or x.entries i no_entry)) channel-read
        ∙ ap as_entry (get_or-map entry_of (take q.count (drop q.start entries)) i nil_entry)
        ∙ get_or-take q.count (drop q.start entries) i nil_entry less ∙ get_or-drop q.start entries i nil_entry

-- The machine's answers

module _ (k : Levels) {S : Type 0} (schedule : Meaning S) (h : ℕ) (sc : Script) (s : State) (g : S) where
  count_none : length sc.channel_levels ≤ h → (perform k sc schedule (count true h) s g).0 ≡ refused no_such
  unfolding perform
  count_none past = cond-false (ltb h (length sc.channel_levels)) _ _ (le-ltb h (length sc.channel_levels) past)

  count_one : h < length sc.channel_levels → (perform k sc schedule (count true h) s g).0 ≡ counted (length (get_or s.channels h unused).entries) (get_or s.channels h unused).missed
  unfolding perform
  count_one below = cond-true (ltb h (length sc.channel_levels)) _ _ (lt-ltb h (length sc.channel_levels) below)

  module _ (i : ℕ) where
    entry-none : length sc.channel_levels ≤ h → (perform k sc schedule (entry true h i) s g).0 ≡ refused no_such
    unfolding perform
    entry-none past = cond-false (ltb h (length sc.channel_levels) && ltb i (length (get_or s.channels h unused).entries)) _ _ (and_left _ _ (le-ltb h (length sc.channel_levels) past))

    entry_past : length (get_or s.channels h unused).entries ≤ i → (perform k sc schedule (entry true h i) s g).0 ≡ refused no_such
    unfolding perform
    entry_past past = cond-false (ltb h (length sc.channel_levels) && ltb i (length (get_or s.channels h unused).entries)) _ _ (and_right _ _ (le-ltb i (length (get_or s.channels h unused).entries) past))

    entry-one : h < length sc.channel_levels → i < length (get_or s.channels h unused).entries → (perform k sc schedule (entry true h i) s g).0 ≡ found (get_or (get_or s.channels h unused).entries i no_entry)
    unfolding perform
    entry-one below less =
        cond-true (ltb h (length sc.channel_levels) && ltb i (length (get_or s.channels h unused).entries)) _ _
        (and_from _ _ (lt-ltb h (length sc.channel_levels) below) (lt-ltb i (length (get_or s.channels h unused).entries) less))

-- What each answer promises

module _ (kind : ℕ) (k : Levels) {S : Type 0} (schedule : Meaning S) (h : ℕ) (c : Core) (g : S) (entries : List Entry) (long : entries_needed c ≤ length entries) where
  abbrev port : Port
  port = get_or c.channels h nil_port

  module _ (past : c.head.channels ≤ h) where
    -- No such channel.
    counts_none : Counts kind k schedule h c g entries (Err NoSuch)
    counts_none = record {
      answer = sym (cond-false (ltb (length entries) (entries_needed c)) _ _ (le-ltb (length entries) (entries_needed c) long) ∙ cond-false (ltb h c.head.channels) _ _ (le-ltb h c.head.channels past));
      did = λ script samples marks sc s stands.
          let many = channels_counted kind k c script samples entries marks sc s stands in
          sym (ap told_count (count_none k schedule h sc s g (omega arith)));
    }

    finds_none : (i : ℕ) → Finds kind k schedule h i c g entries (Err NoSuch)
    finds_none i = record {
      answer = sym (cond-false (ltb (length entries) (entries_needed c)) _ _ (le-ltb (length entries) (entries_needed c) long) ∙ cond-false (ltb h c.head.channels) _ _ (le-ltb h c.head.channels past));
      did = λ script samples marks sc s stands.
          let many = channels_counted kind k c script samples entries marks sc s stands in
          sym (ap told_entry (entry-none k schedule h sc s g i (omega arith)));
    }

  module _ (laid : Laid c.channels c.head.channels) (held : Held c.channels c.head.channels) (below : h < c.head.channels) where
    -- The count and the missed.
    counts_one : Counts kind k schedule h c g entries (Ok (record { entries = port.count; missed = port.missed }))
    counts_one = record {
      answer = sym (cond-false (ltb (length entries) (entries_needed c)) _ _ (le-ltb (length entries) (entries_needed c) long) ∙ cond-true (ltb h c.head.channels) _ _ (lt-ltb h c.head.channels below));
      did = λ script samples marks sc s stands.
          let many = channels_counted kind k c script samples entries marks sc s stands in
          let size = entries-counted kind k c script samples entries marks sc s stands h below laid held in
          let lost = missed-read kind k c script samples entries marks sc s stands h below in
          sym (ap told_count (count_one k schedule h sc s g (omega arith)) ∙ (λ j. Ok (record { entries = size j; missed = lost j })));
    }

    -- No such entry.
    finds_past : (i : ℕ) → port.count ≤ i → Finds kind k schedule h i c g entries (Err NoSuch)
    finds_past i past = record {
      answer = sym
          (cond-false (ltb (length entries) (entries_needed c)) _ _ (le-ltb (length entries) (entries_needed c) long)
          ∙ cond-true (ltb h c.head.channels) _ _ (lt-ltb h c.head.channels below)
          ∙ cond-false (ltb i port.count) _ _ (le-ltb i port.count past));
      did = λ script samples marks sc s stands.
          let size = entries-counted kind k c script samples entries marks sc s stands h below laid held in
          sym (ap told_entry (entry_past k schedule h sc s g i (omega arith)));
    }

    -- An entry.
    finds_one : (i : ℕ) → i < port.count → Finds kind k schedule h i c g entries (Ok (get_or entries (port.start + i) nil_entry))
    finds_one i less = record {
      answer = sym
          (cond-false (ltb (length entries) (entries_needed c)) _ _ (le-ltb (length entries) (entries_needed c) long)
          ∙ cond-true (ltb h c.head.channels) _ _ (lt-ltb h c.head.channels below)
          ∙ cond-true (ltb i port.count) _ _ (lt-ltb i port.count less));
      did = λ script samples marks sc s stands.
          let many = channels_counted kind k c script samples entries marks sc s stands in
          let size = entries-counted kind k c script samples entries marks sc s stands h below laid held in
          sym (ap told_entry (entry-one k schedule h sc s g i (omega arith) (omega arith)) ∙ ap (λ (e : Entry). Ok e) (entry_read kind k c script samples entries marks sc s stands h below i less));
    }

-- By the test that these calls share

module _ (kind : ℕ) (k : Levels) {S : Type 0} (schedule : Meaning S) (h : ℕ) (c : Core) (g : S) (entries : List Entry) where
  module _ (e : RunFault) (none : NoPort c.channels c.head.channels (length entries) h e) where
    pub counts_missing : Counts kind k schedule h c g entries (Err e)
    counts_missing = ⊎_elim
        (λ (short : (length entries < entries_needed c) × (e ≡ NoState)).
        subst (λ (f : RunFault). Counts kind k schedule h c g entries (Err f)) (sym short.1) (record {
          answer = sym (cond-true (ltb (length entries) (entries_needed c)) _ _ (lt-ltb (length entries) (entries_needed c) short.0));
          did = λ script samples marks sc s stands. let long = stands.long.entries in let less = short.0 in absurd (omega arith);
        }))
        (λ (past : (entries_needed c ≤ length entries) × (c.head.channels ≤ h) × (e ≡ NoSuch)).
        subst (λ (f : RunFault). Counts kind k schedule h c g entries (Err f)) (sym past.2) (counts_none kind k schedule h c g entries past.0 past.1))
        none

    pub finds_missing : (i : ℕ) → Finds kind k schedule h i c g entries (Err e)
    finds_missing i = ⊎_elim
        (λ (short : (length entries < entries_needed c) × (e ≡ NoState)).
        subst (λ (f : RunFault). Finds kind k schedule h i c g entries (Err f)) (sym short.1) (record {
          answer = sym (cond-true (ltb (length entries) (entries_needed c)) _ _ (lt-ltb (length entries) (entries_needed c) short.0));
          did = λ script samples marks sc s stands. let long = stands.long.entries in let less = short.0 in absurd (omega arith);
        }))
        (λ (past : (entries_needed c ≤ length entries) × (c.head.channels ≤ h) × (e ≡ NoSuch)).
        subst (λ (f : RunFault). Finds kind k schedule h i c g entries (Err f)) (sym past.2) (finds_none kind k schedule h c g entries past.0 past.1 i))
        none

  module _ (p : Port) (found : PortIn c.channels c.head.channels (length entries) h p) (laid : Laid c.channels c.head.channels) (held : Held c.channels c.head.channels) where
    pub counts_found : Counts kind k schedule h c g entries (Ok (record { entries = p.count; missed = p.missed }))
    counts_found = subst (λ (q : Port). Counts kind k schedule h c g entries (Ok (record { entries = q.count; missed = q.missed }))) (sym found.is) (counts_one kind k schedule h c g entries found.enough laid held found.below)

    pub finds_beyond : (i : ℕ) → p.count ≤ i → Finds kind k schedule h i c g entries (Err NoSuch)
    finds_beyond i past = finds_past kind k schedule h c g entries found.enough laid held found.below i (subst (λ (q : Port). q.count ≤ i) found.is past)

    pub finds_found : (i : ℕ) → i < p.count → Finds kind k schedule h i c g entries (Ok (get_or entries (p.start + i) nil_entry))
    finds_found i less =
        subst (λ (q : Port). Finds kind k schedule h i c g entries (Ok (get_or entries (q.start + i) nil_entry))) (sym found.is)
        (finds_one kind k schedule h c g entries found.enough laid held found.below i (subst (λ (q : Port). i < q.count) found.is less))
