-- The calls on a run: what each answers, and the run after it.
use Rattle.std.specs.Prelude.{◌≡◌, ℕ, suc, Bool, true, false, cond, ◌&&◌, List, [], ◌∷◌, ◌++◌, map, length, get_or, replicate, ℤ, pos, ◌==◌, nat_lt, slice_index, slice_index_or}
use Rattle.lattice.specs.Levels.{Levels}
use Rattle.script.specs.Code.{Script}
use Rattle.model.specs.Values.{blank}
use Rattle.model.specs.Threads.{at_code}
use Rattle.scheduler.specs.Turns.{Meaning}
use Rattle.model.specs.Machine.{Entry, unused, State, set_track, Status, status, rules, most_turns, advance}

-- A call: feed a sample to a track, advance by so many turns, read a channel's count or one of its entries, ask how a thread stands.
-- Each says first whether the memory lent to it is long enough and holds a state; the model knows no more of memory.
pub data Call : Type 0 where
  feed : Bool → ℕ → ℤ → Call
  advance_by : Bool → ℕ → Call
  count : Bool → ℕ → Call
  entry : Bool → ℕ → ℕ → Call
  ask : Bool → ℕ → Call

-- Two lists of calls are alike: call by call the same name and arguments, and both or neither find their memory fit.
abbrev pub Alike : List Call → List Call → Type 0
Alike xs ys = xs ≡ ys

-- Why a call is refused: memory too short or without a state; no such track, channel, thread or entry; a full track; no turn left.
pub data Refusal : Type 0 where
  unfit_memory no_such track_full out_of_turns : Refusal

-- The number by which a refusal is told.
abbrev pub refusal_number : Refusal → ℕ
refusal_number unfit_memory = 9
refusal_number no_such = 10
refusal_number track_full = 11
refusal_number out_of_turns = 12

-- An answer: how many samples the track holds, the turns given, entries and missed, an entry, a status, or a refusal.
pub data Answer : Type 0 where
  holds gave : ℕ → Answer
  counted : ℕ → ℕ → Answer
  found : Entry → Answer
  stands : Status → Answer
  refused : Refusal → Answer

-- What stands in for an entry that is not there; no answer shows it.
abbrev pub no_entry : Entry
no_entry = record { turn = 0; thread = 0; mark = false; value = pos 0 }

-- A run as it is made: every variable 0 and open, every thread at its beginning, nothing fed and nothing put.
abbrev pub begin : Script → State
begin sc = record {
  cells = replicate sc.variables blank;
  threads = map (λ c. at_code c []) sc.codes;
  tracks = map (λ l. []) sc.track_levels;
  channels = map (λ l. unused) sc.channel_levels;
  turns = 0;
}

module _ (k : Levels) (sc : Script) {S : Type 0} (schedule : Meaning S) where
  -- The answer to one call, and the run and the scheduler's state after it. A refusal changes neither.
  unfoldable pub perform : Call → State → S → Answer × State × S
  perform (feed false t z) s g = (refused unfit_memory, s, g)
  perform (feed true t z) s g =
      let zs = get_or s.tracks t [] in
      cond (nat_lt t (length sc.track_levels))
      (cond (nat_lt (length zs) (slice_index sc.track_sizes t)) (holds (suc (length zs)), set_track s t (zs ++ (z ∷ [])), g) (refused track_full, s, g))
      (refused no_such, s, g)
  perform (advance_by false n) s g = (refused unfit_memory, s, g)
  perform (advance_by true n) s g =
      let r = advance (rules k sc) schedule n s g in
      cond (s.turns == most_turns) (refused out_of_turns, s, g) (gave r.0, r.1, r.2)
  perform (count false h) s g = (refused unfit_memory, s, g)
  perform (count true h) s g =
      let ch = get_or s.channels h unused in
      (cond (nat_lt h (length sc.channel_levels)) (counted (length ch.entries) ch.missed) (refused no_such), s, g)
  perform (entry false h i) s g = (refused unfit_memory, s, g)
  perform (entry true h i) s g =
      let ch = get_or s.channels h unused in
      (cond (nat_lt h (length sc.channel_levels) && nat_lt i (length ch.entries)) (found (slice_index_or ch.entries i no_entry)) (refused no_such), s, g)
  perform (ask false i) s g = (refused unfit_memory, s, g)
  perform (ask true i) s g = (cond (nat_lt i (length sc.codes)) (stands (status k sc s i)) (refused no_such), s, g)

  -- The answers to a list of calls, in order, from a run on.
  abbrev pub answers : List Call → State → S → List Answer
  answers [] s g = []
  answers (c ∷ cs) s g = let r = perform c s g in r.0 ∷ answers cs r.1 r.2

  -- The run and the scheduler's state after a list of calls.
  abbrev pub after : List Call → State → S → State × S
  after [] s g = (s, g)
  after (c ∷ cs) s g = let r = perform c s g in after cs r.1 r.2
