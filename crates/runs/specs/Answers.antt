-- What the calls answer, by the machine's answers.
use Rattle.std.specs.Prelude.{ℕ, Ok, Err, Result}
use Rattle.script.specs.declared.faults.RunFault.{RunFault}
use Rattle.script.specs.declared.faults.RunFault.TheVariants.{NoState, NoSuch, TrackFull, OutOfTurns}
use Rattle.model.specs.Machine.{Entry as ModelEntry}
use Rattle.model.specs.Calls.{Answer, Refusal}
use Rattle.model.specs.Calls.Answer.{holds, gave, counted, found, stands, refused}
use Rattle.model.specs.Calls.Refusal.{unfit_memory, no_such, track_full, out_of_turns}
use Rattle.runs.specs.declared.Entry.{Entry}
use Rattle.runs.specs.declared.Count.{Count}

-- The fault that tells each refusal.
abbrev pub fault_of : Refusal → RunFault
fault_of unfit_memory = NoState
fault_of no_such = NoSuch
fault_of track_full = TrackFull
fault_of out_of_turns = OutOfTurns

-- How many samples a track holds, or how many turns were given. No other answer is given to these calls.
abbrev pub told : Answer → Result ℕ RunFault
told (holds n) = Ok n
told (gave n) = Ok n
told (counted n m) = Err NoState
told (found e) = Err NoState
told (stands s) = Err NoState
told (refused f) = Err (fault_of f)

-- The count and the missed of a channel.
abbrev pub told_count : Answer → Result Count RunFault
told_count (holds n) = Err NoState
told_count (gave n) = Err NoState
told_count (counted n m) = Ok (record { entries = n; missed = m })
told_count (found e) = Err NoState
told_count (stands s) = Err NoState
told_count (refused f) = Err (fault_of f)

-- An entry as the code has it.
abbrev pub as_entry : ModelEntry → Entry
as_entry e = record { turn = e.turn; thread = e.thread; mark = e.mark; value = e.value }

-- One entry of a channel.
abbrev pub told_entry : Answer → Result Entry RunFault
told_entry (holds n) = Err NoState
told_entry (gave n) = Err NoState
told_entry (counted n m) = Err NoState
told_entry (found e) = Ok (as_entry e)
told_entry (stands s) = Err NoState
told_entry (refused f) = Err (fault_of f)
