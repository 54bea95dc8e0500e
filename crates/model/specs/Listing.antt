-- A whole run, call by call: a sample on a closed track turns what a later put leaves on an open channel into a mark.
use Rattle.std.specs.Prelude.{◌≡◌, true, false, List, [], ◌∷◌, pos}
use Rattle.lattice.specs.Orders.{two_point}
use Rattle.codec.specs.Expressions.Op.{variable}
use Rattle.script.specs.Code.{Script}
use Rattle.script.specs.Code.Code.{done, assign, put, branch}
use Rattle.scheduler.specs.Schedulers.{round_robin}
use Rattle.model.specs.Calls.{Call, Answer, begin, answers}
use Rattle.model.specs.Calls.Call.{feed, advance_by, count, entry}
use Rattle.model.specs.Calls.Answer.{holds, gave, counted, found}
use Rattle.model.specs.Small.{secret, one}

-- Thread 0 reads the closed track into variable 0 and, if that is not 0, assigns variable 1; thread 1 puts variable 1 on the open channel twice.
abbrev pub listing : Script
listing = record {
  kind = 1;
  variables = 2;
  locks = 0;
  track_levels = 1 ∷ [];
  track_sizes = 4 ∷ [];
  channel_levels = 0 ∷ [];
  channel_sizes = 8 ∷ [];
  codes = assign 0 secret (branch (variable 0 ∷ []) (assign 1 one done) done done) ∷ put 0 (variable 1 ∷ []) (put 0 (variable 1 ∷ []) done) ∷ [];
}

-- Feed 7, advance by up to 8 turns, and read the channel.
abbrev pub listed_calls : List Call
listed_calls = feed true 0 (pos 7) ∷ advance_by true 8 ∷ count true 0 ∷ entry true 0 0 ∷ entry true 0 1 ∷ []

-- Six turns are given. The put of turn 2 leaves 0; at turn 3 the if raises variable 1, and the put of turn 4 leaves a mark.
abbrev pub listed_answers : List Answer
listed_answers =
    holds 1 ∷ gave 6 ∷ counted 2 0 ∷
    found (record { turn = 2; thread = 1; mark = false; value = pos 0 }) ∷
    found (record { turn = 4; thread = 1; mark = true; value = pos 0 }) ∷ []

-- Under round robin the run is answered so.
abbrev pub RunsAsListed : Type 0
RunsAsListed = answers two_point listing round_robin listed_calls (begin listing) 7 ≡ listed_answers
