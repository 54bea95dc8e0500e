-- Round robin and the pick list.
use Rattle.std.specs.Prelude.{ℕ, zero, suc, ◌+◌, ◌%◌, Bool, false, cond, List, [], ◌∷◌, take, drop, slice_index_or}
use Rattle.std.proofs.Math.Option.{Option as Perhaps, none, some}
use Rattle.scheduler.specs.Turns.{Meaning}
use Rattle.scheduler.specs.declared.RoundRobin.{RoundRobin}
use Rattle.scheduler.specs.declared.PickList.{PickList}

-- The first ready of the n threads after i, counting 0 to 7 in a ring.
unfoldable pub first_after : ℕ → List Bool → ℕ → Perhaps ℕ
first_after zero rs i = none
first_after (suc n) rs i = cond (slice_index_or rs (suc i % 8) false) (some (suc i % 8)) (first_after n rs (suc i % 8))

-- The thread that was chosen, or the one chosen before.
abbrev pub chosen_or : ℕ → Perhaps ℕ → ℕ
chosen_or last none = last
chosen_or last (some i) = i

-- Round robin: the first ready thread after the one it last chose, which is its state; a rest leaves it.
abbrev pub round_robin : Meaning ℕ
round_robin last rs = let choice = first_after 8 rs last in (choice, chosen_or last choice)

-- Pick list: one pick further at each turn, also where no thread is ready; the pick if that thread is ready, else a rest, and a rest past the end.
abbrev pub pick_list : Meaning (List ℕ)
pick_list [] rs = (none, [])
pick_list (i ∷ picks) rs = (cond (slice_index_or rs i false) (some i) none, picks)

-- The same of the code's states

-- Round robin has the last thread that it chose.
abbrev pub round_robin_turn : Meaning RoundRobin
round_robin_turn s rs = let r = round_robin s.last rs in (r.0, record { last = r.1 })

-- The picks that are left, of the first 4,096 of the list.
abbrev pub picks_left : PickList → List ℕ
picks_left s = drop s.at (take 4096 s.picks.now)

-- One place further, unless no pick is left.
abbrev pub place_after : List ℕ → ℕ → ℕ
place_after [] at = at
place_after (i ∷ picks) at = at + 1

-- The pick list has the list and its place in it.
abbrev pub pick_list_turn : Meaning PickList
pick_list_turn s rs = ((pick_list (picks_left s) rs).0, record { picks = s.picks; at = place_after (picks_left s) s.at })
