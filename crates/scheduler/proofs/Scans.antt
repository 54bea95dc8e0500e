-- Round robin's scan: the threads after the last one in the ring, and the first of them that is ready.
use Rattle.std.proofs.Common.{◌≡◌, ℕ, zero, suc, ◌+◌, ◌%◌, Bool, true, false, cond, List, map, get_or, Option, None, Some, unwrap_or, refl, arith}
use Rattle.std.specs.List.{find, range_with_len}
use mathlib.Core.Option.{Option as Perhaps, some}
use Rattle.scheduler.specs.Turns.{answered}
use Rattle.scheduler.specs.Schedulers.{chosen_or, first_after}

-- a ready thread, or else what is found later
answered_or : (b : Bool) (t : ℕ) (o : Option ℕ) (later : Perhaps ℕ) → answered o ≡ later → answered (cond b (Some t) o) ≡ cond b (some t) later
answered_or true t o later e = refl
answered_or false t o later e = e

pub first_found : (rs : List Bool) (n k last t : ℕ) → (last + k) % 8 ≡ suc t % 8
    → answered (find (λ i. get_or rs i false) (map (λ i. (last + i) % 8) (range_with_len k n))) ≡ first_after n rs t
unfolding first_after
first_found rs zero k last t e = refl
first_found rs (suc n) k last t e =
    rw (← e) (answered_or (get_or rs ((last + k) % 8) false) ((last + k) % 8) _ _ (first_found rs n (k + 1) last ((last + k) % 8) (omega arith)))

pub chosen_is : (last : ℕ) (o : Option ℕ) → unwrap_or o last ≡ chosen_or last (answered o)
chosen_is last None = refl
chosen_is last (Some t) = refl
