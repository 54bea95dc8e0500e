-- What the set of ready threads says.
use Rattle.std.proofs.Common.{◌≡◌, ℕ, zero, suc, ◌+◌, Bool, false, T, List, [], ◌∷◌, get_or, refl, subst, arith}
use Rattle.lattice.specs.Levels.{Levels}
use Rattle.script.specs.Code.{Script}
use Rattle.model.specs.Threads.{Thread}
use Rattle.model.specs.Machine.{State, Status, status, status_is_ready, each_from, ready_set, rules}
use Rattle.model.specs.Machine.Status.{ready, finished, waiting, barred}

ready_go : (f : ℕ → Bool) (ts : List Thread) (j i n : ℕ) → n ≡ j + i → T (get_or (each_from f j ts) i false) → T (f n)
ready_go f [] j i n e h = absurd h
ready_go f (t ∷ ts) j zero n e h = let z : j ≡ n = omega arith in subst (λ (x : ℕ). T (f x)) z h
ready_go f (t ∷ ts) j (suc i) n e h = ready_go f ts (suc j) i n (omega arith) h

-- Only what is ready is ready.
pub ready_is : (t : Status) → T (status_is_ready t) → t ≡ ready
ready_is ready h = refl
ready_is finished h = absurd h
ready_is waiting h = absurd h
ready_is barred h = absurd h

-- A thread in the set is ready.
pub ready_at : (k : Levels) (sc : Script) (s : State) (i : ℕ) → T (get_or (ready_set (rules k sc) s) i false) → T (status_is_ready (status k sc s i))
ready_at k sc s i h = ready_go (λ j. status_is_ready (status k sc s j)) s.threads 0 i i (omega arith) h
