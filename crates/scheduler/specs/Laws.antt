-- Round robin and the pick list keep the laws of schedulers.
use Rattle.std.specs.Prelude.{◌≡◌, ℕ, zero, suc, ◌%◌, Bool, true, false, cond, T, List, [], ◌∷◌, slice_index_or, refl}
use Rattle.std.proofs.Common.{subst}
use Rattle.std.proofs.Math.Option.{Option as Perhaps, none, some}
use Rattle.scheduler.specs.Turns.{Meaning, Obedient}
use Rattle.scheduler.specs.Schedulers.{first_after, pick_list, pick_list_turn, picks_left, round_robin_turn}

-- Whoever answers only ready threads rests where there is none.
obedient : {S : Type 0} (schedule : Meaning S) → ((g : S) (rs : List Bool) (i : ℕ) → (schedule g rs).0 ≡ some i → T (slice_index_or rs i false)) → Obedient schedule
obedient {S} schedule picks = record { picks_ready = picks; rests = λ g rs nobody. go rs nobody (schedule g rs).0 (picks g rs) }
  where
    go : (rs : List Bool) → ((i : ℕ) → slice_index_or rs i false ≡ false) → (o : Perhaps ℕ) → ((i : ℕ) → o ≡ some i → T (slice_index_or rs i false)) → o ≡ none
    go rs nobody none h = refl
    go rs nobody (some i) h = absurd (subst T (nobody i) (h i refl))

-- A ready thread, or else what is found later.
ready_or : (rs : List Bool) (n i : ℕ) (later : Perhaps ℕ) → cond (slice_index_or rs n false) (some n) later ≡ some i → (later ≡ some i → T (slice_index_or rs i false)) → T (slice_index_or rs i false)
ready_or rs n i later e f = go (slice_index_or rs n false) refl e
  where
    go : (b : Bool) → slice_index_or rs n false ≡ b → cond b (some n) later ≡ some i → T (slice_index_or rs i false)
    go true h e = let same : n ≡ i = cc in subst (λ (m : ℕ). T (slice_index_or rs m false)) same (rw h tt)
    go false h e = f e

first_ready : (n : ℕ) (rs : List Bool) (last i : ℕ) → first_after n rs last ≡ some i → T (slice_index_or rs i false)
unfolding first_after
first_ready zero rs last i e = cc
first_ready (suc n) rs last i e = ready_or rs (suc last % 8) i (first_after n rs (suc last % 8)) e (first_ready n rs (suc last % 8) i)

pub round_robin_obeys : Obedient round_robin_turn
round_robin_obeys = obedient round_robin_turn (λ s rs i e. first_ready 8 rs s.last i e)

pick_ready : (picks : List ℕ) (rs : List Bool) (i : ℕ) → (pick_list picks rs).0 ≡ some i → T (slice_index_or rs i false)
pick_ready [] rs i e = cc
pick_ready (n ∷ picks) rs i e = ready_or rs n i none e (λ z. cc)

pub pick_list_obeys : Obedient pick_list_turn
pick_list_obeys = obedient pick_list_turn (λ s rs i e. pick_ready (picks_left s) rs i e)
