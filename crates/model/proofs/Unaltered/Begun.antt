-- A run as it is made is typed, and with every level open it is the opened script's.
use Rattle.std.proofs.Common.{◌≡◌, ℕ, zero, suc, T, List, [], ◌∷◌, map, get_or, replicate, ℤ, refl, ap}
use Rattle.lattice.specs.Levels.{Levels, Lawful}
use Rattle.script.specs.Code.{Code, Script}
use Rattle.model.specs.Values.{Cell, blank}
use Rattle.model.specs.Threads.{Thread, at_code}
use Rattle.model.specs.Machine.{unused}
use Rattle.model.specs.Calls.{begin}
use Rattle.model.specs.Levels.{Levelled, opened}
use Rattle.model.specs.Inspection.{types, all_type, Passes}
use Rattle.model.proofs.Tests.{and_left, and_right}
use Rattle.model.proofs.Unaltered.Under.{under_open, had_at}
use Rattle.model.proofs.Unaltered.Erased.{erase, erase_cell, erase_thread}
use Rattle.model.proofs.Unaltered.Typed.{World, Threads, Kept}

pub world : {k : Levels} {sc : Script} {typing : List ℕ} → Lawful k → Levelled k sc → Passes k sc typing → World k sc typing
world {k} {sc} {typing} L l p = record {
  laws = L;
  variable_had = λ x. had_at L typing x p.codes;
  track_had = λ t. had_at L sc.track_levels t l.track_codes;
  channel_had = λ h. had_at L sc.channel_levels h l.channel_codes;
}

cells_begun : (n : ℕ) → map erase_cell (replicate n blank) ≡ replicate n blank
cells_begun zero = refl
cells_begun (suc n) = ap (λ (r : List Cell). blank ∷ r) (cells_begun n)

threads_begun : (cs : List Code) → map erase_thread (map (λ (c : Code). at_code c []) cs) ≡ map (λ (c : Code). at_code c []) cs
threads_begun [] = refl
threads_begun (c ∷ cs) = ap (λ (r : List Thread). at_code c [] ∷ r) (threads_begun cs)

same_map : {A : Type 0} (a : A) (ls : List ℕ) → map (λ (l : ℕ). a) ls ≡ map (λ (l : ℕ). a) (map (λ (l : ℕ). zero) ls)
same_map a [] = refl
same_map {A} a (l ∷ ls) = ap (λ (r : List A). a ∷ r) (same_map a ls)

pub begin_erased : (sc : Script) → erase (begin sc) ≡ begin (opened sc)
begin_erased sc i = record {
  cells = cells_begun sc.variables i;
  threads = threads_begun sc.codes i;
  tracks = same_map {A = List ℤ} [] sc.track_levels i;
  channels = same_map unused sc.channel_levels i;
  turns = 0;
}

blank_at : (n x : ℕ) → get_or (replicate n blank) x blank ≡ blank
blank_at zero x = refl
blank_at (suc n) zero = refl
blank_at (suc n) (suc x) = blank_at n x

threads_typed : (k : Levels) (sc : Script) (typing : List ℕ) (cs : List Code) → T (all_type k sc typing cs) → Threads k sc typing (map (λ (c : Code). at_code c []) cs)
threads_typed k sc typing [] h = tt
threads_typed k sc typing (c ∷ cs) h =
    (record { level = 0; code = and_left (types k sc typing 0 c) (all_type k sc typing cs) h; inside = refl }, threads_typed k sc typing cs (and_right (types k sc typing 0 c) (all_type k sc typing cs) h))

pub begin_kept : {k : Levels} {sc : Script} {typing : List ℕ} → World k sc typing → Passes k sc typing → Kept k sc typing (begin sc)
begin_kept {k} {sc} {typing} W p = record {
  cells = λ x. rw (blank_at sc.variables x) (under_open W.laws (W.variable_had x));
  threads = threads_typed k sc typing sc.codes p.typed;
}
