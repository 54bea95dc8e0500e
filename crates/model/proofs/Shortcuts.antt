-- The shortcuts leak, by computation.
use Rattle.std.proofs.Common.{◌≡◌, ℕ, suc, Bool, true, false, cond, List, [], ◌∷◌, length, get_or, pos, refl, ap, arith}
use Rattle.lattice.specs.Orders.{two_point}
use Rattle.model.specs.Machine.{Entry, step_at, do_put}
use Rattle.model.specs.Calls.{Answer, no_entry, perform}
use Rattle.model.specs.Calls.Call.{feed, advance_by, count}
use Rattle.model.specs.Calls.Answer.{holds, gave, counted, found, stands, refused}
use Rattle.model.specs.Secrecy.{Secret}
use Rattle.model.specs.Shortcuts.{Leaks, told_by_level, raising_less, told_by_lock, reserving_less, told_by_turn, closing_early, told_by_loop, any_true, stubborn, ShortcutsLeak}
use Rattle.scheduler.specs.Turns.{Rests}

raising_leaks : Leaks told_by_level (raising_less told_by_level) (0 ∷ 0 ∷ 0 ∷ 0 ∷ [])
unfolding step_at do_put
raising_leaks = record {
  valid = ((tt, (tt, tt), (tt, (tt, tt), tt), tt, (tt, (tt, tt), tt)), tt);
  tells = λ e. let z : ◌≡◌ {A = ℕ} 0 1 = ap (λ (es : List Entry). cond (get_or es 0 no_entry).mark 1 0) e in omega arith;
  tells_not = refl;
}

reserving_leaks : Leaks told_by_lock (reserving_less told_by_lock) (0 ∷ 1 ∷ 1 ∷ [])
unfolding step_at do_put
reserving_leaks = record {
  valid = ((tt, (tt, tt), (tt, tt, (tt, tt), tt, tt), tt, tt), ((tt, tt, (tt, tt), (tt, (tt, tt), tt), tt), tt));
  tells = λ e. let z : ◌≡◌ {A = ℕ} 1 0 = ap (λ (es : List Entry). length es) e in omega arith;
  tells_not = refl;
}

closing_leaks : Leaks told_by_turn (closing_early told_by_turn) (0 ∷ 0 ∷ 0 ∷ 0 ∷ 0 ∷ [])
unfolding step_at do_put
closing_leaks = record {
  valid = ((tt, (tt, tt), tt, tt, (tt, (tt, tt), tt)), tt);
  tells = λ e. let z : ◌≡◌ {A = ℕ} 3 5 = ap (λ (es : List Entry). (get_or es 0 no_entry).turn) e in omega arith;
  tells_not = refl;
}

none_true : (rs : List Bool) → ((i : ℕ) → get_or rs i false ≡ false) → any_true rs ≡ false
none_true [] h = refl
none_true (b ∷ rs) h = rw (h 0) (none_true rs (λ i. h (suc i)))

stubborn_rests : Rests stubborn
stubborn_rests g rs h = rw (none_true rs h)

-- How many entries the second answer counts.
second : List Answer → ℕ
second [] = 9
second (a ∷ []) = 9
second (a ∷ (counted n m ∷ cs)) = n
second (a ∷ (holds n ∷ cs)) = 9
second (a ∷ (gave n ∷ cs)) = 9
second (a ∷ (found n ∷ cs)) = 9
second (a ∷ (stands n ∷ cs)) = 9
second (a ∷ (refused n ∷ cs)) = 9

stubborn_leaks : Secret two_point told_by_loop stubborn → ⊥
unfolding perform step_at do_put second
stubborn_leaks secret =
    let e : ◌≡◌ {A = ℕ} 0 1 = ap second (secret 0 tt tt (feed true 0 (pos 5) ∷ (advance_by true 2 ∷ (count true 0 ∷ []))) (advance_by true 2 ∷ (count true 0 ∷ [])) refl) in
    omega arith

pub shortcuts : ShortcutsLeak
shortcuts = record { raising = raising_leaks; reserving = reserving_leaks; closing = closing_leaks; resting = stubborn_rests; obeying = stubborn_leaks }
