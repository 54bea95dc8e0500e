-- The loops over open blocks, a turn at a time.
use Rattle.std.proofs.Common.{◌≡◌, ℕ, zero, suc, ◌+◌, ◌-◌, Bool, true, false, cond, eqb, List, get_or, sym, refl, ap, ◌∙◌, add-one, arith, ne_eqb}
use Rattle.lattice.specs.Levels.{Levels}
use Rattle.survey.specs.declared.table.Step.{Step}
use Rattle.runs.specs.declared.Mark.{Mark}
use Rattle.runs.specs.declared.Place.{Place}
use Rattle.runs.specs.Flat.{nil_mark, level_inside, guard_one, guard_marks, guard_threads, first_mark, nil_place}
use Rattle.survey.specs.Table.{step_at_place}
use Rattle.lattice.specs.Ors.{or_assoc}
use lib.Bits.{bit_or, or_comm}
use Rattle.runs.specs.Statuses.{locks_of, owned_marks, held_one, against_first}

pub inside_more : (ms : List Mark) (b d : ℕ) → level_inside ms b (d + 1) ≡ (get_or ms (b + d) nil_mark).level
inside_more ms b d =
    let e : d + 1 - 1 ≡ d = omega arith in
    let z : eqb (d + 1) 0 ≡ false = ne_eqb (d + 1) 0 (λ (q : d + 1 ≡ 0). omega arith) in
    ap (λ (t : Bool). cond t 0 (get_or ms (b + (d + 1 - 1)) nil_mark).level) z ∙ ap (λ (n : ℕ). (get_or ms (b + n) nil_mark).level) e

module _ (k : Levels) (table : List Step) (ms : List Mark) (x : ℕ) where
  pub guard_marks_none : (b acc : ℕ) → guard_marks k table ms x b 0 acc ≡ acc
  unfolding guard_marks
  guard_marks_none b acc = refl

  pub guard_marks_more : (b d acc : ℕ) → guard_marks k table ms x b (d + 1) acc ≡ guard_one k table ms x (b + d) (guard_marks k table ms x b d acc)
  unfolding guard_marks
  guard_marks_more b d acc = ap (λ (n : ℕ). guard_marks k table ms x b n acc) (add-one d)

  pub guard_threads_none : (ps : List Place) → guard_threads k table ms x ps 0 ≡ 0
  unfolding guard_threads
  guard_threads_none ps = refl

  pub guard_threads_more : (ps : List Place) (n : ℕ) → guard_threads k table ms x ps (n + 1) ≡ guard_marks k table ms x (first_mark n) (get_or ps n nil_place).depth (guard_threads k table ms x ps n)
  unfolding guard_threads
  guard_threads_more ps n = ap (guard_threads k table ms x ps) (add-one n)

or_pairs : (a b c d : ℕ) → bit_or (bit_or a b) (bit_or c d) ≡ bit_or (bit_or a c) (bit_or b d)
or_pairs a b c d =
    or_assoc a b (bit_or c d)
    ∙ ap (bit_or a) (sym (or_assoc b c d) ∙ ap (λ (x : ℕ). bit_or x d) (or_comm b c) ∙ or_assoc c b d)
    ∙ sym (or_assoc a c (bit_or b d))

module _ (table : List Step) (ms : List Mark) where
  -- Blocks that give two things each give what they would by two walks.
  pub locks_both : (f g : Step → ℕ → ℕ → ℕ) (b d : ℕ) → locks_of table ms (λ s o i. bit_or (f s o i) (g s o i)) b d ≡ bit_or (locks_of table ms f b d) (locks_of table ms g b d)
  unfolding locks_of
  locks_both f g b zero = refl
  locks_both f g b (suc d) =
      let mk = get_or ms (b + d) nil_mark in
      let s = step_at_place table mk.opener in
      let o = level_inside ms b d in
      ap (bit_or (bit_or (f s o mk.level) (g s o mk.level))) (locks_both f g b d)
      ∙ or_pairs (f s o mk.level) (g s o mk.level) (locks_of table ms f b d) (locks_of table ms g b d)

  locks_nothing : (b d : ℕ) → locks_of table ms (λ s o i. 0) b d ≡ 0
  unfolding locks_of
  locks_nothing b zero = refl
  locks_nothing b (suc d) = ap (bit_or 0) (locks_nothing b d)

  -- Their own locks, or none.
  pub locks_unless : (none : Bool) (b d : ℕ) → locks_of table ms (λ s o i. cond none 0 s.mask) b d ≡ cond none 0 (owned_marks table ms b d)
  locks_unless true b d = locks_nothing b d
  locks_unless false b d = refl

  pub locks_none : (f : Step → ℕ → ℕ → ℕ) (b : ℕ) → locks_of table ms f b 0 ≡ 0
  unfolding locks_of
  locks_none f b = refl

  pub locks_more : (f : Step → ℕ → ℕ → ℕ) (b d : ℕ) → let mk = get_or ms (b + d) nil_mark in
      locks_of table ms f b (d + 1) ≡ bit_or (f (step_at_place table mk.opener) (level_inside ms b d) mk.level) (locks_of table ms f b d)
  unfolding locks_of
  locks_more f b d = ap (locks_of table ms f b) (add-one d)

  pub against_none : (i : ℕ) (ps : List Place) → against_first table ms i ps 0 ≡ 0
  unfolding against_first
  against_none i ps = refl

  pub against_more : (i : ℕ) (ps : List Place) (n : ℕ) → against_first table ms i ps (n + 1) ≡ bit_or (against_first table ms i ps n) (held_one table ms i n (get_or ps n nil_place))
  unfolding against_first
  against_more i ps n = ap (against_first table ms i ps) (add-one n)
