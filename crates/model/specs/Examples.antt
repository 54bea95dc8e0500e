-- Worked examples of the definitions, as one statement.
use Rattle.std.specs.Prelude.{◌≡◌, ℕ, suc, true, false, List, pos, negsuc, slice_index, slice_index_or}
use Rattle.lattice.specs.Orders.{two_point, bit_sets}
use Rattle.codec.specs.Expressions.{Expr}
use Rattle.codec.specs.Expressions.Binary.{quotient}
use Rattle.script.specs.Code.{Code, Script}
use Rattle.script.specs.Code.Code.{done, put, branch, lock}
use Rattle.model.specs.Stretches.{Measure, measure}
use Rattle.model.specs.Values.{apply_binary}
use Rattle.model.specs.Threads.{Open, context, at_code}
use Rattle.model.specs.Threads.Pace.{running}
use Rattle.model.specs.Machine.{State, unused, add_entry, set_thread, set_channel, level_of, step_at}
use Rattle.model.specs.Small.{one}

-- A fixed time of n turns.
abbrev pub lasts : ℕ → Measure
lasts n = record { fixed = true; duration = n }

-- A channel's declared level.
abbrev pub channel_level : Script → ℕ → ℕ
channel_level sc h = slice_index sc.channel_levels h

-- All of them.
pub record Examples : Type 0 where
  -- −7 by 2 is −3, and 5 by 0 is 0.
  pub toward_zero : apply_binary quotient (negsuc 6) (pos 2) ≡ negsuc 2
  pub by_nought : apply_binary quotient (pos 5) (pos 0) ≡ pos 0
  -- An if with ways of 2 and 1 lasts 4, and a with of literal one around it lasts 6.
  pub if_lasts : (e : Expr) (p q : Code) → measure p ≡ lasts 2 → measure q ≡ lasts 1 → measure (branch e p q done) ≡ lasts 4
  pub with_lasts : (m : ℕ) (e : Expr) (p q : Code) → measure p ≡ lasts 2 → measure q ≡ lasts 1 → measure (lock m one (branch e p q done) done) ≡ lasts 6
  -- In an open context a closed value is put on an open channel as a mark.
  pub marks : (sc : Script) (s : State) (i h : ℕ) (e : Expr) (c : Code) (os : List Open) → context os ≡ 0 → level_of two_point sc s e ≡ 1 → channel_level sc h ≡ 0 →
      step_at two_point sc s i (put h e c) running os ≡
      set_thread (set_channel s h (add_entry (slice_index sc.channel_sizes h) (record { turn = suc s.turns; thread = i; mark = true; value = pos 0 }) (slice_index_or s.channels h unused))) i (at_code c os)
  -- In a closed context nothing is put there: the thread goes on, and that is all.
  pub leaves_out : (sc : Script) (s : State) (i h : ℕ) (e : Expr) (c : Code) (os : List Open) → context os ≡ 1 → channel_level sc h ≡ 0 →
      step_at two_point sc s i (put h e c) running os ≡ set_thread s i (at_code c os)
  -- Of the sets of bits, 5 joined with 3 is 7, and 5 may not flow to 3.
  pub joins : bit_sets.join 5 3 ≡ 7
  pub flows_not : bit_sets.flows 5 3 ≡ false
