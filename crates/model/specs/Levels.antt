-- Levels as the machine uses them: which one counts as open, and scripts whose declared levels are all codes of one kind.
use Rattle.std.specs.Prelude.{ℕ, Bool, true, ◌&&◌, T, List, [], ◌∷◌, map, ◌==◌}
use Rattle.lattice.specs.Levels.{Levels}
use Rattle.script.specs.Code.{Script}

-- A level that counts as open. Nothing else in the machine compares levels for being equal.
abbrev pub is_open : ℕ → Bool
is_open l = l == 0

-- Every level of a list is one of the kind's codes.
abbrev pub all_had : Levels → List ℕ → Bool
all_had k [] = true
all_had k (l ∷ ls) = k.has l && all_had k ls

-- Every level that a script declares is one of the kind's codes.
pub record Levelled (k : Levels) (sc : Script) : Type 0 where
  pub track_codes : T (all_had k sc.track_levels)
  pub channel_codes : T (all_had k sc.channel_levels)

-- The same script with every level open: all else stays as it was.
abbrev pub opened : Script → Script
opened sc = record {
  kind = sc.kind;
  variables = sc.variables;
  locks = sc.locks;
  track_levels = map (λ l. 0) sc.track_levels;
  track_sizes = sc.track_sizes;
  channel_levels = map (λ l. 0) sc.channel_levels;
  channel_sizes = sc.channel_sizes;
  codes = sc.codes;
}
