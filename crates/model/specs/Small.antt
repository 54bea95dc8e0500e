-- Small scripts for counterexamples: one variable, one closed track, one open channel, one lock.
use Rattle.std.specs.Prelude.{List, [], ◌∷◌, pos}
use Rattle.codec.specs.Expressions.{Expr}
use Rattle.codec.specs.Expressions.Op.{constant, sample}
use Rattle.script.specs.Code.{Code, Script}

-- The script of these threads.
abbrev pub small : List Code → Script
small cs = record { kind = 1; variables = 1; locks = 1; track_levels = 1 ∷ []; track_sizes = 1 ∷ []; channel_levels = 0 ∷ []; channel_sizes = 4 ∷ []; codes = cs }

-- The closed track's first sample, which is 0 until it is fed.
abbrev pub secret : Expr
secret = constant (pos 0) ∷ sample 0 ∷ []

-- Literal one.
abbrev pub one : Expr
one = constant (pos 1) ∷ []
