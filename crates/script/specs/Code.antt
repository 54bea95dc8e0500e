-- Scripts as trees: what a script declares, and the commands of its threads.
use Rattle.std.specs.Prelude.{ℕ, List}
use Rattle.codec.specs.Expressions.{Expr}

-- A stretch of commands; each command holds what follows it. A branch holds its two ways, a loop and a lock their body.
pub data Code : Type 0 where
  done : Code
  skip : Code → Code
  assign : ℕ → Expr → Code → Code
  put : ℕ → Expr → Code → Code
  branch : Expr → Code → Code → Code → Code
  loop : Expr → Code → Code → Code
  lock : ℕ → Expr → Code → Code → Code

-- What a script declares, by number from 0 on, and the code of its threads.
pub record Script : Type 0 where
  pub kind : ℕ
  pub variables : ℕ
  pub locks : ℕ
  pub track_levels : List ℕ
  pub track_sizes : List ℕ
  pub channel_levels : List ℕ
  pub channel_sizes : List ℕ
  pub codes : List Code
