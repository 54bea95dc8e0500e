-- A walk over a script's table of steps, as the machine's walk over its frames.
use Rattle.std.specs.Prelude.{◌≡◌, ℕ, ◌+◌, ◌-◌, cond, List, replicate, nat_lt, slice_set}
use Rattle.lattice.specs.Levels.{Levels}
use Rattle.codec.specs.Frames.{Head}
use Rattle.script.specs.Code.{Script}
use Rattle.script.specs.Trees.{script_frames, ValidScript}
use Rattle.model.specs.Fitting.{Walk, around, stacked}
use Rattle.survey.specs.Table.{Tabled}
use Rattle.survey.specs.declared.table.Kind.{Kind}
use Rattle.survey.specs.declared.table.Kind.TheVariants.{Other, Begin, End, Skip, Assign, Put, If, Else, EndIf, While, EndWhile, With, EndWith}
use Rattle.survey.specs.declared.table.Step.{Step}
use Rattle.survey.specs.declared.around.Around.{Around}

-- Before the first frame.
abbrev pub no_around : Around
no_around = record { begun = 0; ended = 0; openers = replicate 16 0; depth = 0 }

-- Into a block that begins at place p, where there is room for one more.
abbrev pub entered : ℕ → Around → Around
entered p w = cond (nat_lt w.depth 16) (record { begun = w.begun; ended = w.ended; openers = slice_set w.openers w.depth p; depth = w.depth + 1 }) w

-- Out of the innermost block.
abbrev pub left : Around → Around
left w = record { begun = w.begun; ended = w.ended; openers = w.openers; depth = w.depth - 1 }

-- Over a frame of this kind at place p.
abbrev pub strode : ℕ → Kind → Around → Around
strode p Other w = w
strode p Begin w = record { begun = w.begun + 1; ended = w.ended; openers = w.openers; depth = w.depth }
strode p End w = record { begun = w.begun; ended = w.ended + 1; openers = w.openers; depth = w.depth }
strode p Skip w = w
strode p Assign w = w
strode p Put w = w
strode p If w = entered p w
strode p Else w = w
strode p EndIf w = left w
strode p While w = entered p w
strode p EndWhile w = left w
strode p With w = entered p w
strode p EndWith w = left w

-- What was met is what the machine's walk has met, with the openers in an array.
pub record Met (r : Around) (w : Walk) : Type 0 where
  pub begun : r.begun ≡ w.begun
  pub ended : r.ended ≡ w.ended
  pub openers : stacked r.openers r.depth ≡ w.openers

-- Of every valid script whose table this is, the walk has met at this place what the machine's walk over the frames meets.
abbrev pub Walks : List Step → ℕ → Around → Type 0
Walks table place r =
    (kind : ℕ) (k : Levels) (sc : Script) (h : Head) (code : List ℕ) → ValidScript kind k sc → Tabled h code table (script_frames sc)
    → Met r (around (script_frames sc) place)
