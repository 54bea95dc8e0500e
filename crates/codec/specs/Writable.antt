-- What can be written: the frames whose fields fit their bytes.
use Rattle.std.specs.Prelude.{ℕ, ◌<◌, ◌≤◌, List, length, FitsSigned}
use Rattle.std.specs.Int.{w32}
use Rattle.std.specs.List.{AllByRecursion}
use Rattle.codec.specs.Expressions.{Op, Expr, expr_bytes}
use Rattle.codec.specs.Expressions.Op.{constant, variable, sample, held, binary, unary}
use Rattle.codec.specs.Frames.{Frame, frame_bytes}
use Rattle.codec.specs.Frames.Frame.{header, track, channel, thread, thread_end, skip, assign, put, if, else, end_if, while, end_while, with, end_with, last}

-- Numbers that are bytes.
abbrev pub Bytes : List ℕ → Type 0
Bytes bs = AllByRecursion (λ b. b < 256) bs

-- Constants are signed 32-bit.
abbrev pub OpFits : Op → Type 0
OpFits (constant z) = FitsSigned w32 z
OpFits (variable x) = Unit {0}
OpFits (sample t) = Unit {0}
OpFits (held t) = Unit {0}
OpFits (binary b) = Unit {0}
OpFits (unary u) = Unit {0}

-- An expression of 1 to 48 bytes.
abbrev pub ExprFits : Expr → Type 0
ExprFits e = (1 ≤ length (expr_bytes e)) × (length (expr_bytes e) ≤ 48) × AllByRecursion OpFits e

-- The expression of a frame, if it has one, fits.
abbrev pub FrameFits : Frame → Type 0
FrameFits (header h) = Unit {0}
FrameFits (track i l z) = Unit {0}
FrameFits (channel i l z) = Unit {0}
FrameFits (thread i) = Unit {0}
FrameFits thread_end = Unit {0}
FrameFits skip = Unit {0}
FrameFits (assign x e) = ExprFits e
FrameFits (put h e) = ExprFits e
FrameFits (if e) = ExprFits e
FrameFits else = Unit {0}
FrameFits end_if = Unit {0}
FrameFits (while e) = ExprFits e
FrameFits end_while = Unit {0}
FrameFits (with m e) = ExprFits e
FrameFits end_with = Unit {0}
FrameFits (last m) = Unit {0}

-- A frame that can be written: its fields fit their bytes, and its expression fits.
abbrev pub Writable : Frame → Type 0
Writable f = Bytes (frame_bytes f) × FrameFits f
