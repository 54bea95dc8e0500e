-- A frame of the code as the definition's, and the frame of bytes by their kind and length.
use Rattle.std.specs.Prelude.{ℕ, Bool, true, ◌&&◌, List, nat_le}
use Rattle.codec.specs.Expressions.{Expr, decode}
use Rattle.codec.specs.Frames.{Read}
use Rattle.codec.specs.Frames as M
use Rattle.codec.specs.Frames.Frame.{header, track, channel, thread, thread_end, skip, assign, put, if, else, end_if, while, end_while, with, end_with, last}
use Rattle.codec.specs.declared.frames.Head.{Head}
use Rattle.codec.specs.declared.frames.Frame.{Frame}
use Rattle.codec.specs.declared.frames.Frame.TheVariants.{Header, Track, Channel, Thread, ThreadEnd, Skip, Assign, Put, If, Else, EndIf, While, EndWhile, With, EndWith, Last}

-- The length of an expression.
abbrev pub fitting : ℕ → Bool
fitting n = nat_le 1 n && nat_le n 48

-- A header.
abbrev pub head_of : Head → M.Head
head_of h = record { version = h.version; kind = h.kind; threads = h.threads; variables = h.variables; tracks = h.tracks; channels = h.channels; locks = h.locks }

-- A frame without an expression, or with one that was decoded to its end.
abbrev pub whole : M.Frame → Read
whole f = record { frame = f; whole = true }

-- A frame with an expression, as far as that can be decoded.
abbrev pub decoded : (Expr → M.Frame) → List ℕ → Read
decoded f bs = record { frame = f (decode 0 bs).ops; whole = (decode 0 bs).whole }

-- What each frame of the code stands for; an expression is the bytes that it borrows.
abbrev pub read_of : Frame → Read
read_of (Header h) = whole (header (head_of h))
read_of (Track s) = whole (track s.number s.level s.capacity)
read_of (Channel s) = whole (channel s.number s.level s.capacity)
read_of (Thread n) = whole (thread n)
read_of ThreadEnd = whole thread_end
read_of Skip = whole skip
read_of (Assign v e) = decoded (assign v) e.now
read_of (Put h e) = decoded (put h) e.now
read_of (If e) = decoded if e.now
read_of Else = whole else
read_of EndIf = whole end_if
read_of (While e) = decoded while e.now
read_of EndWhile = whole end_while
read_of (With m e) = decoded (with m) e.now
read_of EndWith = whole end_with
read_of (Last n) = whole (last n)
