-- Frames: what the bytes of a frame say. Every fault here is number 2, so `none` stands for it.
use Rattle.std.specs.Prelude.{ℕ, ◌+◌, ◌*◌, Bool, true, cond, ◌&&◌, List, [], ◌∷◌, ◌++◌, length, nat_le}
use Rattle.std.proofs.Math.Option.{Option, none, some}
use Rattle.codec.specs.Tables.{Row, ◌reads◌, look_up}
use Rattle.codec.specs.Expressions.{Expr, decode, number_4, two, four, expr_bytes}

-- What a header declares.
pub record Head : Type 0 where
  pub version : ℕ
  pub kind : ℕ
  pub threads : ℕ
  pub variables : ℕ
  pub tracks : ℕ
  pub channels : ℕ
  pub locks : ℕ

-- A frame: what a line says. Tracks and channels have a number, a level and a capacity.
pub data Frame : Type 0 where
  header : Head → Frame
  track channel : ℕ → ℕ → ℕ → Frame
  thread : ℕ → Frame
  thread_end : Frame
  skip : Frame
  assign put : ℕ → Expr → Frame
  if : Expr → Frame
  else end_if : Frame
  while : Expr → Frame
  end_while : Frame
  with : ℕ → Expr → Frame
  end_with : Frame
  last : ℕ → Frame

-- A frame as it was read. Its expression goes as far as it can be decoded; `whole` says whether that is to its end.
pub record Read : Type 0 where
  pub frame : Frame
  pub whole : Bool

-- The frame with an expression of 1 to 48 bytes.
abbrev pub with_expression : (Expr → Frame) → List ℕ → Option Read
with_expression f bs =
    cond (nat_le 1 (length bs) && nat_le (length bs) 48) (let e = decode 0 bs in some (record { frame = f e.ops; whole = e.whole })) none

-- Frames by their kind: the bytes behind it

-- A frame without an expression.
abbrev pub plain : Frame → Option Read
plain f = some (record { frame = f; whole = true })

-- No byte behind the kind.
abbrev pub with_nothing : Frame → List ℕ → Option Read
with_nothing f [] = plain f
with_nothing f (b ∷ bs) = none

-- One byte.
abbrev pub with_byte : (ℕ → Frame) → List ℕ → Option Read
with_byte f [] = none
with_byte f (a ∷ []) = plain (f a)
with_byte f (a ∷ b ∷ bs) = none

-- Two bytes, which are one number.
abbrev pub with_two : (ℕ → Frame) → List ℕ → Option Read
with_two f [] = none
with_two f (a ∷ []) = none
with_two f (a ∷ b ∷ []) = plain (f (a * 256 + b))
with_two f (a ∷ b ∷ c ∷ bs) = none

-- Exactly seven bytes, from the first on.
abbrev pub with_seven : (ℕ → ℕ → ℕ → ℕ → ℕ → ℕ → ℕ → Frame) → List ℕ → Option Read
with_seven f [] = none
with_seven f (a ∷ []) = none
with_seven f (a ∷ b ∷ []) = none
with_seven f (a ∷ b ∷ c ∷ []) = none
with_seven f (a ∷ b ∷ c ∷ d ∷ []) = none
with_seven f (a ∷ b ∷ c ∷ d ∷ e ∷ []) = none
with_seven f (a ∷ b ∷ c ∷ d ∷ e ∷ g ∷ []) = none
with_seven f (a ∷ b ∷ c ∷ d ∷ e ∷ g ∷ h ∷ []) = plain (f a b c d e g h)
with_seven f (a ∷ b ∷ c ∷ d ∷ e ∷ g ∷ h ∷ i ∷ bs) = none

-- One byte, and the rest an expression.
abbrev pub field_then : (ℕ → Expr → Frame) → List ℕ → Option Read
field_then f [] = none
field_then f (a ∷ bs) = with_expression (f a) bs

-- Two bytes, which are a lock mask, and the rest an expression.
abbrev pub mask_then : (ℕ → Expr → Frame) → List ℕ → Option Read
mask_then f [] = none
mask_then f (a ∷ []) = none
mask_then f (a ∷ b ∷ bs) = with_expression (f (a * 256 + b)) bs

-- The seven bytes of a header.
abbrev pub header_of : ℕ → ℕ → ℕ → ℕ → ℕ → ℕ → ℕ → Frame
header_of v k n x t c l = header (record { version = v; kind = k; threads = n; variables = x; tracks = t; channels = c; locks = l })

-- The seven bytes of a track or a channel: number, level, capacity.
abbrev pub store_of : (ℕ → ℕ → ℕ → Frame) → ℕ → ℕ → ℕ → ℕ → ℕ → ℕ → ℕ → Frame
store_of f n a b c d e g = f n (number_4 a b c d) (e * 256 + g)

-- All kinds of frames.
abbrev pub kinds : List (Row Read)
kinds =
    (0x01 reads with_seven header_of) ∷
    (0x02 reads with_seven (store_of track)) ∷
    (0x03 reads with_seven (store_of channel)) ∷
    (0x20 reads with_byte thread) ∷
    (0x21 reads with_nothing thread_end) ∷
    (0x30 reads with_nothing skip) ∷
    (0x31 reads field_then assign) ∷
    (0x32 reads field_then put) ∷
    (0x40 reads with_expression if) ∷
    (0x41 reads with_nothing else) ∷
    (0x42 reads with_nothing end_if) ∷
    (0x43 reads with_expression while) ∷
    (0x44 reads with_nothing end_while) ∷
    (0x45 reads mask_then with) ∷
    (0x46 reads with_nothing end_with) ∷
    (0x7F reads with_two last) ∷ []

-- A frame from its bytes; `none` if its kind is unknown or its length is not its kind's.
unfoldable pub frame_of : List ℕ → Option Read
frame_of [] = none
frame_of (k ∷ bs) = look_up kinds k bs

-- The bytes of a frame

-- The bytes of each kind.
abbrev pub frame_bytes : Frame → List ℕ
frame_bytes (header h) = 0x01 ∷ h.version ∷ h.kind ∷ h.threads ∷ h.variables ∷ h.tracks ∷ h.channels ∷ h.locks ∷ []
frame_bytes (track i l z) = 0x02 ∷ i ∷ (four l ++ two z)
frame_bytes (channel i l z) = 0x03 ∷ i ∷ (four l ++ two z)
frame_bytes (thread i) = 0x20 ∷ i ∷ []
frame_bytes thread_end = 0x21 ∷ []
frame_bytes skip = 0x30 ∷ []
frame_bytes (assign x e) = 0x31 ∷ x ∷ expr_bytes e
frame_bytes (put h e) = 0x32 ∷ h ∷ expr_bytes e
frame_bytes (if e) = 0x40 ∷ expr_bytes e
frame_bytes else = 0x41 ∷ []
frame_bytes end_if = 0x42 ∷ []
frame_bytes (while e) = 0x43 ∷ expr_bytes e
frame_bytes end_while = 0x44 ∷ []
frame_bytes (with m e) = 0x45 ∷ (two m ++ expr_bytes e)
frame_bytes end_with = 0x46 ∷ []
frame_bytes (last m) = 0x7F ∷ two m
