-- Writing frames as lines.
use Rattle.std.specs.Prelude.{◌≡◌, ℕ, ◌+◌, ◌<◌, ◌≤◌, List, [], ◌∷◌, ◌++◌, length, take, drop, Option, MatchOption}
use Rattle.std.specs.List.{AllByRecursion}
use Rattle.codec.specs.Lines.{digits}
use Rattle.codec.specs.Frames.{Frame}
use Rattle.codec.specs.Writable.{Writable}
use Rattle.script.specs.Slabs.{slab_of}
use Rattle.script.specs.Text.{text_of}

-- The line of a frame's bytes.
abbrev pub line_of : List ℕ → List ℕ
line_of bytes = digits bytes ++ (0x0A ∷ [])

-- A line stands in the output from n to m; before and behind it nothing has changed.
pub record LinePut (bytes out end : List ℕ) (n m : ℕ) : Type 0 where
  pub more : m ≡ n + length (line_of bytes)
  pub within : m ≤ length out
  pub is : end ≡ take n out ++ (line_of bytes ++ drop m out)

-- One line is put, or it does not fit.
abbrev pub PutLine : List ℕ → List ℕ → List ℕ → ℕ → Option ℕ → Type 0
PutLine bytes out end n r = MatchOption r (length out < n + length (line_of bytes)) (LinePut bytes out end n)

-- Frames in the first slots of a slab.
pub record Slotted (slab : List ℕ) (n : ℕ) (fs : List Frame) : Type 0 where
  pub writable : AllByRecursion Writable fs
  pub count : length fs ≡ n
  pub slots : take 26112 slab ≡ slab_of fs

-- The lines of frames at the front of the output, and m is their length.
pub record AllPut (fs : List Frame) (out end : List ℕ) (m : ℕ) : Type 0 where
  pub long : m ≡ length (text_of fs)
  pub is : end ≡ text_of fs ++ drop m out

-- The frames in the first n slots are put, or they do not fit.
abbrev pub Puts : List ℕ → ℕ → List ℕ → List ℕ → Option ℕ → Type 0
Puts slab n out end r = (fs : List Frame) → Slotted slab n fs → MatchOption r (length out < length (text_of fs)) (AllPut fs out end)
