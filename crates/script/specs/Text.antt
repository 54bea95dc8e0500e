-- A script's text: its frames as bytes, their bytes as lines.
use Rattle.std.specs.Prelude.{ℕ, List, map}
use Rattle.codec.specs.Lines.{written}
use Rattle.codec.specs.Frames.{Frame, frame_bytes}
use Rattle.script.specs.Code.{Script}
use Rattle.script.specs.Trees.{script_frames}

-- The lines of frames.
abbrev pub text_of : List Frame → List ℕ
text_of fs = written (map frame_bytes fs)

-- The lines of a script.
abbrev pub script_text : Script → List ℕ
script_text sc = text_of (script_frames sc)
