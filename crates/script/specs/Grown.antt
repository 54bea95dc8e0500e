-- The tree of a script's frames, grown from the last frame to the first.
use Rattle.std.specs.Prelude.{List, [], ◌∷◌}
use Rattle.script.specs.Code.{Code, Script}
use Rattle.script.specs.Code.Code.{done, skip, assign, put, branch, loop, lock}
use Rattle.codec.specs.Frames.{Frame}
use Rattle.codec.specs.Frames.Frame.{header, track, channel, thread, thread_end, if, else, end_if, while, end_while, with, end_with, last}

-- What an open block still has to come: the code behind its else, if it has one before it, and the code behind its end.
pub record Ending : Type 0 where
  pub other : Code
  pub next : Code

-- What stands from a place on: the script's rest, the code to the innermost open block's end, and the endings of the open blocks.
pub record Grown : Type 0 where
  pub script : Script
  pub code : Code
  pub endings : List Ending

-- Nothing declared yet.
abbrev pub no_script : Script
no_script = record { kind = 0; variables = 0; locks = 0; track_levels = []; track_sizes = []; channel_levels = []; channel_sizes = []; codes = [] }

-- Outside a thread.
abbrev pub no_code : Script → Grown
no_code sc = record { script = sc; code = done; endings = [] }

-- The ending of the innermost open block.
abbrev pub now_ends : List Ending → Ending
now_ends [] = record { other = done; next = done }
now_ends (e ∷ es) = e

-- Those of the blocks around it.
abbrev pub later_ends : List Ending → List Ending
later_ends [] = []
later_ends (e ∷ es) = es

-- The same place with other code and endings.
abbrev pub with_code : Grown → Code → List Ending → Grown
with_code g c es = record { script = g.script; code = c; endings = es }

-- One more frame in front.
abbrev pub grow : Frame → Grown → Grown
grow (header h) g = no_code (record { kind = h.kind; variables = h.variables; locks = h.locks; track_levels = g.script.track_levels; track_sizes = g.script.track_sizes; channel_levels = g.script.channel_levels; channel_sizes = g.script.channel_sizes; codes = g.script.codes })
grow (track i l z) g = no_code (record { kind = 0; variables = 0; locks = 0; track_levels = l ∷ g.script.track_levels; track_sizes = z ∷ g.script.track_sizes; channel_levels = g.script.channel_levels; channel_sizes = g.script.channel_sizes; codes = g.script.codes })
grow (channel i l z) g = no_code (record { kind = 0; variables = 0; locks = 0; track_levels = g.script.track_levels; track_sizes = g.script.track_sizes; channel_levels = l ∷ g.script.channel_levels; channel_sizes = z ∷ g.script.channel_sizes; codes = g.script.codes })
grow (thread i) g = no_code (record { kind = 0; variables = 0; locks = 0; track_levels = g.script.track_levels; track_sizes = g.script.track_sizes; channel_levels = g.script.channel_levels; channel_sizes = g.script.channel_sizes; codes = g.code ∷ g.script.codes })
grow thread_end g = with_code g done []
grow Frame.skip g = with_code g (skip g.code) g.endings
grow (Frame.assign x e) g = with_code g (assign x e g.code) g.endings
grow (Frame.put h e) g = with_code g (put h e g.code) g.endings
grow (if e) g = with_code g (branch e g.code (now_ends g.endings).other (now_ends g.endings).next) (later_ends g.endings)
grow else g = with_code g done (record { other = g.code; next = (now_ends g.endings).next } ∷ later_ends g.endings)
grow end_if g = with_code g done (record { other = done; next = g.code } ∷ g.endings)
grow (while e) g = with_code g (loop e g.code (now_ends g.endings).next) (later_ends g.endings)
grow end_while g = with_code g done (record { other = done; next = g.code } ∷ g.endings)
grow (with m e) g = with_code g (lock m e g.code (now_ends g.endings).next) (later_ends g.endings)
grow end_with g = with_code g done (record { other = done; next = g.code } ∷ g.endings)
grow (last m) g = no_code no_script

-- What stands from the first of these frames on.
abbrev pub grown : List Frame → Grown
grown [] = no_code no_script
grown (f ∷ fs) = grow f (grown fs)

-- The script of frames.
abbrev pub script_of : List Frame → Script
script_of fs = (grown fs).script
