-- The bounds of a script's header.
use Rattle.std.specs.Prelude.{◌≤◌}
use Rattle.codec.specs.declared.frames.Head.{Head}

-- As many threads, variables, tracks and channels as a run has room for, or fewer.
abbrev pub Few : Head → Type 0
Few h = (h.threads ≤ 8) × (h.variables ≤ 64) × (h.tracks ≤ 8) × (h.channels ≤ 8)
