-- What a survey of a stretch of commands answers.
use Rattle.std.specs.Prelude.{◌≡◌, ℕ, ◌+◌, ◌/◌, ◌%◌, ◌^◌, ◌<◌, max, Bool, true, false, ◌&&◌, T, List, [], ◌∷◌, drop, bit_or, ◌==◌}
use Rattle.lattice.specs.Levels.{Levels}
use Rattle.codec.specs.Frames.{Frame}
use Rattle.codec.specs.Frames.Frame.{header, track, channel, thread, thread_end, if, else, end_if, while, end_while, with, end_with, last}
use Rattle.script.specs.Code.{Code}
use Rattle.script.specs.Trees.{flatten}
use Rattle.script.specs.Slabs.{Holds}
use Rattle.model.specs.Stretches.{assigns, measure, needs}
use Rattle.survey.specs.Bits.{bit}
use Rattle.survey.specs.declared.Stretch.{Stretch}

-- Whether a mask has bit x.
abbrev pub has_bit : ℕ → ℕ → Bool
has_bit mask x = mask / 2 ^ x % 2 == 1

-- What is told of a stretch: fixed time and duration, the locks that it names, and for each of 64 variables whether it assigns it.
pub record Surveyed (c : Code) (s : Stretch) : Type 0 where
  pub fixed : s.fixed ≡ (measure c).fixed
  pub duration : s.duration ≡ (measure c).duration
  pub needed : s.needed ≡ needs c
  pub assigned : (x : ℕ) → x < 64 → has_bit s.assigned x ≡ assigns x c

-- No command, at a place.
abbrev pub no_command : ℕ → Stretch
no_command at = record { fixed = true; duration = 0; needed = 0; assigned = 0; end = at }

-- No turn, at a place, but a variable that is assigned.
abbrev pub assigning : ℕ → ℕ → Stretch
assigning x at = record { fixed = true; duration = 0; needed = 0; assigned = bit x; end = at }

-- The body of a with, under locks whose condition is literal one or not.
abbrev pub held : ℕ → Bool → Stretch → Stretch
held m one b = record { fixed = one && b.fixed; duration = b.duration; needed = bit_or m b.needed; assigned = b.assigned; end = b.end }

-- The two ways of an if as one, which lasts as long as the longer way.
abbrev pub both_ways : Stretch → Stretch → Stretch
both_ways a b = record {
  fixed = a.fixed && b.fixed;
  duration = max a.duration b.duration;
  needed = bit_or a.needed b.needed;
  assigned = bit_or a.assigned b.assigned;
  end = b.end;
}

-- So many turns with stretch a, and what follows.
abbrev pub followed : Stretch → ℕ → Stretch → Stretch
followed a turns s = record {
  fixed = a.fixed && s.fixed;
  duration = a.duration + s.duration + turns;
  needed = bit_or a.needed s.needed;
  assigned = bit_or a.assigned s.assigned;
  end = s.end;
}

-- A while with body b, and what follows.
abbrev pub repeated : Stretch → Stretch → Stretch
repeated b s = record { fixed = false; duration = 0; needed = bit_or b.needed s.needed; assigned = bit_or b.assigned s.assigned; end = s.end }

-- A frame that ends a stretch.
abbrev pub closing : Frame → Bool
closing (header h) = false
closing (track i l z) = false
closing (channel i l z) = false
closing (thread i) = false
closing thread_end = true
closing Frame.skip = false
closing (Frame.assign x e) = false
closing (Frame.put h e) = false
closing (if e) = false
closing else = true
closing end_if = true
closing (while e) = false
closing end_while = true
closing (with m e) = false
closing end_with = true
closing (last m) = false

-- Frames that begin with one.
abbrev pub Closed : List Frame → Type 0
Closed [] = ⊥
Closed (f ∷ fs) = T (closing f)

-- Of every script that the slab holds: whatever stretch stands at the place, up to a frame that ends it, is told as it is, and that frame stands at its end.
abbrev pub Survey : List ℕ → ℕ → Stretch → Type 0
Survey slab at s =
    (kind : ℕ) (k : Levels) (fs : List Frame) → Holds kind k slab fs → (c : Code) (r : List Frame) → drop at fs ≡ flatten c r → Closed r
    → Surveyed c s × (drop s.end fs ≡ r)

-- The measuring alone: the pair of whether the stretch at a place takes a fixed time, and its duration.
abbrev pub Measures : List ℕ → ℕ → Bool × ℕ → Type 0
Measures slab at m =
    (kind : ℕ) (k : Levels) (fs : List Frame) → Holds kind k slab fs → (c : Code) (r : List Frame) → drop at fs ≡ flatten c r → Closed r
    → (m.0 ≡ (measure c).fixed) × (m.1 ≡ (measure c).duration)
