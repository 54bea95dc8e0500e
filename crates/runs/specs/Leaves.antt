-- What turns leave as it was.
use Rattle.std.specs.Prelude.{◌≡◌, ℕ, ◌+◌, ◌<◌, ◌≤◌, ◌⊎◌, length, slice_index_or}
use Rattle.runs.specs.declared.Port.{Port}
use Rattle.runs.specs.Flat.{Mem, nil_mark, nil_port, nil_entry}

-- A channel keeps its level and its part of the memory, and has no fewer entries.
pub record Grown (q p : Port) : Type 0 where
  pub level : p.level ≡ q.level
  pub start : p.start ≡ q.start
  pub size : p.size ≡ q.size
  pub count : q.count ≤ p.count

-- Slot j has none of the channel's entries.
abbrev pub Outside : Port → ℕ → Type 0
Outside p j = (j < p.start) ⊎ (p.start + p.count ≤ j)

-- From x to y: the header, the tracks and each channel's part are the same, and so is every mark past the 128th and every slot that has no entry of a channel.
pub record Leaves (x y : Mem) : Type 0 where
  pub head : y.core.head ≡ x.core.head
  pub tracks : y.core.tracks ≡ x.core.tracks
  pub ports : (h : ℕ) → Grown (slice_index_or x.core.channels h nil_port) (slice_index_or y.core.channels h nil_port)
  pub long_marks : length y.marks ≡ length x.marks
  pub long_entries : length y.entries ≡ length x.entries
  pub marks : (j : ℕ) → 128 ≤ j → slice_index_or y.marks j nil_mark ≡ slice_index_or x.marks j nil_mark
  pub entries : (j : ℕ) → ((h : ℕ) → h < x.core.head.channels → Outside (slice_index_or y.core.channels h nil_port) j) → slice_index_or y.entries j nil_entry ≡ slice_index_or x.entries j nil_entry
