-- What the code reads of variables and tracks is what the model reads.
use Rattle.std.proofs.Common.{◌≡◌, ℕ, ◌+◌, ◌<◌, ◌≤◌, List, [], length, get_or, take, drop, ℤ, pos, w32, to_z, sym, ap, ◌∙◌, arith, length-drop, length-take-le, get_or-take}
use Rattle.std.proofs.lemmas.Int.{to_z-of_z}
use lib.ListN.{get_or-map}
use Rattle.model.specs.Values.{blank}
use Rattle.runs.specs.declared.Core.{Core}
use Rattle.runs.specs.Flat.{nil_cell, nil_port, cell_of, cells_of, track_of, tracks_of}

pub cell_value_at : (c : Core) (x : ℕ) → x < c.head.variables → (get_or c.cells x nil_cell).value ≡ (get_or (cells_of c) x blank).value
cell_value_at c x lt = sym (ap (λ z. z.value) (get_or-map cell_of (take c.head.variables c.cells) x nil_cell) ∙ ap (λ z. z.value) (get_or-take c.head.variables c.cells x nil_cell lt))

pub track_at : (c : Core) (ss : List ℤ) (t : ℕ) → t < c.head.tracks → get_or (tracks_of c ss) t [] ≡ track_of ss (get_or c.tracks t nil_port)
track_at c ss t lt = get_or-map (track_of ss) (take c.head.tracks c.tracks) t nil_port ∙ ap (track_of ss) (get_or-take c.head.tracks c.tracks t nil_port lt)

-- How many samples a track holds, as a signed number.
pub held_is : (c : Core) (ss : List ℤ) (t : ℕ) → t < c.head.tracks → (get_or c.tracks t nil_port).start + (get_or c.tracks t nil_port).count ≤ length ss → (get_or c.tracks t nil_port).count ≤ 2048
    → to_z w32 (get_or c.tracks t nil_port).count ≡ pos (length (get_or (tracks_of c ss) t []))
held_is c ss t lt inside few =
    let p = get_or c.tracks t nil_port in
    let long = length-drop p.start ss in
    to_z-of_z w32 (pos p.count) (record { sfits = omega arith })
    ∙ ap pos (sym (ap length (track_at c ss t lt) ∙ length-take-le p.count (drop p.start ss) (omega arith)))
