-- A run as it is made stands for the beginning of its script.
use Rattle.std.proofs.Common.{◌≡◌, ℕ, zero, suc, ◌+◌, ◌<◌, ◌≤◌, true, false, T, List, [], ◌∷◌, map, length, get_or, take, drop, replicate, ℤ, pos, sym, refl, ap, ◌∙◌, subst, arith, length-take-le, get_or-take}
use lib.ListN
use lib.ListN.{length-map, length-replicate}
use Rattle.std.proofs.lemmas.List.{same_lists, get_or-map, get_or-replicate}
use Rattle.std.specs.List.{sum_by}
use Rattle.std.proofs.lemmas.List.Sums.{sum_by-cons}
use Rattle.model.proofs.Tests.{is_true}
use Rattle.script.specs.declared.faults.RunFault.TheVariants.{NoState}
use Rattle.lattice.specs.Levels.{Levels, Lawful}
use Rattle.codec.specs.Shapes.{head_of as as_head}
use Rattle.codec.specs.declared.frames.Head.{Head}
use Rattle.script.specs.Code.{Code, Script}
use Rattle.script.specs.Code.Code.{done}
use Rattle.script.specs.Trees.{head_of, script_frames, total}
use Rattle.model.specs.Values.{Cell as ModelCell, blank}
use Rattle.model.specs.Threads.{Thread, at_code, ended}
use Rattle.model.specs.Machine.{unused}
use Rattle.model.specs.Calls.{begin}
use Rattle.model.specs.Places.{StandsAt}
use Rattle.model.specs.Fitting.{Accounts, behind_thread}
use Rattle.model.proofs.Places.Fit.{places_fit}
use Rattle.runs.specs.declared.Mark.{Mark}
use Rattle.runs.specs.declared.Entry.{Entry}
use Rattle.runs.specs.declared.Port.{Port}
use Rattle.runs.specs.declared.Cell.{Cell}
use Rattle.runs.specs.declared.Core.{Core}
use Rattle.runs.specs.declared.declaring.Declared.{Declared}
use Rattle.runs.specs.Flat.{cell_of, channel_of, entry_of, first_mark, nil_cell, nil_entry, nil_mark, nil_place, nil_port, track_of}
use Rattle.runs.specs.Kept.{CodedLevels, entries_needed, room, samples_needed}
use Rattle.runs.specs.Views.{Declares, openers, size_of_port}
use Rattle.runs.specs.Memory.{Long, StandsFor, account, mark_levels, memory}
use Rattle.runs.specs.Declaring.{DeclaresAs, Fresh, FreshPorts, InSlab}
use Rattle.runs.specs.Starting.{Begins}
use Rattle.runs.specs.Finding.{is_long_enough}
use Rattle.runs.specs.Calls.{Made, NotMade}
use Rattle.runs.proofs.Begun.{begins_first}
use Rattle.runs.proofs.Found.{long_from, long_to}
use Rattle.runs.proofs.Stored.{Bounds, bounded, room_is}
use Rattle.runs.proofs.Viewing.{Keeps, levelled}

-- What ports hold together

total_by : (ps : List Port) → sum_by (λ (p : Port). p.size) ps ≡ total (map size_of_port ps)
total_by [] = refl
total_by (p ∷ ps) = sum_by-cons (λ (q : Port). q.size) p ps ∙ ap (λ (n : ℕ). p.size + n) (total_by ps)

room_total : (ps : List Port) (n : ℕ) → n ≤ length ps → room ps n ≡ total (map size_of_port (take n ps))
room_total ps n le = room_is ps n le ∙ total_by (take n ps)

-- Lists of one thing

-- Where f has one value at every one of these, the list of its values is as long as another list of that value.
one_value : {X : Type 0} (f : Port → X) (x : X) (ls : List ℕ) (ps : List Port) (n : ℕ) → n ≤ length ps → length ls ≡ n → ((h : ℕ) → h < n → f (get_or ps h nil_port) ≡ x) → map (λ (l : ℕ). x) ls ≡ map f (take n ps)
one_value f x ls ps n le long each =
    let cut = length-take-le n ps le in
    let a = length-map ls (λ (l : ℕ). x) in
    let b = length-map (take n ps) f in
    same_lists (map (λ (l : ℕ). x) ls) (map f (take n ps)) (omega arith)
    (λ i d lt. let below : i < n = omega arith in
    get_or-map (λ (l : ℕ). x) ls i 0 d (omega arith) ∙ sym (get_or-map f (take n ps) i nil_port d (omega arith) ∙ ap f (get_or-take n ps i nil_port below) ∙ each i below))

blank_cells : (n m : ℕ) → n ≤ m → replicate n blank ≡ map cell_of (take n (replicate m nil_cell))
blank_cells zero m le = refl
blank_cells (suc n) zero le = absurd (omega arith)
blank_cells (suc n) (suc m) le = ap (λ (cs : List ModelCell). blank ∷ cs) (blank_cells n m (omega arith))

module _ (kind : ℕ) (k : Levels) (lawful : Lawful k) (slab : List ℕ) (d : Declared) (shown : DeclaresAs kind k slab d) where
  -- The header's bounds.
  pub shown_bounds : Bounds (as_head d.head)
  shown_bounds = let h = shown.held in subst Bounds (shown.fresh shown.script h).head (bounded kind (head_of shown.script) h.valid.head)

  module _ (c : Core) (b : Begins slab d c) where
    eight_tracks : length c.tracks ≡ 8
    eight_tracks = ap length b.tracks ∙ shown.eight_tracks

    eight_channels : length c.channels ≡ 8
    eight_channels = ap length b.channels ∙ shown.eight_channels

    bounds : Bounds (as_head c.head)
    bounds = subst (λ (h : Head). Bounds (as_head h)) (sym b.head) shown_bounds

    module _ (sc : Script) (held : InSlab kind k slab sc) where
      fresh : Fresh sc d
      fresh = shown.fresh sc held

      own-tracks : FreshPorts sc.track_levels sc.track_sizes c.tracks c.head.tracks
      own-tracks = subst (λ (h : Head). FreshPorts sc.track_levels sc.track_sizes c.tracks h.tracks) (sym b.head) (subst (λ (ps : List Port). FreshPorts sc.track_levels sc.track_sizes ps d.head.tracks) (sym b.tracks) fresh.tracks)

      own-channels : FreshPorts sc.channel_levels sc.channel_sizes c.channels c.head.channels
      own-channels = subst (λ (h : Head). FreshPorts sc.channel_levels sc.channel_sizes c.channels h.channels) (sym b.head) (subst (λ (ps : List Port). FreshPorts sc.channel_levels sc.channel_sizes ps d.head.channels) (sym b.channels) fresh.channels)

      own-head : head_of sc ≡ as_head c.head
      own-head = fresh.head ∙ ap as_head (sym b.head)

      samples-in : samples_needed c ≡ total sc.track_sizes
      samples-in = let few = bounds.tracks in let e = eight_tracks in room_total c.tracks c.head.tracks (omega arith) ∙ ap total (sym own-tracks.sizes)

      entries-in : entries_needed c ≡ total sc.channel_sizes
      entries-in = let few = bounds.channels in let e = eight_channels in room_total c.channels c.head.channels (omega arith) ∙ ap total (sym own-channels.sizes)

      own-declares : Declares sc c
      own-declares = record {
        head = own-head;
        track_levels = own-tracks.levels;
        track_sizes = own-tracks.sizes;
        channel_levels = own-channels.levels;
        channel_sizes = own-channels.sizes;
      }

      -- Thread i at its beginning.
      begun-account : (ms : List Mark) (i : ℕ) → i < length sc.codes → Accounts k (script_frames sc) (behind_thread sc i) (account c ms i) (get_or (begin sc).threads i ended)
      begun-account ms i lt =
          let nt : d.head.tracks ≡ length sc.track_levels = ap (λ h. h.tracks) (sym fresh.head) in
          let nc : d.head.channels ≡ length sc.channel_levels = ap (λ h. h.channels) (sym fresh.head) in
          let ni : length sc.codes ≡ d.head.threads = ap (λ h. h.threads) fresh.head in
          let p = get_or c.threads i nil_place in
          let at = b.places kind k sc held (begins_first kind k sc (2 + d.head.tracks + d.head.channels) held.valid (omega arith)) i (omega arith) in
          let none = at.1.depth in
          let t : get_or (begin sc).threads i ended ≡ at_code (get_or sc.codes i done) [] = ListN.get_or-map (λ (x : Code). at_code x []) sc.codes i done in
          let here : StandsAt (script_frames sc) (behind_thread sc i) (record { place = p.at; openers = [] }) (at_code (get_or sc.codes i done) []) = record { stands = record { here = at.0 lt; opened = tt }; idle = tt } in
          let spots : openers ms (first_mark i) p.depth ≡ [] = ap (openers ms (first_mark i)) none in
          subst (λ (x : Thread). Accounts k (script_frames sc) (behind_thread sc i) (account c ms i) x) (sym t) (record {
            stands = subst (λ (os : List ℕ). StandsAt (script_frames sc) (behind_thread sc i) (record { place = p.at; openers = os }) (at_code (get_or sc.codes i done) [])) (sym spots) here;
            levels = ap (mark_levels ms (first_mark i)) none;
            coded = tt;
            pace = at.1.runs;
            idles = tt;
          })

      pub made_stands : (samples : List ℤ) (entries : List Entry) (ms : List Mark) → Long (memory c slab samples entries ms) → StandsFor kind k (memory c slab samples entries ms) sc (begin sc)
      made_stands samples entries ms long =
          let few-t = bounds.tracks in
          let few-c = bounds.channels in
          let few-v = bounds.variables in
          let et = eight_tracks in
          let ec = eight_channels in
          let nt : length sc.track_levels ≡ c.head.tracks = ap (λ h. h.tracks) own-head in
          let nc : length sc.channel_levels ≡ c.head.channels = ap (λ h. h.channels) own-head in
          let nv : sc.variables ≡ c.head.variables = ap (λ h. h.variables) own-head in
          let ni : length sc.codes ≡ d.head.threads = ap (λ h. h.threads) fresh.head in
          let cells = (λ i. replicate (nv i) blank) ∙ blank_cells c.head.variables 64 few-v ∙ ap (λ cs. map cell_of (take c.head.variables cs)) (sym b.cells) in
          let tracks = one_value (track_of samples) [] sc.track_levels c.tracks c.head.tracks (omega arith) nt (λ h lt. ap (λ (n : ℕ). take n (drop (get_or c.tracks h nil_port).start samples)) (own-tracks.empty h lt).0) in
          let channels = one_value (channel_of entries) unused sc.channel_levels c.channels c.head.channels (omega arith) nc
          (λ h lt. let e = own-channels.empty h lt in λ i. record { entries = map entry_of (take (e.0 i) (drop (get_or c.channels h nil_port).start entries)); missed = e.1 i }) in
          let start = begun-account ms in
          record {
            valid = held.valid;
            holds = held.holds;
            declares = own-declares;
            long = long;
            accounts = record { long = length-map sc.codes (λ (x : Code). at_code x []); each = start };
            ends = λ i lt.
                (b.places kind k sc held (begins_first kind k sc (2 + d.head.tracks + d.head.channels) held.valid (omega (arith, ap (λ h. h.tracks) fresh.head, ap (λ h. h.channels) fresh.head))) i (omega arith)).1.ends kind k (script_frames sc) held.holds;
            coded = (places_fit.starts_so k sc lawful (levelled kind k sc held.valid)).coded;
            is = λ i. record { cells = cells i; threads = (begin sc).threads; tracks = tracks i; channels = channels i; turns = sym b.turns i };
          }

    -- Every level is the open one.
    pub begins_coded : CodedLevels k c
    begins_coded x lt =
        is_true _ (subst (λ (l : ℕ). T (k.has l)) (sym (ap (λ (cs : List Cell). (get_or cs x nil_cell).level) b.cells ∙ ap (λ z. z.level) (get_or-replicate 64 x nil_cell nil_cell (let few = c.few.1 in omega arith)))) lawful.open_has)

    -- What every run keeps.
    pub begins_keeps : Keeps c
    begins_keeps =
        let sc = shown.script in
        let held = shown.held in
        let none = b.turns in
        let tracks = own-tracks sc held in
        let channels = own-channels sc held in
        record {
          small = (omega (arith, samples-in sc held, held.valid.track_room), omega (arith, entries-in sc held, held.valid.channel_room), omega arith);
          tracks = tracks.laid;
          fed = λ h lt. omega (arith, (tracks.empty h lt).0);
          channels = channels.laid;
          put = λ h lt. omega (arith, (channels.empty h lt).0);
          missed = λ h lt. omega (arith, (channels.empty h lt).1);
          whole = (ap length b.cells, b.eight, eight_tracks, eight_channels);
        }

    module _ (samples : List ℤ) (entries : List Entry) (ms : List Mark) where
      -- A slab is too short.
      pub made_not : is_long_enough c (length samples) (length entries) (length ms) ≡ false → NotMade kind k slab samples samples entries entries ms ms NoState
      made_not e = record {
        is = refl;
        lacks = λ sc v h enough.
            let held : InSlab kind k slab sc = record { valid = v; holds = h } in
            let s = samples-in sc held in
            let t = entries-in sc held in
            let fs = enough.for_samples in
            let fe = enough.for_entries in
            let long : Long (memory c slab samples entries ms) = record { samples = omega arith; entries = omega arith; marks = enough.for_marks } in
            let f : is_long_enough c (length samples) (length entries) (length ms) ≡ true = long_to (memory c slab samples entries ms) long in
            let z : ◌≡◌ {A = ℕ} 0 1 = cc in
            omega arith;
        same_samples = refl;
        same_entries = refl;
        same_marks = refl;
      }

      -- All are long enough, and zero now.
      pub made : {S : Type 0} (g : S) (samples' : List ℤ) (entries' : List Entry) (ms' : List Mark) → is_long_enough c (length samples) (length entries) (length ms) ≡ true
          → samples' ≡ replicate (length samples) (pos 0) → entries' ≡ replicate (length entries) nil_entry → ms' ≡ replicate (length ms) nil_mark → Made kind k slab samples samples' entries entries' ms ms' g c g
      made g samples' entries' ms' e zs ze zm =
          let long = long_from (memory c slab samples entries ms) e in
          let ls = ap length zs ∙ length-replicate (length samples) (pos 0) in
          let le = ap length ze ∙ length-replicate (length entries) nil_entry in
          let lm = ap length zm ∙ length-replicate (length ms) nil_mark in
          let sc = shown.script in
          let held = shown.held in
          record {
            made_of = sc;
            held = held;
            enough = record { for_samples = omega (arith, samples-in sc held, long.samples); for_entries = omega (arith, entries-in sc held, long.entries); for_marks = long.marks };
            begins = λ sc v h. made_stands sc (record { valid = v; holds = h }) samples' entries' ms' (record { samples = omega (arith, long.samples); entries = omega (arith, long.entries); marks = omega (arith, long.marks) });
            scheduler = refl;
            zero_samples = zs;
            zero_entries = ze;
            zero_marks = zm;
          }
