-- Tracks and channels: how much they hold together, and what a script declares of them.
use Rattle.std.proofs.Common.{◌≡◌, ℕ, zero, suc, ◌+◌, ◌<◌, ◌≤◌, Bool, ◌&&◌, T, eqb, leb, List, [], ◌∷◌, ◌++◌, map, length, get_or, take, set, sym, refl, ap, ◌∙◌, subst, ⊎_elim, add-one, arith, leb→le, length-take-le, get_or-set_other, get_or-take, get_or-set_same}
use mathlib.Core.Option.{some}
use lib.ListN.{length-map}
use Rattle.std.proofs.lemmas.List.{same_lists, get_or-map, get_or_append_left, get_or_default}
use Rattle.std.specs.List.{sum_by}
use Rattle.std.proofs.lemmas.Bool.{cases_lt}
use Rattle.std.proofs.lemmas.List.Sums.{sum_by_more}
use Rattle.lattice.specs.Levels.{Levels}
use Rattle.codec.specs.Frames.{Frame, Head}
use Rattle.codec.specs.Frames.Frame.{track, channel}
use Rattle.codec.specs.Shapes.{head_of as as_head, whole}
use Rattle.script.specs.Code.{Code, Script}
use Rattle.script.specs.Code.Code.{done, skip, assign, put, branch, loop, lock}
use Rattle.script.specs.Format.{Seen, between, head_in_range, nothing_seen, seen_after, through}
use Rattle.script.specs.Slabs.{Holds, frame_number}
use Rattle.script.specs.Promises.{Held}
use Rattle.script.specs.Trees.{flatten, thread_frames, store_frames, head_of, script_frames}
use Rattle.script.specs.declared.Declarations.{Declarations}
use Rattle.script.proofs.Text.{text_accepted}
use Rattle.model.proofs.Tests.{and_left, and_right}
use Rattle.runs.specs.declared.Port.{Port}
use Rattle.runs.specs.Flat.{level_of_port, nil_port}
use Rattle.runs.specs.Kept.{room}
use Rattle.runs.specs.Views.{size_of_port}
use Rattle.runs.specs.Declaring.{fresh_port, declared_port, PortAt, PortsAt, FreshPorts, InSlab, DeclaresAs}

pub room_none : (ps : List Port) → room ps 0 ≡ 0
unfolding room
room_none ps = refl

pub room_more : (ps : List Port) (n : ℕ) → room ps (suc n) ≡ room ps n + (get_or ps n nil_port).size
unfolding room
room_more ps n = refl

-- What they hold together is the sum of their sizes.
pub room_is : (ps : List Port) (n : ℕ) → n ≤ length ps → room ps n ≡ sum_by (λ (p : Port). p.size) (take n ps)
unfolding room
room_is ps zero le = refl
room_is ps (suc n) le =
    ap (λ (x : ℕ). x + (get_or ps n nil_port).size) (room_is ps n (omega arith))
    ∙ sym (ap (λ (m : ℕ). sum_by (λ (p : Port). p.size) (take m ps)) (sym (add-one n)) ∙ sum_by_more (λ (p : Port). p.size) ps n nil_port (omega arith))

-- A part behind the first n does not count among them.
pub room_set : (ps : List Port) (h : ℕ) (p : Port) (n : ℕ) → n ≤ h → room (set ps h p) n ≡ room ps n
unfolding room
room_set ps h p zero le = refl
room_set ps h p (suc n) le =
    λ i. room_set ps h p n (omega arith) i + (get_or-set_other ps h n p nil_port (λ (q : n ≡ h). omega arith) i).size

-- Nor does what follows them in the list.
room_front : (ps qs : List Port) (n : ℕ) → n ≤ length ps → room (ps ++ qs) n ≡ room ps n
unfolding room
room_front ps qs zero le = refl
room_front ps qs (suc n) le = λ i. room_front ps qs n (omega arith) i + (get_or_append_left ps qs nil_port n (omega arith) i).size

-- Those of the same sizes hold as much together.
pub room_same : (ps qs : List Port) (n : ℕ) → ((h : ℕ) → (get_or qs h nil_port).size ≡ (get_or ps h nil_port).size) → room qs n ≡ room ps n
unfolding room
room_same ps qs zero same = refl
room_same ps qs (suc n) same = λ i. room_same ps qs n same i + same n i

-- The part of one of n lies in what they hold together.
pub room_part : (ps : List Port) (h n : ℕ) → h < n → room ps h + (get_or ps h nil_port).size ≤ room ps n
room_part ps h zero lt = absurd (omega arith)
room_part ps h (suc n) lt = ⊎_elim
    (λ (less : h < n). let before = room_part ps h n less in let more = room_more ps n in omega arith)
    (λ (ge : n ≤ h). let e : n ≡ h = omega arith in let more = room_more ps n in subst (λ (x : ℕ). room ps x + (get_or ps x nil_port).size ≤ room ps (suc n)) e (omega arith))
    (cases_lt h n)

-- One track or channel more.
pub ports_more : (slab : List ℕ) (first h : ℕ) (ps : List Port) (p : Port) → h < length ps → PortsAt slab first h ps → PortAt slab (first + h) (room ps h) p → PortsAt slab first (h + 1) (set ps h p)
ports_more slab first h ps p within before here j lt = ⊎_elim
    (λ (less : j < h).
    let P : Port → Type 0 = λ q. PortAt slab (first + j) (room (set ps h p) j) q in
    let R : ℕ → Type 0 = λ n. PortAt slab (first + j) n (get_or ps j nil_port) in
    subst P (sym (get_or-set_other ps h j p nil_port (λ (q : j ≡ h). omega arith))) (subst R (sym (room_set ps h p j (omega arith))) (before j less)))
    (λ (ge : h ≤ j).
    let e : h ≡ j = omega arith in
    let P : Port → Type 0 = λ q. PortAt slab (first + h) (room (set ps h p) h) q in
    let R : ℕ → Type 0 = λ n. PortAt slab (first + h) n p in
    let Q : ℕ → Type 0 = λ x. PortAt slab (first + x) (room (set ps h p) x) (get_or (set ps h p) x nil_port) in
    subst Q e (subst P (sym (get_or-set_same ps h p nil_port within)) (subst R (sym (room_set ps h p h (omega arith))) here)))
    (cases_lt j h)

-- Others may follow them in the list.
pub ports_front : (slab : List ℕ) (first n : ℕ) (ps qs : List Port) → n ≤ length ps → PortsAt slab first n ps → PortsAt slab first n (ps ++ qs)
ports_front slab first n ps qs le at h lt =
    let P : Port → Type 0 = PortAt slab (first + h) (room (ps ++ qs) h) in
    let R : ℕ → Type 0 = λ z. PortAt slab (first + h) z (get_or ps h nil_port) in
    subst P (sym (get_or_append_left ps qs nil_port h (omega arith))) (subst R (sym (room_front ps qs h (omega arith))) (at h lt))

-- What stands in a list of tracks or channels, and behind it.

record Numbered (f : ℕ → ℕ → ℕ → Frame) (n l z : ℕ) (fs : List Frame) : Type 0 where
  number : ℕ
  is : frame_number n fs ≡ some (whole (f number l z))

number_in : (f : ℕ → ℕ → ℕ → Frame) (i : ℕ) (ls zs : List ℕ) (r : List Frame) (n : ℕ) → length zs ≡ length ls → n < length ls → Numbered f n (get_or ls n 0) (get_or zs n 0) (store_frames f i ls zs r)
number_in f i [] zs r n e lt = absurd (omega arith)
number_in f i (l ∷ ls) [] r n e lt = absurd (omega arith)
number_in f i (l ∷ ls) (z ∷ zs) r zero e lt = record { number = i; is = refl }
number_in f i (l ∷ ls) (z ∷ zs) r (suc n) e lt = let later = number_in f (suc i) ls zs r n (omega arith) (omega arith) in record { number = later.number; is = later.is }

number_past : (f : ℕ → ℕ → ℕ → Frame) (i : ℕ) (ls zs : List ℕ) (r : List Frame) (n j : ℕ) → length zs ≡ length ls → n ≡ length ls + j → frame_number n (store_frames f i ls zs r) ≡ frame_number j r
number_past f i [] zs r n j e q = ap (λ (x : ℕ). frame_number x r) (omega arith)
number_past f i (l ∷ ls) [] r n j e q = absurd (omega arith)
number_past f i (l ∷ ls) (z ∷ zs) r zero j e q = absurd (omega arith)
number_past f i (l ∷ ls) (z ∷ zs) r (suc n) j e q = number_past f (suc i) ls zs r n j (omega arith) (omega arith)

-- Ports of the frames of tracks or channels are those of these levels and sizes.
ports_fresh : (kind : ℕ) (k : Levels) (slab : List ℕ) (fs : List Frame) (f : ℕ → ℕ → ℕ → Frame) → ((i l z start : ℕ) → declared_port (f i l z) start ≡ fresh_port l z start) → Holds kind k slab fs
    → (ls zs : List ℕ) (first n : ℕ) (ps : List Port) → length zs ≡ length ls → length ls ≡ n → n ≤ length ps → ((h : ℕ) → h < n → Numbered f (first + h) (get_or ls h 0) (get_or zs h 0) fs) → PortsAt slab first n ps → FreshPorts ls zs ps n
ports_fresh kind k slab fs f stored holds ls zs first n ps same long few numbered at =
    let found : (h : ℕ) → h < n → get_or ps h nil_port ≡ fresh_port (get_or ls h 0) (get_or zs h 0) (room ps h) =
    λ h lt. let m = numbered h lt in at h lt kind k fs holds (f m.number (get_or ls h 0) (get_or zs h 0)) m.is ∙ stored m.number (get_or ls h 0) (get_or zs h 0) (room ps h) in
    let cut : length (take n ps) ≡ n = length-take-le n ps few in
    let field : (g : Port → ℕ) (xs : List ℕ) → length xs ≡ n → ((h : ℕ) → h < n → get_or xs h 0 ≡ g (get_or ps h nil_port)) → xs ≡ map g (take n ps) =
    λ g xs size each. same_lists xs (map g (take n ps)) (size ∙ sym (length-map (take n ps) g ∙ cut))
    (λ i d lt. let below : i < n = omega arith in
    get_or_default xs i d 0 lt ∙ each i below ∙ sym (ap g (get_or-take n ps i nil_port below)) ∙ sym (get_or-map g (take n ps) i nil_port d (omega arith))) in
    record {
      levels = field level_of_port ls long (λ h lt. sym (ap level_of_port (found h lt)));
      sizes = field size_of_port zs (same ∙ long) (λ h lt. sym (ap size_of_port (found h lt)));
      laid = λ h lt. ap (λ p. p.start) (found h lt);
      empty = λ h lt. (ap (λ p. p.count) (found h lt), ap (λ p. p.missed) (found h lt));
    }

-- Only the first frame of a script is a header.

module _ (h : Head) where
  -- Whatever was seen before, the header stays.
  abbrev Keeps : List Frame → Type 0
  Keeps r = (n : Seen) → n.head ≡ h → (through n r).head ≡ h

  keeps_code : (c : Code) (r : List Frame) → Keeps r → Keeps (flatten c r)
  keeps_code done r e n q = e n q
  keeps_code (skip c) r e n q = keeps_code c r e _ q
  keeps_code (assign x o c) r e n q = keeps_code c r e _ q
  keeps_code (put y o c) r e n q = keeps_code c r e _ q
  keeps_code (branch o a b c) r e n q = keeps_code a _ (λ m s. keeps_code b _ (λ m s. keeps_code c r e _ s) _ s) _ q
  keeps_code (loop o b c) r e n q = keeps_code b _ (λ m s. keeps_code c r e _ s) _ q
  keeps_code (lock y o b c) r e n q = keeps_code b _ (λ m s. keeps_code c r e _ s) _ q

  keeps_threads : (i : ℕ) (cs : List Code) (r : List Frame) → Keeps r → Keeps (thread_frames i cs r)
  keeps_threads i [] r e n q = e n q
  keeps_threads i (c ∷ cs) r e n q = keeps_code c _ (λ m s. keeps_threads (suc i) cs r e _ s) _ q

  keeps_stored : (f : ℕ → ℕ → ℕ → Frame) → ((i l z : ℕ) (n : Seen) → (seen_after n (f i l z)).head ≡ n.head) → (i : ℕ) (ls zs : List ℕ) (r : List Frame) → Keeps r → Keeps (store_frames f i ls zs r)
  keeps_stored f same i [] zs r e n q = e n q
  keeps_stored f same i (l ∷ ls) [] r e n q = e n q
  keeps_stored f same i (l ∷ ls) (z ∷ zs) r e n q = keeps_stored f same (suc i) ls zs r e _ (same i l z n ∙ q)

pub head_through : (sc : Script) → (through nothing_seen (script_frames sc)).head ≡ head_of sc
head_through sc =
    let h = head_of sc in
    keeps_stored h track (λ i l z n. refl) 0 sc.track_levels sc.track_sizes _
    (keeps_stored h channel (λ i l z n. refl) 0 sc.channel_levels sc.channel_sizes _ (keeps_threads h 0 sc.codes _ (λ n q. q))) _ refl

-- The bounds of a header.
pub record Bounds (h : Head) : Type 0 where
  pub threads : h.threads ≤ 8
  pub variables : h.variables ≤ 64
  pub tracks : h.tracks ≤ 8
  pub channels : h.channels ≤ 8

-- A number between two others, and what is tested next.
top : (a x b : ℕ) (rest : Bool) → T (between a x b && rest) → x ≤ b
top a x b rest t = leb→le x b (and_right (leb a x) (leb x b) (and_left (between a x b) rest t))

pub bounded : (kind : ℕ) (h : Head) → T (head_in_range kind h) → Bounds h
bounded kind h t =
    let a = and_right (eqb h.version 1) _ t in
    let b = and_right (eqb h.kind kind) _ a in
    let c = and_right (between 1 h.threads 8) _ b in
    let d = and_right (between 1 h.variables 64) _ c in
    let e = and_right (leb h.tracks 8) _ d in
    record {
      threads = top 1 h.threads 8 _ b;
      variables = top 1 h.variables 64 _ c;
      tracks = leb→le h.tracks 8 (and_left _ _ d);
      channels = top 1 h.channels 8 _ e;
    }

module _ (kind : ℕ) (k : Levels) (slab : List ℕ) (d : Declarations) (held : Held kind k slab d) where
  -- The script that the slab holds.
  pub held_script : (sc : Script) × InSlab kind k slab sc
  held_script =
      let t = text_accepted kind k _ held.frames held.holds.accepts in
      (t.script, record { valid = t.valid; holds = subst (Holds kind k slab) (sym t.frames_are) held.holds })

  same_head : (sc : Script) → InSlab kind k slab sc → head_of sc ≡ as_head d.head
  same_head sc i = sym (head_through sc) ∙ ap (λ (fs : List Frame). (through nothing_seen fs).head) (held.only (script_frames sc) i.holds) ∙ sym held.declares.head_is

  pub held_bounds : Bounds (as_head d.head)
  held_bounds = let s = held_script in subst Bounds (same_head s.0 s.1) (bounded kind (head_of s.0) s.1.valid.head)

  pub declares_as : (ts cs : List Port) → length ts ≡ 8 → length cs ≡ 8 → PortsAt slab 1 d.head.tracks ts → PortsAt slab (1 + d.head.tracks) d.head.channels cs
      → DeclaresAs kind k slab (record { head = d.head; tracks = ts; channels = cs; frames = d.frames })
  declares_as ts cs tl cl tp cp = record {
    script = held_script.0;
    held = held_script.1;
    eight_tracks = tl;
    eight_channels = cl;
    fresh = λ sc i.
        let e = same_head sc i in
        let v = i.valid in
        let fs = script_frames sc in
        let b = held_bounds in
        let bt = b.tracks in
        let bc = b.channels in
        let nt : length sc.track_levels ≡ d.head.tracks = ap (λ h. h.tracks) e in
        let nc : length sc.channel_levels ≡ d.head.channels = ap (λ h. h.channels) e in
        record {
          head = e;
          tracks = ports_fresh kind k slab fs track (λ i l z s. refl) i.holds sc.track_levels sc.track_sizes 1 d.head.tracks ts v.track_sizes nt (omega arith)
              (λ h lt.
              let m = number_in track 0 sc.track_levels sc.track_sizes _ h v.track_sizes (omega arith) in
              let q : 1 + h ≡ suc h = omega arith in
              record { number = m.number; is = ap (λ (x : ℕ). frame_number x fs) q ∙ m.is })
              tp;
          channels = ports_fresh kind k slab fs channel (λ i l z s. refl) i.holds sc.channel_levels sc.channel_sizes (1 + d.head.tracks) d.head.channels cs v.channel_sizes nc (omega arith)
              (λ h lt.
              let m = number_in channel 0 sc.channel_levels sc.channel_sizes _ h v.channel_sizes (omega arith) in
              let q : (1 + d.head.tracks) + h ≡ suc (d.head.tracks + h) = omega arith in
              record { number = m.number; is = ap (λ (x : ℕ). frame_number x fs) q ∙ number_past track 0 sc.track_levels sc.track_sizes _ (d.head.tracks + h) h v.track_sizes (omega arith) ∙ m.is })
              cp;
          frames = held.declares.frames_are ∙ ap length (sym (held.only fs i.holds));
        };
  }
