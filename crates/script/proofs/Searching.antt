-- Finding the script in a slab, slot by slot: the frames so far stand in front of every script that the slab holds.
use Rattle.std.proofs.Common.{◌≡◌, ℕ, suc, ◌+◌, ◌-◌, ◌*◌, ◌<◌, ◌≤◌, Bool, true, false, ltb, ◌⊎◌, List, [], ◌∷◌, ◌++◌, map, length, take, drop, replicate, MatchOption, sym, refl, ap, ◌∙◌, ⊎_elim, subst, ap₂, inr, append_assoc, append-nil, add-one, arith, ltb→lt, length-append}
use mathlib.Core.Option.{Option, none, some}
use lib.ListN.{length-replicate}
use Rattle.std.specs.Bool.{then_some}
use Rattle.std.specs.List.{AllByRecursion}
use Rattle.std.proofs.ByRecursion.{All-push}
use Rattle.std.proofs.lemmas.List.{drop_at, drop-take, flat_map_more, length-drop, length_push, length-take, length-take-le, take-append-drop, take_at, take-take}
use Rattle.lattice.specs.Levels.{Levels}
use Rattle.codec.specs.Frames.{Frame, Read, frame_of, frame_bytes}
use Rattle.codec.specs.Frames.Frame.{header, track, channel, thread, thread_end, skip, assign, put, if, else, end_if, while, end_while, with, end_with, last}
use Rattle.script.specs.Format.{Phase, Seen, ◌asks◌, nothing_seen, fault, is_ended, read_lines, read_script, seen_after, tests, whole_line, through}
use Rattle.script.specs.Format.Phase.{start, outside, inside, ended}
use Rattle.script.specs.Format.Verdict.{accepted}
use Rattle.codec.specs.Writable.{Writable}
use Rattle.script.proofs.Accepting.{Passing, passing, passing_parts}
use Rattle.script.proofs.Complete.{whole_lines}
use Rattle.codec.proofs.Encoding.{frame_forth}
use Rattle.script.proofs.Stepping.{behind, behind_none, read_more, read_fault, read_missing, read_over}
use Rattle.script.proofs.Text.{all_sized, lines_of, sized}
use Rattle.codec.proofs.Writing.{split_written}
use Rattle.script.specs.declared.Declarations.{Declarations}
use Rattle.script.specs.declared.state.State.{State}
use Rattle.codec.specs.Slots.{padded}
use Rattle.codec.specs.Shapes.{whole}
use Rattle.script.specs.Stages.{phase_of, seen_of, declaring}
use Rattle.script.specs.Slabs.{slots_of, Holds, SlotFound}
use Rattle.script.specs.Nexts.{Fitting, Next, NoNext}
use Rattle.script.specs.Findings.{all_zero}
use Rattle.script.specs.Writings.{Slotted}
use Rattle.script.specs.Promises.{Held}
use Rattle.script.specs.Text.{text_of}
use Rattle.script.proofs.Filling.{frames_after, through_more}
use Rattle.script.proofs.SlotLengths.{zeros_from, zeros_to}
use Rattle.script.proofs.Holding.{held_writable}
use Rattle.script.proofs.Texting.{middle, slots_more}
use Rattle.script.proofs.SlotTakings.{fronts}

whole_more : (fs gs : List Frame) → whole_lines (fs ++ gs) ≡ whole_lines fs ++ whole_lines gs
whole_more [] gs = refl
whole_more (f ∷ fs) gs = ap (λ (r : List (ℕ ⊎ Read)). inr (whole f) ∷ r) (whole_more fs gs)

-- A slot holds one frame only.
unique : (slot : List ℕ) (f h : Frame) → Writable f → Writable h → slot ≡ padded 51 (frame_bytes f) → slot ≡ padded 51 (frame_bytes h) → f ≡ h
unique slot f h wf wh ef eh =
    let a = frame_forth f wf.1 in
    let b = frame_forth h wh.1 in
    let e : frame_bytes f ≡ frame_bytes h = sym (fronts slot f wf ef).bytes ∙ (fronts slot h wh eh).bytes in
    let q : some (whole f) ≡ some (whole h) = sym a ∙ ap frame_of e ∙ b in
    let r : whole f ≡ whole h = cc in
    ap (λ (x : Read). x.frame) r

ended_is : (p : Phase) → true ≡ is_ended p → p ≡ ended
ended_is start e = cc
ended_is outside e = cc
ended_is (inside bs) e = cc
ended_is ended e = refl

-- Behind the last frame no frame passes.
none_behind : (kind : ℕ) (k : Levels) (n : Seen) (f : Frame) → Passing (tests kind k ended n f true) → ⊥
none_behind kind k n (header h) t = t.1.0
none_behind kind k n (track i l z) t = t.1.1.0
none_behind kind k n (channel i l z) t = t.1.1.0
none_behind kind k n (thread i) t = t.0
none_behind kind k n thread_end t = t.0
none_behind kind k n skip t = t.0
none_behind kind k n (assign x e) t = t.0
none_behind kind k n (put h e) t = t.0
none_behind kind k n (if e) t = t.0
none_behind kind k n else t = t.0
none_behind kind k n end_if t = t.0
none_behind kind k n (while e) t = t.0
none_behind kind k n end_while t = t.0
none_behind kind k n (with m e) t = t.0
none_behind kind k n end_with t = t.0
none_behind kind k n (last m) t = t.0

module _ (kind : ℕ) (k : Levels) (slab : List ℕ) where
  text_lines : (gs : List Frame) → AllByRecursion Writable gs → read_script kind k (text_of gs) ≡ read_lines kind k start nothing_seen (whole_lines gs)
  unfolding read_script
  text_lines gs w = ap (read_lines kind k start nothing_seen) (ap (map whole_line) (split_written (map frame_bytes gs) (all_sized gs w)) ∙ lines_of gs w)

  holds_reads : (gs : List Frame) → Holds kind k slab gs → read_lines kind k start nothing_seen (whole_lines gs) ≡ accepted gs
  holds_reads gs h = sym (text_lines gs (held_writable kind k slab gs h)) ∙ h.accepts

  pub record Found (s : State) : Type 0 where
    pub frames : List Frame
    pub fits : AllByRecursion Writable frames
    pub reads : (ls : List (ℕ ⊎ Read)) → behind frames (read_lines kind k (phase_of s) (seen_of s) ls) ≡ read_lines kind k start nothing_seen (whole_lines frames ++ ls)
    pub count : length frames ≡ s.frames
    pub declares : seen_of s ≡ through nothing_seen frames
    pub few : s.frames ≤ 512
    pub slots : take (s.frames * 51) slab ≡ slots_of frames
    pub only : (gs : List Frame) → Holds kind k slab gs → (hs : List Frame) × (gs ≡ frames ++ hs)

  pub found_first : (s : State) → phase_of s ≡ start → seen_of s ≡ nothing_seen → Found s
  found_first s p n =
      let z : s.frames ≡ 0 = ap (λ (m : Seen). m.frames) n in
      record {
        frames = [];
        fits = tt;
        reads = λ ls. behind_none (read_lines kind k (phase_of s) (seen_of s) ls) ∙ (λ i. read_lines kind k (p i) (n i) ls);
        count = sym z;
        declares = n;
        few = omega arith;
        slots = ap (λ (m : ℕ). take (m * 51) slab) z;
        only = λ gs h. (gs, refl);
      }

  module _ (s : State) (d : Found s) where
    left_reads : (gs hs : List Frame) → Holds kind k slab gs → gs ≡ d.frames ++ hs → behind d.frames (read_lines kind k (phase_of s) (seen_of s) (whole_lines hs)) ≡ accepted gs
    left_reads gs hs h e =
        d.reads (whole_lines hs)
        ∙ ap (read_lines kind k start nothing_seen) (sym (whole_more d.frames hs) ∙ ap whole_lines (sym e))
        ∙ holds_reads gs h

    head_passes : (gs : List Frame) (h : Frame) (hs : List Frame) → Holds kind k slab gs → gs ≡ d.frames ++ (h ∷ hs) → fault kind k (phase_of s) (seen_of s) (whole h) ≡ none
    head_passes gs h hs w e = go (fault kind k (phase_of s) (seen_of s) (whole h)) refl
      where
        go : (o : Option ℕ) → fault kind k (phase_of s) (seen_of s) (whole h) ≡ o → fault kind k (phase_of s) (seen_of s) (whole h) ≡ none
        go none q = q
        go (some n) q = cc (sym (read_fault kind k (phase_of s) (seen_of s) d.frames (whole h) (whole_lines hs) n q) ∙ left_reads gs (h ∷ hs) w e)

    passed : (h : Frame) → fault kind k (phase_of s) (seen_of s) (whole h) ≡ none → Passing (tests kind k (phase_of s) (seen_of s) h true) × (s.frames < 512)
    unfolding fault
    passed h e =
        let p = passing_parts (tests kind k (phase_of s) (seen_of s) h true) ((8 asks ltb s.frames 512) ∷ []) (passing _ e) in
        (p.0, ltb→lt s.frames 512 p.1.0)

    none_left : (gs : List Frame) → Holds kind k slab gs → gs ≡ d.frames ++ [] → false ≡ is_ended (phase_of s) → ⊥
    none_left gs w e f = cc (sym (read_missing kind k (phase_of s) (seen_of s) d.frames (sym f)) ∙ left_reads gs [] w e)

    slots_long : (26112 ≤ length slab) → length (slots_of d.frames) ≡ s.frames * 51
    slots_long room = let few = d.few in sym (ap length d.slots) ∙ length-take-le (s.frames * 51) slab (omega arith)

    behind_slots : (gs hs : List Frame) → Holds kind k slab gs → gs ≡ d.frames ++ hs
        → take (26112 - s.frames * 51) (drop (s.frames * 51) slab) ≡ slots_of hs ++ replicate (26112 - length (slots_of gs)) 0
    behind_slots gs hs w e =
        let few = d.few in
        let a = s.frames * 51 in
        let n : a + (26112 - a) ≡ 26112 = omega arith in
        let z : List ℕ = replicate (26112 - length (slots_of gs)) 0 in
        sym (drop-take a (26112 - a) slab)
        ∙ ap (λ (m : ℕ). drop a (take m slab)) n
        ∙ ap (drop a) (w.slots ∙ ap (λ (x : List ℕ). x ++ z) (ap slots_of e ∙ slots_more d.frames hs) ∙ append_assoc (slots_of d.frames) (slots_of hs) z)
        ∙ drop_at (slots_of d.frames) (slots_of hs ++ z) a (slots_long w.room)

    slot_is : (gs : List Frame) (h : Frame) (hs : List Frame) → Holds kind k slab gs → gs ≡ d.frames ++ (h ∷ hs) → Writable h → s.frames < 512 → take 51 (drop (s.frames * 51) slab) ≡ padded 51 (frame_bytes h)
    slot_is gs h hs w e fits few =
        let a = s.frames * 51 in
        let z = sized h fits in
        let z₁ = z.1 in
        let p : List ℕ = padded 51 (frame_bytes h) in
        let wide : length p ≡ 51 = simp (length-append, length-replicate) (omega arith) in
        let rest : List ℕ = replicate (26112 - length (slots_of gs)) 0 in
        sym (take-take 51 (26112 - a) (drop a slab) (omega arith))
        ∙ ap (take 51) (behind_slots gs (h ∷ hs) w e ∙ append_assoc p (slots_of hs) rest)
        ∙ take_at p (slots_of hs ++ rest) 51 wide

    -- The next frame of a script that the slab holds.
    pub record HeadOf (gs : List Frame) : Type 0 where
      pub head : Frame
      pub tail : List Frame
      pub is : gs ≡ d.frames ++ (head ∷ tail)
      pub fitting : Fitting kind k s (take 51 (drop (s.frames * 51) slab)) head
      pub room : s.frames < 512

    head_of : (gs : List Frame) → Holds kind k slab gs → false ≡ is_ended (phase_of s) → HeadOf gs
    head_of gs w f = go (d.only gs w).0 (d.only gs w).1
      where
        go : (hs : List Frame) → gs ≡ d.frames ++ hs → HeadOf gs
        go [] e = absurd (none_left gs w e f)
        go (h ∷ hs) e =
            let q = head_passes gs h hs w e in
            let fits : Writable h = middle d.frames h hs (subst (AllByRecursion Writable) e (held_writable kind k slab gs w)) in
            let few = (passed h q).1 in
            record { head = h; tail = hs; is = e; fitting = record { writable = fits; holds = slot_is gs h hs w e fits few; passes = q }; room = few }

    pub found_none : (slot : List ℕ) → false ≡ is_ended (phase_of s) → SlotFound slab s.frames slot → NoNext kind k s slot → (gs : List Frame) → Holds kind k slab gs → ⊥
    found_none slot f at lacks gs w = let h = head_of gs w f in lacks h.head (subst (λ (x : List ℕ). Fitting kind k s x h.head) (sym at.is) h.fitting)

    pub found_lost : false ≡ is_ended (phase_of s) → (s.frames < 512 → length slab < s.frames * 51 + 51) → (gs : List Frame) → Holds kind k slab gs → ⊥
    found_lost f lost gs w = let few = (head_of gs w f).room in omega (arith, lost few, w.room)

    pub found_next : (slot : List ℕ) (t : State) → false ≡ is_ended (phase_of s) → SlotFound slab s.frames slot → Next kind k s slot t → Found t
    found_next slot t f at w =
        let h = w.frame in
        let a = s.frames * 51 in
        let more : t.frames ≡ suc s.frames = ap (λ (m : Seen). m.frames) w.stepped.seen_is ∙ frames_after (seen_of s) h in
        let n : t.frames * 51 ≡ a + 51 = omega arith in
        let split_at : take (a + 51) slab ≡ take a slab ++ take 51 (drop a slab) =
        sym (take-append-drop a (take (a + 51) slab)) ∙ ap₂ (λ (x y : List ℕ). x ++ y) (take-take a (a + 51) slab (omega arith)) (drop-take a 51 slab) in
        record {
          frames = d.frames ++ (h ∷ []);
          fits = All-push Writable d.frames h d.fits w.fitting.writable;
          reads = λ ls.
              ap (behind (d.frames ++ (h ∷ []))) (λ i. read_lines kind k (w.stepped.phase_is i) (w.stepped.seen_is i) ls)
              ∙ sym (read_more kind k (phase_of s) (seen_of s) d.frames (whole h) ls w.fitting.passes)
              ∙ d.reads (inr (whole h) ∷ ls)
              ∙ ap (read_lines kind k start nothing_seen) (sym (append_assoc (whole_lines d.frames) (inr (whole h) ∷ []) ls) ∙ ap (λ (r : List (ℕ ⊎ Read)). r ++ ls) (sym (whole_more d.frames (h ∷ []))));
          count = length_push d.frames h ∙ ap (λ (m : ℕ). m + 1) d.count ∙ add-one s.frames ∙ sym more;
          declares = w.stepped.seen_is ∙ ap (λ (m : Seen). seen_after m h) d.declares ∙ sym (through_more nothing_seen d.frames h);
          few = omega (arith, at.few);
          slots =
              ap (λ (m : ℕ). take m slab) n ∙ split_at
              ∙ ap₂ (λ (x y : List ℕ). x ++ y) d.slots (sym at.is ∙ w.fitting.holds)
              ∙ flat_map_more (λ (g : Frame). padded 51 (frame_bytes g)) [] d.frames h;
          only = λ gs v.
              let u = head_of gs v f in
              let same : u.head ≡ h = unique _ u.head h u.fitting.writable w.fitting.writable u.fitting.holds (sym at.is ∙ w.fitting.holds) in
              (u.tail, u.is ∙ ap (λ (x : Frame). d.frames ++ (x ∷ u.tail)) same ∙ sym (append_assoc d.frames (h ∷ []) u.tail));
        }

    only_one : true ≡ is_ended (phase_of s) → (gs : List Frame) → Holds kind k slab gs → gs ≡ d.frames
    only_one f gs w = go (d.only gs w).0 (d.only gs w).1
      where
        go : (hs : List Frame) → gs ≡ d.frames ++ hs → gs ≡ d.frames
        go [] e = e ∙ append-nil d.frames
        go (h ∷ hs) e =
            let q = (passed h (head_passes gs h hs w e)).0 in
            absurd (none_behind kind k (seen_of s) h (subst (λ (p : Phase). Passing (tests kind k p (seen_of s) h true)) (ended_is (phase_of s) f) q))

    found_all : 26112 ≤ length slab → true ≡ is_ended (phase_of s) → true ≡ all_zero (take (26112 - s.frames * 51) (drop (s.frames * 51) slab)) → Held kind k slab (declaring s)
    found_all room f nil =
        let few = d.few in
        let a = s.frames * 51 in
        let n : a + (26112 - a) ≡ 26112 = omega arith in
        let rest = take (26112 - a) (drop a slab) in
        let long : length rest ≡ 26112 - length (slots_of d.frames) = simp (length-take, length-drop) (omega (arith, slots_long room)) in
        let zeros : rest ≡ replicate (26112 - length (slots_of d.frames)) 0 = zeros_from rest (sym nil) ∙ ap (λ (m : ℕ). replicate m 0) long in
        record {
          frames = d.frames;
          holds = record {
            room = room;
            slots =
                ap (λ (m : ℕ). take m slab) (sym n)
                ∙ sym (take-append-drop a (take (a + (26112 - a)) slab))
                ∙ ap₂ (λ (x y : List ℕ). x ++ y) (take-take a (a + (26112 - a)) slab (omega arith) ∙ d.slots) (drop-take a (26112 - a) slab ∙ zeros);
            accepts =
                text_lines d.frames d.fits
                ∙ ap (read_lines kind k start nothing_seen) (sym (append-nil (whole_lines d.frames)))
                ∙ sym (d.reads [])
                ∙ read_over kind k (phase_of s) (seen_of s) d.frames (sym f)
                ∙ ap accepted (append-nil d.frames);
          };
          declares = record {
            head_is = ap (λ (m : Seen). m.head) d.declares;
            samples_are = ap (λ (m : Seen). m.track_room) d.declares;
            entries_are = ap (λ (m : Seen). m.channel_room) d.declares;
            frames_are = sym d.count;
          };
          only = only_one f;
        }

    found_more : true ≡ is_ended (phase_of s) → false ≡ all_zero (take (26112 - s.frames * 51) (drop (s.frames * 51) slab)) → (gs : List Frame) → Holds kind k slab gs → ⊥
    found_more f some_left gs w = go (d.only gs w).0 (d.only gs w).1
      where
        go : (hs : List Frame) → gs ≡ d.frames ++ hs → ⊥
        go [] e = cc (sym (zeros_to (26112 - length (slots_of gs))) ∙ ap all_zero (sym (behind_slots gs [] w e)) ∙ sym some_left)
        go (h ∷ hs) e =
            let q = (passed h (head_passes gs h hs w e)).0 in
            none_behind kind k (seen_of s) h (subst (λ (p : Phase). Passing (tests kind k p (seen_of s) h true)) (ended_is (phase_of s) f) q)

    -- Behind the last frame: the slab is too short, or what is left of it is zero or not.
    pub found_short : (26112 < s.frames * 51) ⊎ (length slab < 26112) → (gs : List Frame) → Holds kind k slab gs → ⊥
    found_short h gs w = ⊎_elim (λ far. omega (arith, d.few)) (λ short. omega (arith, w.room)) h

    pub found_end : (rest : List ℕ) (b : Bool) → true ≡ is_ended (phase_of s) → 26112 ≤ length slab → rest ≡ take (26112 - s.frames * 51) (drop (s.frames * 51) slab) → b ≡ all_zero rest
        → MatchOption (then_some b (declaring s)) ((gs : List Frame) → Holds kind k slab gs → ⊥) (Held kind k slab)
    found_end rest true f room e z = found_all room f (z ∙ ap all_zero e)
    found_end rest false f room e z = found_more f (z ∙ ap all_zero e)

-- The frames of the script that was found, in the slots.
pub slotted : (kind : ℕ) (k : Levels) (slab : List ℕ) (d : Declarations) (h : Held kind k slab d) → Slotted slab d.frames h.frames
slotted kind k slab d h = record { writable = held_writable kind k slab h.frames h.holds; count = sym h.declares.frames_are; slots = h.holds.slots }
