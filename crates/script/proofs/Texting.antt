-- Writing lines, byte by byte and frame by frame.
use Rattle.std.proofs.Common.{◌≡◌, ℕ, ◌+◌, ◌-◌, ◌*◌, ◌/◌, ◌%◌, ◌<◌, ◌≤◌, List, [], ◌∷◌, ◌++◌, length, get_or, take, drop, set, replicate, sym, refl, ap, ◌∙◌, subst, ap₂, append_assoc, arith, length-append}
use lib.ListN.{length-replicate}
use Rattle.std.specs.List.{AllByRecursion}
use Rattle.std.proofs.lemmas.List.{drop_at, drop-drop, drop_more, drop-take, length-take-le, set_at, take_all, take-append-drop, take_at, take_more, take-take}
use Rattle.codec.specs.Lines.{digit, digits, written}
use Rattle.codec.specs.Frames.{Frame, frame_bytes}
use Rattle.codec.specs.Frames.Frame.{skip}
use Rattle.codec.specs.Writable.{Writable}
use Rattle.script.proofs.Text.{sized}
use Rattle.codec.specs.Slots.{padded}
use Rattle.script.specs.Slabs.{SlotFound, slots_of, slab_of}
use Rattle.script.specs.Findings.{length_at}
use Rattle.script.specs.Text.{text_of}
use Rattle.script.specs.Writings.{LinePut, Slotted, line_of}
use Rattle.script.proofs.SlotTakings.{fronts}

pub digits_more : (bs cs : List ℕ) → digits (bs ++ cs) ≡ digits bs ++ digits cs
unfolding digits
digits_more [] cs = refl
digits_more (b ∷ bs) cs = ap (λ (r : List ℕ). digit (b / 16) ∷ digit (b % 16) ∷ r) (digits_more bs cs)

pub digits_long : (bs : List ℕ) → length (digits bs) ≡ 2 * length bs
unfolding digits
digits_long [] = refl
digits_long (b ∷ bs) = omega (arith, digits_long bs)

module _ (bytes start : List ℕ) (n : ℕ) where
  pub no_room : length start ≤ n + 2 * length bytes → length start < n + length (line_of bytes)
  no_room h = omega (arith, length-append (digits bytes) (10 ∷ []), digits_long bytes)

  -- The digits of the first i bytes are put.
  abbrev pub DigitsPut : List ℕ → ℕ → Type 0
  DigitsPut out i = out ≡ take n start ++ (digits (take i bytes) ++ drop (n + 2 * i) start)

  pub none_put : DigitsPut start 0
  unfolding digits
  none_put = sym (take-append-drop n start) ∙ ap (λ (m : ℕ). take n start ++ drop m start) (omega arith)

  module _ (room : n + 2 * length bytes < length start) where
    -- Two digits more.
    pub byte_put : (out : List ℕ) (i d e : ℕ) → i < length bytes → d ≡ digit (get_or bytes i 0 / 16) → e ≡ digit (get_or bytes i 0 % 16)
        → DigitsPut out i → DigitsPut (set (set out (n + 2 * i) d) (n + 2 * i + 1) e) (i + 1)
    unfolding digits
    byte_put out i d e h ed ee was =
        let at = n + 2 * i in
        let a : List ℕ = take n start in
        let p : List ℕ = a ++ digits (take i bytes) in
        let x : ℕ = get_or start at 0 in
        let y : ℕ = get_or start (at + 1) 0 in
        let r : List ℕ = drop (at + 1 + 1) start in
        let two : at + 1 + 1 ≡ n + 2 * (i + 1) = omega arith in
        let lt = length-take-le n start (omega arith) in
        let li = length-take-le i bytes (omega arith) in
        let long : length p ≡ at = length-append a (digits (take i bytes)) ∙ omega (arith, digits_long (take i bytes)) in
        let long' : length (p ++ (d ∷ [])) ≡ at + 1 = length-append p (d ∷ []) ∙ omega arith in
        let begun : out ≡ p ++ (x ∷ y ∷ r) =
        was ∙ sym (append_assoc a (digits (take i bytes)) (drop at start))
        ∙ ap (λ (z : List ℕ). p ++ z) (drop_more start at 0 (omega arith) ∙ ap (λ (z : List ℕ). x ∷ z) (drop_more start (at + 1) 0 (omega arith))) in
        ap (λ (z : List ℕ). set (set z at d) (at + 1) e) begun
        ∙ ap (λ (z : List ℕ). set z (at + 1) e) (set_at p x (y ∷ r) d at long ∙ sym (append_assoc p (d ∷ []) (y ∷ r)))
        ∙ set_at (p ++ (d ∷ [])) y r e (at + 1) long'
        ∙ append_assoc p (d ∷ []) (e ∷ r)
        ∙ append_assoc a (digits (take i bytes)) (d ∷ e ∷ r)
        ∙ ap (λ (z : List ℕ). a ++ z)
        ((λ j. digits (take i bytes) ++ (ed j ∷ ee j ∷ drop (two j) start))
        ∙ sym (append_assoc (digits (take i bytes)) (digits (get_or bytes i 0 ∷ [])) (drop (n + 2 * (i + 1)) start))
        ∙ ap (λ (z : List ℕ). z ++ drop (n + 2 * (i + 1)) start) (sym (digits_more (take i bytes) (get_or bytes i 0 ∷ [])) ∙ ap digits (sym (take_more bytes i 0 h))))

    -- All of them, and the line's end.
    pub line_put : (out : List ℕ) (i : ℕ) → i ≡ length bytes → DigitsPut out i → LinePut bytes start (set out (n + 2 * length bytes) 10) n (n + 2 * length bytes + 1)
    line_put out i h was =
        let at = n + 2 * length bytes in
        let a : List ℕ = take n start in
        let p : List ℕ = a ++ digits bytes in
        let lt = length-take-le n start (omega arith) in
        let long : length p ≡ at = length-append a (digits bytes) ∙ omega (arith, digits_long bytes) in
        let begun : out ≡ p ++ (get_or start at 0 ∷ drop (at + 1) start) =
        was ∙ (λ j. a ++ (digits ((ap (λ m. take m bytes) h ∙ take_all (length bytes) bytes (omega arith)) j) ++ drop (n + 2 * h j) start)) ∙ sym (append_assoc a (digits bytes) (drop at start))
        ∙ ap (λ (z : List ℕ). p ++ z) (drop_more start at 0 (omega arith)) in
        record {
          more = omega (arith, length-append (digits bytes) (10 ∷ []), digits_long bytes);
          within = omega arith;
          is = ap (λ (z : List ℕ). set z at 10) begun ∙ set_at p (get_or start at 0) (drop (at + 1) start) 10 at long
              ∙ append_assoc a (digits bytes) (10 ∷ drop (at + 1) start)
              ∙ ap (λ (z : List ℕ). a ++ z) (sym (append_assoc (digits bytes) (10 ∷ []) (drop (at + 1) start)));
        }

-- Frames

text_more : (fs gs : List Frame) → text_of (fs ++ gs) ≡ text_of fs ++ text_of gs
unfolding written
text_more [] gs = refl
text_more (f ∷ fs) gs =
    ap (λ (r : List ℕ). digits (frame_bytes f) ++ (10 ∷ r)) (text_more fs gs)
    ∙ sym (append_assoc (digits (frame_bytes f)) (10 ∷ text_of fs) (text_of gs))

text_one : (f : Frame) → text_of (f ∷ []) ≡ line_of (frame_bytes f)
unfolding written
text_one f = refl

pub slots_long : (fs : List Frame) → AllByRecursion Writable fs → length (slots_of fs) ≡ length fs * 51
slots_long [] w = refl
slots_long (f ∷ fs) w =
    let z = sized f w.0 in
    let z₁ = z.1 in
    let one : length (padded 51 (frame_bytes f)) ≡ 51 = simp (length-append, length-replicate) (omega arith) in
    length-append (padded 51 (frame_bytes f)) (slots_of fs) ∙ omega (arith, one, slots_long fs w.1)

pub slots_more : (fs gs : List Frame) → slots_of (fs ++ gs) ≡ slots_of fs ++ slots_of gs
slots_more [] gs = refl
slots_more (f ∷ fs) gs = ap (λ (r : List ℕ). padded 51 (frame_bytes f) ++ r) (slots_more fs gs) ∙ sym (append_assoc (padded 51 (frame_bytes f)) (slots_of fs) (slots_of gs))

front_all : (fs gs : List Frame) → AllByRecursion Writable (fs ++ gs) → AllByRecursion Writable fs
front_all [] gs w = tt
front_all (f ∷ fs) gs w = (w.0, front_all fs gs w.1)

pub middle : (fs : List Frame) (h : Frame) (hs : List Frame) → AllByRecursion Writable (fs ++ (h ∷ hs)) → Writable h
middle [] h hs w = w.0
middle (f ∷ fs) h hs w = middle fs h hs w.1

-- The slot of a frame.
pub slot_is : (slab : List ℕ) (fs : List Frame) (h : Frame) (hs : List Frame) → AllByRecursion Writable (fs ++ (h ∷ hs)) → length fs < 512 → take 26112 slab ≡ slab_of (fs ++ (h ∷ hs))
    → take 51 (drop (length fs * 51) slab) ≡ padded 51 (frame_bytes h)
slot_is slab fs h hs w few e =
    let a = length fs * 51 in
    let n : a + (26112 - a) ≡ 26112 = omega arith in
    let z = sized h (middle fs h hs w) in
    let z₁ = z.1 in
    let p : List ℕ = padded 51 (frame_bytes h) in
    let wide : length p ≡ 51 = simp (length-append, length-replicate) (omega arith) in
    let rest : List ℕ = replicate (26112 - length (slots_of (fs ++ (h ∷ hs)))) 0 in
    sym (take-take 51 (26112 - a) (drop a slab) (omega arith))
    ∙ ap (take 51) (sym (drop-take a (26112 - a) slab) ∙ ap (λ (m : ℕ). drop a (take m slab)) n
    ∙ ap (drop a) (e ∙ ap (λ (x : List ℕ). x ++ rest) (slots_more fs (h ∷ hs)) ∙ append_assoc (slots_of fs) (p ++ slots_of hs) rest)
    ∙ drop_at (slots_of fs) ((p ++ slots_of hs) ++ rest) a (slots_long fs (front_all fs (h ∷ hs) w))
    ∙ append_assoc p (slots_of hs) rest)
    ∙ take_at p (slots_of hs ++ rest) 51 wide

-- What is written after i frames.
pub record PutSoFar (fs : List Frame) (start out : List ℕ) (i n : ℕ) : Type 0 where
  pub long : n ≡ length (text_of (take i fs))
  pub is : out ≡ text_of (take i fs) ++ drop n start

parted : (fs : List Frame) (i : ℕ) → i < length fs → fs ≡ take i fs ++ (get_or fs i skip ∷ drop (i + 1) fs)
parted fs i h = sym (take-append-drop i fs) ∙ ap (λ (r : List Frame). take i fs ++ r) (drop_more fs i skip h)

-- Slot i has frame i.
pub slot_number : (slab : List ℕ) (fs : List Frame) (i : ℕ) → AllByRecursion Writable fs → i < length fs → length fs ≤ 512 → take 26112 slab ≡ slab_of fs
    → take 51 (drop (i * 51) slab) ≡ padded 51 (frame_bytes (get_or fs i skip))
slot_number slab fs i w h few e =
    let q = parted fs i h in
    let li = length-take-le i fs (omega arith) in
    ap (λ (m : ℕ). take 51 (drop (m * 51) slab)) (sym li) ∙ slot_is slab (take i fs) (get_or fs i skip) (drop (i + 1) fs) (subst (AllByRecursion Writable) q w) (omega arith) (e ∙ ap slab_of q)

pub writable_number : (fs : List Frame) (i : ℕ) → AllByRecursion Writable fs → i < length fs → Writable (get_or fs i skip)
writable_number fs i w h = middle (take i fs) (get_or fs i skip) (drop (i + 1) fs) (subst (AllByRecursion Writable) (parted fs i h) w)

-- The bytes of frame i, as the slot's front.
pub front_is : (slab slot bytes : List ℕ) (fs : List Frame) (i c : ℕ) → i < c → c ≤ 512 → Slotted slab c fs → SlotFound slab i slot → bytes ≡ take (length_at slot) slot → bytes ≡ frame_bytes (get_or fs i skip)
front_is slab slot bytes fs i c h few s f e =
    let n = s.count in
    let l : i < length fs = omega arith in
    e ∙ (fronts slot (get_or fs i skip) (writable_number fs i s.writable l) (f.is ∙ slot_number slab fs i s.writable l (omega arith) s.slots)).bytes

text_step : (fs : List Frame) (i : ℕ) → i < length fs → text_of (take (i + 1) fs) ≡ text_of (take i fs) ++ line_of (frame_bytes (get_or fs i skip))
text_step fs i h = ap text_of (take_more fs i skip h) ∙ text_more (take i fs) (get_or fs i skip ∷ []) ∙ ap (λ (r : List ℕ). text_of (take i fs) ++ r) (text_one (get_or fs i skip))

past : (t start : List ℕ) (n m : ℕ) → length t ≡ n → n ≤ m → drop m (t ++ drop n start) ≡ drop m start
past t start n m e h =
    let a : n + (m - n) ≡ m = omega arith in
    ap (λ (x : ℕ). drop x (t ++ drop n start)) (sym a)
    ∙ sym (drop-drop (m - n) n (t ++ drop n start))
    ∙ ap (drop (m - n)) (drop_at t (drop n start) n e)
    ∙ drop-drop (m - n) n start ∙ ap (λ (x : ℕ). drop x start) a

pub frame_again : (fs : List Frame) (bytes start out end : List ℕ) (i n m : ℕ) → i < length fs → bytes ≡ frame_bytes (get_or fs i skip) → PutSoFar fs start out i n → LinePut bytes out end n m → PutSoFar fs start end (i + 1) m
frame_again fs bytes start out end i n m h e s w =
    let t = text_of (take i fs) in
    let l = line_of bytes in
    let step : t ++ l ≡ text_of (take (i + 1) fs) = ap (λ (b : List ℕ). t ++ line_of b) e ∙ sym (text_step fs i h) in
    record {
      long = omega (arith, w.more, s.long, length-append t l, ap length step);
      is = w.is
          ∙ ap₂ (λ (x y : List ℕ). x ++ (l ++ y)) (ap (take n) s.is ∙ take_at t (drop n start) n (sym s.long)) (ap (drop m) s.is ∙ past t start n m (sym s.long) (omega (arith, w.more)))
          ∙ sym (append_assoc t l (drop m start))
          ∙ ap (λ (x : List ℕ). x ++ drop m start) step;
    }

pub frames_none : (fs : List Frame) (bytes start out : List ℕ) (i n : ℕ) → i < length fs → bytes ≡ frame_bytes (get_or fs i skip) → length out ≡ length start → PutSoFar fs start out i n → length out < n + length (line_of bytes) → length start < length (text_of fs)
frames_none fs bytes start out i n h e same s w =
    let t = text_of (take i fs) in
    let l = line_of (frame_bytes (get_or fs i skip)) in
    let r = text_of (drop (i + 1) fs) in
    let q : text_of fs ≡ (t ++ l) ++ r =
    ap text_of (parted fs i h) ∙ text_more (take i fs) (get_or fs i skip ∷ drop (i + 1) fs)
    ∙ ap (λ (x : List ℕ). t ++ x) (text_more (get_or fs i skip ∷ []) (drop (i + 1) fs) ∙ ap (λ (x : List ℕ). x ++ r) (text_one (get_or fs i skip)))
    ∙ sym (append_assoc t l r) in
    let b : length (line_of bytes) ≡ length l = ap (λ (x : List ℕ). length (line_of x)) e in
    omega (arith, ap length q, length-append (t ++ l) r, length-append t l, s.long)
