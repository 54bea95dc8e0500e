-- A walk over frames: what it meets across a stretch, and that a spot's openers are those that it meets.
use Rattle.std.proofs.Common.{◌≡◌, ℕ, zero, suc, ◌+◌, true, false, List, [], ◌∷◌, length, drop, sym, refl, ap, ◌∙◌, arith}
use Rattle.script.specs.Code.{Code}
use Rattle.script.specs.Code.Code.{done, skip, assign, put, branch, loop, lock}
use Rattle.codec.specs.Frames.{Frame}
use Rattle.codec.specs.Frames.Frame.{thread_end, else, end_if, end_while, end_with, last}
use Rattle.script.specs.Trees.{flatten}
use Rattle.model.specs.Threads.{Open}
use Rattle.model.specs.Threads.Open.{in_branch, in_loop, in_lock}
use Rattle.model.specs.Places.{flatten_inside, Opened}
use Rattle.model.specs.Fitting.{walk_in, stride, frame_at, around, opens_at, ends_block}
use Rattle.model.proofs.Places.Skipping.{size, drop_next, drop_flatten, frame_here}

-- The frames from a place on tell the place.
drop_length : (p : ℕ) (fs : List Frame) {f : Frame} {gs : List Frame} → drop p fs ≡ f ∷ gs → p + suc (length gs) ≡ length fs
drop_length zero [] e = absurd cc
drop_length zero (g ∷ fs) {f} {gs} e = let z : length (g ∷ fs) ≡ length (f ∷ gs) = ap length e in omega (arith, z)
drop_length (suc p) [] e = absurd cc
drop_length (suc p) (g ∷ fs) e = omega (arith, drop_length p fs e)

pub one_place : (p q : ℕ) (fs : List Frame) {f : Frame} {gs : List Frame} → drop p fs ≡ f ∷ gs → drop q fs ≡ f ∷ gs → p ≡ q
one_place p q fs e h = omega (arith, drop_length p fs e, drop_length q fs h)

module _ (fs : List Frame) where
  pub around_next : (p : ℕ) → around fs (suc p) ≡ stride p (frame_at fs p) (around fs p)
  unfolding around
  around_next p = refl

  -- Over one frame.
  pub over : (p : ℕ) {f : Frame} {gs : List Frame} → drop p fs ≡ f ∷ gs → around fs (suc p) ≡ stride p f (around fs p)
  over p e = around_next p ∙ ap (λ (g : Frame). stride p g (around fs p)) (frame_here p fs (last 0) e).0

  -- The same place under another name.
  same_around : (m n : ℕ) → m ≡ n → around fs m ≡ around fs n
  same_around m n e = ap (around fs) e

  -- A stretch leaves a walk as it is.
  pub across : (c : Code) (p : ℕ) (r : List Frame) → drop p fs ≡ flatten c r → around fs (p + size c) ≡ around fs p
  across done p r e = same_around (p + 0) p (omega arith)
  across (skip c) p r e = same_around (p + suc (size c)) (suc p + size c) (omega arith) ∙ across c (suc p) r (drop_next p fs e) ∙ over p e
  across (assign x v c) p r e = same_around (p + suc (size c)) (suc p + size c) (omega arith) ∙ across c (suc p) r (drop_next p fs e) ∙ over p e
  across (put h v c) p r e = same_around (p + suc (size c)) (suc p + size c) (omega arith) ∙ across c (suc p) r (drop_next p fs e) ∙ over p e
  across (branch v c d n) p r e =
      let at-else = suc p + size c in
      let at_end = suc at-else + size d in
      let h0 = drop_next p fs e in
      let h1 : drop at-else fs ≡ else ∷ flatten d (end_if ∷ flatten n r) = drop_flatten c (suc p) fs _ h0 in
      let h2 = drop_next at-else fs h1 in
      let h3 : drop at_end fs ≡ end_if ∷ flatten n r = drop_flatten d (suc at-else) fs _ h2 in
      let to_end : around fs at_end ≡ opens_at p (around fs p) =
      across d (suc at-else) _ h2 ∙ over at-else h1 ∙ across c (suc p) _ h0 ∙ over p e in
      same_around (p + size (branch v c d n)) (suc at_end + size n) (omega arith)
      ∙ across n (suc at_end) r (drop_next at_end fs h3) ∙ over at_end h3 ∙ ap ends_block to_end
  across (loop v c n) p r e =
      let at_end = suc p + size c in
      let h0 = drop_next p fs e in
      let h1 : drop at_end fs ≡ end_while ∷ flatten n r = drop_flatten c (suc p) fs _ h0 in
      let to_end : around fs at_end ≡ opens_at p (around fs p) = across c (suc p) _ h0 ∙ over p e in
      same_around (p + size (loop v c n)) (suc at_end + size n) (omega arith)
      ∙ across n (suc at_end) r (drop_next at_end fs h1) ∙ over at_end h1 ∙ ap ends_block to_end
  across (lock m v c n) p r e =
      let at_end = suc p + size c in
      let h0 = drop_next p fs e in
      let h1 : drop at_end fs ≡ end_with ∷ flatten n r = drop_flatten c (suc p) fs _ h0 in
      let to_end : around fs at_end ≡ opens_at p (around fs p) = across c (suc p) _ h0 ∙ over p e in
      same_around (p + size (lock m v c n)) (suc at_end + size n) (omega arith)
      ∙ across n (suc at_end) r (drop_next at_end fs h1) ∙ over at_end h1 ∙ ap ends_block to_end

  -- Two stretches that come to the same frames come to the same place, and a walk meets the same before both.
  pub meets : (c d : Code) (p q : ℕ) (f : Frame) (r : List Frame) → drop p fs ≡ flatten c (f ∷ r) → drop q fs ≡ flatten d (f ∷ r) → around fs p ≡ around fs q
  meets c d p q f r e h =
      sym (across c p (f ∷ r) e)
      ∙ same_around (p + size c) (q + size d) (one_place (p + size c) (q + size d) fs (drop_flatten c p fs (f ∷ r) e) (drop_flatten d q fs (f ∷ r) h))
      ∙ across d q (f ∷ r) h

-- Thread i's own frames: its code begins behind place b.
pub record Own (fs r : List Frame) (i : ℕ) (c : Code) : Type 0 where
  pub before : ℕ
  pub here : drop (suc before) fs ≡ flatten c (thread_end ∷ r)
  pub outside : (around fs before).begun ≡ i
  pub inside : around fs (suc before) ≡ walk_in i []

module _ (fs r : List Frame) (i : ℕ) (whole : Code) (own : Own fs r i whole) where
  -- A walk that comes to a spot in thread i has met its openers.
  pub met : (q : ℕ) (qs : List ℕ) (c : Code) (os : List Open) → drop q fs ≡ flatten c (flatten_inside os r) → Opened fs r qs os → around fs q ≡ walk_in i qs
  met q [] c [] e o = meets fs c whole q (suc own.before) thread_end r e own.here ∙ own.inside
  met q (p ∷ ps) c [] e o = absurd o
  met q [] c (x ∷ os) e o = absurd o
  met q (p ∷ ps) c (in_branch l true a b n ∷ os) e o =
      let h = o.0.1 in
      let h0 = drop_next p fs h in
      meets fs c a q (suc p) else (flatten b (end_if ∷ flatten n (flatten_inside os r))) e h0
      ∙ over fs p h ∙ ap (opens_at p) (met p ps (branch o.0.0 a b n) os h o.1)
  met q (p ∷ ps) c (in_branch l false a b n ∷ os) e o =
      let h = o.0.1 in
      let h0 = drop_next p fs h in
      let at-else = suc p + size a in
      let h1 : drop at-else fs ≡ else ∷ flatten b (end_if ∷ flatten n (flatten_inside os r)) = drop_flatten a (suc p) fs _ h0 in
      meets fs c b q (suc at-else) end_if (flatten n (flatten_inside os r)) e (drop_next at-else fs h1)
      ∙ over fs at-else h1 ∙ across fs a (suc p) _ h0
      ∙ over fs p h ∙ ap (opens_at p) (met p ps (branch o.0.0 a b n) os h o.1)
  met q (p ∷ ps) c (in_loop v b n ∷ os) e o =
      let h = o.0 in
      meets fs c b q (suc p) end_while (flatten n (flatten_inside os r)) e (drop_next p fs h)
      ∙ over fs p h ∙ ap (opens_at p) (met p ps (loop v b n) os h o.1)
  met q (p ∷ ps) c (in_lock m n ∷ os) e o =
      let h = o.0.2 in
      meets fs c o.0.1 q (suc p) end_with (flatten n (flatten_inside os r)) e (drop_next p fs h)
      ∙ over fs p h ∙ ap (opens_at p) (met p ps (lock m o.0.0 o.0.1 n) os h o.1)
