-- What the first frame of a stretch says of its code.
use Rattle.std.proofs.Common.{◌≡◌, ℕ, zero, suc, ◌+◌, ◌<◌, ◌≤◌, max, Bool, true, false, ◌&&◌, ◌||◌, T, List, [], ◌∷◌, length, drop, sym, refl, ap, ◌∙◌, subst, add-one, arith, rules}
use mathlib.Core.Option.{none, some}
use lib.Bits.{bit_or, or_zero_l}
use Rattle.lattice.specs.Levels.{Levels}
use Rattle.codec.specs.Expressions.{Expr}
use Rattle.codec.specs.Frames.{Frame, Read}
use Rattle.codec.specs.Frames.Frame.{header, track, channel, thread, thread_end, if, else, end_if, while, end_while, with, end_with, last}
use Rattle.codec.specs.Shapes.{whole}
use Rattle.script.specs.Code.{Code}
use Rattle.script.specs.Code.Code.{done, skip, assign, put, branch, loop, lock}
use Rattle.script.specs.Trees.{flatten}
use Rattle.script.specs.Slabs.{Holds, frame_number}
use Rattle.script.proofs.Holding.{held_few}
use Rattle.model.specs.Stretches.{is_literal_one}
use Rattle.model.proofs.Places.Skipping.{drop_next, frame_here}
use Rattle.survey.specs.declared.Stretch.{Stretch}
use Rattle.survey.specs.Stretches.{Closed, Survey, Surveyed, assigning, both_ways, closing, followed, has_bit, held, no_command, repeated}
use Rattle.survey.specs.Bits.{bit}
use Rattle.survey.proofs.Masks.{bit_alone, bit_none, has_bit-bit_or}

-- A frame that was found stands first at its place.
pub first_frame : (fs : List Frame) (at : ℕ) (rd : Read) → some rd ≡ frame_number at fs → (gs : List Frame) × (drop at fs ≡ rd.frame ∷ gs) × (rd.whole ≡ true) × (at < length fs)
first_frame [] at rd e = absurd cc
first_frame (f ∷ fs) zero rd e =
    let same : rd ≡ whole f = cc in
    (fs, ap (λ (x : Read). x.frame ∷ fs) (sym same), ap (λ (x : Read). x.whole) same, omega arith)
first_frame (f ∷ fs) (suc at) rd e = let p = first_frame fs at rd e in (p.0, p.1, p.2, omega (arith, p.3))

-- The code that begins with a frame.
abbrev Begins : Frame → Code → Type 0
Begins (header h) c = c ≡ done
Begins (track i l z) c = c ≡ done
Begins (channel i l z) c = c ≡ done
Begins (thread i) c = c ≡ done
Begins thread_end c = c ≡ done
Begins Frame.skip c = (n : Code) × (c ≡ skip n)
Begins (Frame.assign x e) c = (n : Code) × (c ≡ assign x e n)
Begins (Frame.put h e) c = (n : Code) × (c ≡ put h e n)
Begins (if e) c = (p : Code) × (q : Code) × (n : Code) × (c ≡ branch e p q n)
Begins else c = c ≡ done
Begins end_if c = c ≡ done
Begins (while e) c = (b : Code) × (n : Code) × (c ≡ loop e b n)
Begins end_while c = c ≡ done
Begins (with m e) c = (b : Code) × (n : Code) × (c ≡ lock m e b n)
Begins end_with c = c ≡ done
Begins (last m) c = c ≡ done

ends : (f : Frame) → T (closing f) → Begins f done
ends f t = search rules

begins : (c : Code) (r gs : List Frame) (f : Frame) → f ∷ gs ≡ flatten c r → Closed r → Begins f c
begins done r gs f e h = ends f (subst Closed (sym e) h)
begins (skip n) r gs f e h = let s : Frame.skip ≡ f = cc in subst (λ (x : Frame). Begins x (skip n)) s (n, refl)
begins (assign x o n) r gs f e h = let s : Frame.assign x o ≡ f = cc in subst (λ (y : Frame). Begins y (assign x o n)) s (n, refl)
begins (put x o n) r gs f e h = let s : Frame.put x o ≡ f = cc in subst (λ (y : Frame). Begins y (put x o n)) s (n, refl)
begins (branch o p q n) r gs f e h = let s : if o ≡ f = cc in subst (λ (y : Frame). Begins y (branch o p q n)) s (p, q, n, refl)
begins (loop o b n) r gs f e h = let s : while o ≡ f = cc in subst (λ (y : Frame). Begins y (loop o b n)) s (b, n, refl)
begins (lock m o b n) r gs f e h = let s : with m o ≡ f = cc in subst (λ (y : Frame). Begins y (lock m o b n)) s (b, n, refl)

-- The place behind a frame.
abbrev pub Past : ℕ → ℕ → Type 0
Past at next = at < 512 → next ≡ at + 1

pub stepped : (fs : List Frame) (at next : ℕ) (f : Frame) (gs : List Frame) → length fs ≤ 512 → Past at next → drop at fs ≡ f ∷ gs → drop next fs ≡ gs
stepped fs at next f gs few p e = let here = (frame_here at fs f e).1 in ap (λ (m : ℕ). drop m fs) (p (omega arith) ∙ add-one at) ∙ drop_next at fs e

-- Where no frame is found no stretch stands.
pub none_found : (slab : List ℕ) (at : ℕ) (s : Stretch) → ((kind : ℕ) (k : Levels) (fs : List Frame) → Holds kind k slab fs → none ≡ frame_number at fs) → Survey slab at s
none_found slab at s none_is kind k fs h c r e cl = absurd (go fs at (none_is kind k fs h) c r e cl)
  where
    nonempty : (c : Code) (r : List Frame) → Closed r → [] ≡ flatten c r → ⊥
    nonempty done [] cl e = cl
    nonempty done (f ∷ r) cl e = cc
    nonempty (skip n) r cl e = cc
    nonempty (assign x o n) r cl e = cc
    nonempty (put x o n) r cl e = cc
    nonempty (branch o p q n) r cl e = cc
    nonempty (loop o b n) r cl e = cc
    nonempty (lock m o b n) r cl e = cc

    go : (fs : List Frame) (at : ℕ) → none ≡ frame_number at fs → (c : Code) (r : List Frame) → drop at fs ≡ flatten c r → Closed r → ⊥
    go [] zero n c r e cl = nonempty c r cl e
    go [] (suc at) n c r e cl = nonempty c r cl e
    go (f ∷ fs) zero n c r e cl = cc
    go (f ∷ fs) (suc at) n c r e cl = go fs at n c r e cl

-- Whether a frame is that of a command.
abbrev pub is_command : Frame → Bool
is_command (header h) = false
is_command (track i l z) = false
is_command (channel i l z) = false
is_command (thread i) = false
is_command thread_end = false
is_command Frame.skip = true
is_command (Frame.assign x e) = true
is_command (Frame.put h e) = true
is_command (if e) = true
is_command else = false
is_command end_if = false
is_command (while e) = true
is_command end_while = false
is_command (with m e) = true
is_command end_with = false
is_command (last m) = false

only_done : (f : Frame) (c : Code) → is_command f ≡ false → Begins f c → c ≡ done
only_done f c e b = search rules

module _ (slab : List ℕ) (at : ℕ) (rd : Read) (found : (kind : ℕ) (k : Levels) (fs : List Frame) → Holds kind k slab fs → some rd ≡ frame_number at fs) where
  -- The code at the place begins with the frame that was found.
  found_begins : (kind : ℕ) (k : Levels) (fs : List Frame) → Holds kind k slab fs → (c : Code) (r : List Frame) → drop at fs ≡ flatten c r → Closed r → (f : Frame) → rd.frame ≡ f → Begins f c
  found_begins kind k fs h c r e cl f is =
      let p = first_frame fs at rd (found kind k fs h) in
      subst (λ (x : Frame). Begins x c) is (begins c r p.0 rd.frame (sym p.1 ∙ e) cl)

  pub at_other : is_command rd.frame ≡ false → Survey slab at (no_command at)
  at_other o kind k fs h c r e cl =
      let d = only_done rd.frame c o (found_begins kind k fs h c r e cl rd.frame refl) in
      subst (λ (x : Code). drop at fs ≡ flatten x r → Surveyed x (no_command at) × (drop at fs ≡ r)) (sym d)
      (λ here. (record { fixed = refl; duration = refl; needed = refl; assigned = λ x l. bit_none x }, here)) e

  module _ (next : ℕ) (past : Past at next) (s : Stretch) (later : Survey slab next s) where
    behind : (kind : ℕ) (k : Levels) (fs : List Frame) → Holds kind k slab fs → (f : Frame) (n : Code) (r : List Frame) → drop at fs ≡ f ∷ flatten n r → Closed r → Surveyed n s × (drop s.end fs ≡ r)
    behind kind k fs h f n r e cl = later kind k fs h n r (stepped fs at next f (flatten n r) (held_few kind k slab fs h) past e) cl

    -- A command that is no block.
    at_command : (f : Frame) (wrap : Code → Code) → ((c : Code) → Begins f c → (n : Code) × (c ≡ wrap n)) → ((n : Code) (r : List Frame) → flatten (wrap n) r ≡ f ∷ flatten n r)
        → (a : Stretch) → ((n : Code) → Surveyed n s → Surveyed (wrap n) (followed a 1 s)) → rd.frame ≡ f → Survey slab at (followed a 1 s)
    at_command f wrap begun flat a told is kind k fs h c r e cl =
        let b = begun c (found_begins kind k fs h c r e cl f is) in
        let z = behind kind k fs h f b.0 r (e ∙ ap (λ (x : Code). flatten x r) b.1 ∙ flat b.0 r) cl in
        subst (λ (x : Code). Surveyed x (followed a 1 s) × (drop s.end fs ≡ r)) (sym b.1) (told b.0 z.0, z.1)

    nothing : (x : ℕ) (b : Bool) → has_bit s.assigned x ≡ b → has_bit (bit_or 0 s.assigned) x ≡ b
    nothing x b h = ap (λ (mask : ℕ). has_bit mask x) (or_zero_l s.assigned) ∙ h

    pub at_skip : rd.frame ≡ Frame.skip → Survey slab at (followed (no_command at) 1 s)
    at_skip = at_command Frame.skip skip (λ c b. b) (λ n r. refl) (no_command at)
        (λ n t. record { fixed = t.fixed; duration = omega (arith, t.duration); needed = or_zero_l s.needed ∙ t.needed; assigned = λ x l. nothing x _ (t.assigned x l) })

    pub at_put : (o : ℕ) (e : Expr) → rd.frame ≡ Frame.put o e → Survey slab at (followed (no_command at) 1 s)
    at_put o e = at_command (Frame.put o e) (put o e) (λ c b. b) (λ n r. refl) (no_command at)
        (λ n t. record { fixed = t.fixed; duration = omega (arith, t.duration); needed = or_zero_l s.needed ∙ t.needed; assigned = λ x l. nothing x _ (t.assigned x l) })

    pub at_assign : (v : ℕ) (e : Expr) → rd.frame ≡ Frame.assign v e → Survey slab at (followed (assigning v at) 1 s)
    at_assign v e = at_command (Frame.assign v e) (assign v e) (λ c b. b) (λ n r. refl) (assigning v at)
        (λ n t. record { fixed = t.fixed; duration = omega (arith, t.duration); needed = or_zero_l s.needed ∙ t.needed; assigned = λ x l. has_bit-bit_or (bit v) s.assigned x ∙ (λ i. bit_alone x v l i || t.assigned x l i) })

    -- Here s is the first block behind the frame, and t what stands behind its end.
    module _ (next' : ℕ) (past' : Past s.end next') (t : Stretch) (later' : Survey slab next' t) where
      pub at_while : (x : Expr) → rd.frame ≡ while x → Survey slab at (repeated s t)
      at_while x is kind k fs h c r e cl =
          let few = held_few kind k slab fs h in
          let b = found_begins kind k fs h c r e cl (while x) is in
          let body = b.0 in
          let n = b.1 in
          let a = behind kind k fs h (while x) body (end_while ∷ flatten n r) (e ∙ ap (λ (y : Code). flatten y r) b.2) tt in
          let z = later' kind k fs h n r (stepped fs s.end next' end_while (flatten n r) few past' a.1) cl in
          subst (λ (y : Code). Surveyed y (repeated s t) × (drop t.end fs ≡ r)) (sym b.2)
          (record { fixed = refl; duration = refl; needed = λ i. bit_or (a.0.needed i) (z.0.needed i); assigned = λ v l. has_bit-bit_or s.assigned t.assigned v ∙ (λ i. a.0.assigned v l i || z.0.assigned v l i) }, z.1)

      pub at_with : (m : ℕ) (x : Expr) (one : Bool) → rd.frame ≡ with m x → (rd.whole ≡ true → one ≡ is_literal_one x) → Survey slab at (followed (held m one s) 2 t)
      at_with m x one is lit kind k fs h c r e cl =
          let few = held_few kind k slab fs h in
          let p = first_frame fs at rd (found kind k fs h) in
          let b = found_begins kind k fs h c r e cl (with m x) is in
          let body = b.0 in
          let n = b.1 in
          let a = behind kind k fs h (with m x) body (end_with ∷ flatten n r) (e ∙ ap (λ (y : Code). flatten y r) b.2) tt in
          let z = later' kind k fs h n r (stepped fs s.end next' end_with (flatten n r) few past' a.1) cl in
          subst (λ (y : Code). Surveyed y (followed (held m one s) 2 t) × (drop t.end fs ≡ r)) (sym b.2) (
            record {
              fixed = λ i. (lit p.2 i && a.0.fixed i) && z.0.fixed i;
              duration = omega (arith, a.0.duration, z.0.duration);
              needed = λ i. bit_or (bit_or m (a.0.needed i)) (z.0.needed i);
              assigned = λ v l. has_bit-bit_or s.assigned t.assigned v ∙ (λ i. a.0.assigned v l i || z.0.assigned v l i);
            },
            z.1,
          )

      module _ (next'' : ℕ) (past'' : Past t.end next'') (u : Stretch) (later'' : Survey slab next'' u) where
        pub at_if : (x : Expr) → rd.frame ≡ if x → Survey slab at (followed (both_ways s t) 2 u)
        at_if x is kind k fs h c r e cl =
            let few = held_few kind k slab fs h in
            let b = found_begins kind k fs h c r e cl (if x) is in
            let p = b.0 in
            let q = b.1 in
            let n = b.2 in
            let a = behind kind k fs h (if x) p (else ∷ flatten q (end_if ∷ flatten n r)) (e ∙ ap (λ (y : Code). flatten y r) b.3) tt in
            let z = later' kind k fs h q (end_if ∷ flatten n r) (stepped fs s.end next' else (flatten q (end_if ∷ flatten n r)) few past' a.1) tt in
            let w = later'' kind k fs h n r (stepped fs t.end next'' end_if (flatten n r) few past'' z.1) cl in
            subst (λ (y : Code). Surveyed y (followed (both_ways s t) 2 u) × (drop u.end fs ≡ r)) (sym b.3) (
              record {
                fixed = λ i. (a.0.fixed i && z.0.fixed i) && w.0.fixed i;
                duration = lasts a.0.duration z.0.duration w.0.duration;
                needed = λ i. bit_or (bit_or (a.0.needed i) (z.0.needed i)) (w.0.needed i);
                assigned = λ v l.
                    has_bit-bit_or (bit_or s.assigned t.assigned) u.assigned v
                    ∙ ap (λ (b : Bool). b || has_bit u.assigned v) (has_bit-bit_or s.assigned t.assigned v)
                    ∙ (λ i. (a.0.assigned v l i || z.0.assigned v l i) || w.0.assigned v l i);
              },
              w.1,
            )
          where
            lasts : {i j l i' j' l' : ℕ} → i ≡ i' → j ≡ j' → l ≡ l' → max i j + l + 2 ≡ suc (suc (max i' j' + l'))
            lasts {i} {j} {l} ei ej el = (λ x. max (ei x) (ej x) + el x + 2) ∙ omega arith
