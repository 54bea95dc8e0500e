-- The bytes of an expression, in the slot of its frame.
use Rattle.std.proofs.Common.{◌≡◌, ℕ, zero, suc, ◌+◌, ◌-◌, ◌*◌, ◌<◌, ◌≤◌, min, Bool, true, false, cond, eqb, List, [], ◌∷◌, ◌++◌, length, take, drop, replicate, sym, refl, ap, ◌∙◌, subst, append_assoc, append-nil, arith, rules}
use mathlib.Core.Option.{Option, none, some}
use Rattle.std.proofs.lemmas.List.{drop_at, drop-drop, drop-take, length-append, take_at, take-take}
use Rattle.std.specs.List.{AllByRecursion}
use Rattle.lattice.specs.Levels.{Levels}
use Rattle.codec.specs.Tables.{Row, look_up}
use Rattle.codec.specs.Expressions.{Op, Taken, alone, and_then, decode, expr_bytes, op_bytes, operation, operations, with_four, with_one}
use Rattle.codec.specs.Expressions.Op.{variable, sample, held, binary, unary}
use Rattle.codec.specs.Expressions.Binary.{sum, difference, product, quotient, less, equal, both, either}
use Rattle.codec.specs.Expressions.Unary.{negated, inverted}
use Rattle.codec.specs.Frames.{Frame, Head, frame_bytes}
use Rattle.codec.specs.Slots.{padded}
use Rattle.codec.specs.Writable.{ExprFits, Writable}
use Rattle.script.specs.Slabs.{Holds as SlabHolds}
use Rattle.script.specs.Trees.{Sound}
use Rattle.script.proofs.Holding.{held_few, held_writable}
use Rattle.script.proofs.SlotLengths.{decode_zeros}
use Rattle.script.proofs.Texting.{slot_number, writable_number}
use Rattle.model.proofs.Places.Skipping.{frame_here}
use Rattle.survey.specs.Table.{Holds}
use Rattle.survey.specs.declared.table.Step.{Step}

-- How long the bytes are

-- An operation has the bytes that it was taken from.
pub record Long (bs : List ℕ) (t : Taken) : Type 0 where
  pub own : length (op_bytes t.op) ≡ suc t.bytes
  pub there : t.bytes ≤ length bs

four_long : (bs : List ℕ) (t : Taken) → with_four bs ≡ some t → Long bs t
four_long bs t e = search rules

one_long : (f : ℕ → Op) → ((a : ℕ) → length (op_bytes (f a)) ≡ 2) → (bs : List ℕ) (t : Taken) → with_one f bs ≡ some t → Long bs t
one_long f h [] t e = absurd cc
one_long f h (a ∷ bs) t e = let s : record { op = f a; bytes = 1 } ≡ t = cc in subst (Long (a ∷ bs)) s (record { own = h a; there = omega arith })

alone_long : (o : Op) → length (op_bytes o) ≡ 1 → (bs : List ℕ) (t : Taken) → alone o bs ≡ some t → Long bs t
alone_long o h bs t e = let s : record { op = o; bytes = 0 } ≡ t = cc in subst (Long bs) s (record { own = h; there = omega arith })

looked : (bs : List ℕ) (t : Taken) (rs : List (Row Taken)) → AllByRecursion (λ (r : Row Taken). r.says bs ≡ some t → Long bs t) rs → (c : ℕ) → look_up rs c bs ≡ some t → Long bs t
looked bs t [] h c e = absurd cc
looked bs t (r ∷ rs) h c e = go (eqb c r.code) e (looked bs t rs h.1 c)
  where
    go : (b : Bool) → cond b (r.says bs) (look_up rs c bs) ≡ some t → (look_up rs c bs ≡ some t → Long bs t) → Long bs t
    go true e later = h.0 e
    go false e later = later e

taken_long : (c : ℕ) (bs : List ℕ) (t : Taken) → operation c bs ≡ some t → Long bs t
unfolding operation
taken_long c bs t = looked bs t operations (
  four_long bs t,
  (
    one_long variable (λ a. refl) bs t,
    (
      one_long sample (λ a. refl) bs t,
      (
        one_long held (λ a. refl) bs t,
        (
          alone_long (binary sum) refl bs t,
          (
            alone_long (binary difference) refl bs t,
            (
              alone_long (binary product) refl bs t,
              (
                alone_long (binary quotient) refl bs t,
                (
                  alone_long (binary less) refl bs t,
                  (
                    alone_long (binary equal) refl bs t,
                    (
                      alone_long (binary both) refl bs t,
                      (
                        alone_long (binary either) refl bs t,
                        (alone_long (unary negated) refl bs t, (alone_long (unary inverted) refl bs t, tt)),
                      ),
                    ),
                  ),
                ),
              ),
            ),
          ),
        ),
      ),
    ),
  ),
) c

-- What was decoded to its end has as many bytes as it was decoded from.
pub decoded_long : (bs : List ℕ) (n : ℕ) → n ≤ length bs → (decode n bs).whole ≡ true → length (expr_bytes (decode n bs).ops) + n ≡ length bs
unfolding decode
decoded_long [] zero h w = refl
decoded_long [] (suc n) h w = absurd (omega arith)
decoded_long (b ∷ bs) (suc n) h w = omega (arith, decoded_long bs n (omega arith) w)
decoded_long (b ∷ bs) zero h w = go (operation b bs) refl w (λ n. decoded_long bs n)
  where
    go : (o : Option Taken) → operation b bs ≡ o → (and_then o (λ n. decode n bs)).whole ≡ true → ((n : ℕ) → n ≤ length bs → (decode n bs).whole ≡ true → length (expr_bytes (decode n bs).ops) + n ≡ length bs)
        → length (expr_bytes (and_then o (λ n. decode n bs)).ops) + 0 ≡ suc (length bs)
    go none e w ih = absurd cc
    go (some t) e w ih =
        let l = taken_long b bs t e in
        omega (arith, length-append (op_bytes t.op) (expr_bytes (decode t.bytes bs).ops), ih t.bytes l.there w, l.own)

-- Where they are

module _ (kind : ℕ) (k : Levels) (slab : List ℕ) (fs : List Frame) (held : SlabHolds kind k slab fs) (p : ℕ) (f : Frame) (gs : List Frame) (is : drop p fs ≡ f ∷ gs) where
  pub frame_writable : Writable f
  frame_writable = let q = frame_here p fs Frame.skip is in subst Writable q.0 (writable_number fs p (held_writable kind k slab fs held) q.1)

  slot_holds : take 51 (drop (p * 51) slab) ≡ padded 51 (frame_bytes f)
  slot_holds =
      let q = frame_here p fs Frame.skip is in
      slot_number slab fs p (held_writable kind k slab fs held) q.1 (held_few kind k slab fs held) held.slots ∙ ap (λ (g : Frame). padded 51 (frame_bytes g)) q.0

  -- The part of the slot behind what stands before the expression.
  part : (before e : List ℕ) → frame_bytes f ≡ before ++ e → length before + length e ≤ 51 → take (length e) (drop (p * 51 + length before) slab) ≡ e
  part before e b short =
      let o = length before in
      let n = length e in
      let rest : List ℕ = replicate (51 - length (frame_bytes f)) 0 in
      ap (take n) (sym (drop-drop o (p * 51) slab ∙ ap (λ (m : ℕ). drop m slab) (omega arith)))
      ∙ sym (drop-take o n (drop (p * 51) slab))
      ∙ ap (drop o) (sym (take-take (o + n) 51 (drop (p * 51) slab) (omega arith)))
      ∙ drop-take o n (take 51 (drop (p * 51) slab))
      ∙ ap (λ (s : List ℕ). take n (drop o s)) (slot_holds ∙ ap (λ (s : List ℕ). s ++ rest) b ∙ append_assoc before e rest)
      ∙ ap (take n) (drop_at before (e ++ rest) o refl)
      ∙ take_at e rest n refl

  -- An expression that was read from so many bytes is held by a step that names them.
  pub expressed : (h : Head) (st : Step) (before bytes : List ℕ) → frame_bytes f ≡ before ++ expr_bytes (decode 0 bytes).ops → length before ≤ 3 → ExprFits (decode 0 bytes).ops → (decode 0 bytes).whole ≡ true
      → Sound h (decode 0 bytes).ops → st.start ≡ p * 51 + length before → st.stop ≡ p * 51 + length before + min (length bytes) 48 → Holds h slab st (decode 0 bytes).ops
  expressed h st before bytes b near fits w sound es et =
      let e = (decode 0 bytes).ops in
      let n = length (expr_bytes e) in
      let long : length bytes ≡ n = omega (arith, decoded_long bytes 0 (omega arith) w) in
      let few : p < 512 = omega (arith, (frame_here p fs Frame.skip is).1, held_few kind k slab fs held) in
      let stop : st.stop ≡ p * 51 + length before + n = omega (arith, et, long, fits.1) in
      let wide : st.stop - st.start ≡ n = omega (arith, stop, es) in
      let there : take (st.stop - st.start) (drop st.start slab) ≡ expr_bytes e =
      (λ i. take (wide i) (drop (es i) slab)) ∙ part before (expr_bytes e) b (omega (arith, fits.1)) in
      let read : (decode 0 (expr_bytes e)).ops ≡ e = ap (λ (s : List ℕ). (decode 0 s).ops) (sym (append-nil (expr_bytes e))) ∙ decode_zeros e 0 fits.2 in
      let is-e = ap (λ (s : List ℕ). (decode 0 s).ops) there ∙ read in
      record {
        ops = is-e;
        good = record { sound = subst (Sound h) (sym is-e) sound };
        ordered = omega (arith, stop, es);
        within = omega (arith, stop, few, fits.1, held.room);
      }
