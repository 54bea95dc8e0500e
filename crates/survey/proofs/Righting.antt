-- The step that is written for each kind of frame is right.
use Rattle.std.proofs.Common.{◌≡◌, ℕ, suc, ◌+◌, ◌≤◌, true, ◌&&◌, ◌||◌, T, List, [], ◌∷◌, length, drop, sym, refl, ap, ◌∙◌, subst, arith}
use mathlib.Core.Option.{some}
use lib.Bits.{bit_or}
use Rattle.lattice.specs.Levels.{Levels}
use Rattle.codec.specs.Expressions.{Expr, decode, two}
use Rattle.codec.specs.Frames.{Frame, Read}
use Rattle.codec.specs.Frames.Frame.{if, else, end_if, while, end_while, with, end_with}
use Rattle.codec.specs.Shapes.{decoded, whole}
use Rattle.script.specs.Code.{Code}
use Rattle.script.specs.Code.Code.{branch}
use Rattle.script.specs.Slabs.{Holds as SlabHolds, frame_number}
use Rattle.script.specs.Trees.{flatten, head_of, script_frames}
use Rattle.script.proofs.Holding.{held_few}
use Rattle.model.specs.Places.{past, skip_block}
use Rattle.model.proofs.Places.Skipping.{drop_flatten, drop_next, frame_here, size, skip_flatten}
use Rattle.model.proofs.Places.Walking.{one_place}
use Rattle.survey.specs.Filling.{Right, ScriptIn, closing_step, if_step, idle_turns, place_past, plain_step, reading_step}
use Rattle.survey.specs.Stretches.{Survey, Surveyed, closing}
use Rattle.survey.specs.Table.{Reads, Ways}
use Rattle.survey.specs.declared.Stretch.{Stretch}
use Rattle.survey.specs.declared.table.Kind.TheVariants.{Skip, Assign, Put, Else, EndIf, While, EndWhile, With, EndWith}
use Rattle.survey.specs.declared.table.Step.{Step}
use Rattle.survey.proofs.Expressing.{expressed, frame_writable}
use Rattle.survey.proofs.Masks.{has_bit-bit_or}
use Rattle.survey.proofs.Parts.{within}
use Rattle.survey.proofs.Peeling.{first_frame, stepped}
use Rattle.survey.proofs.Standing.{Stands, everywhere}

-- What finding the frame at a place says.
abbrev pub Finds : List ℕ → ℕ → Read → Type 0
Finds slab at rd = (kind : ℕ) (k : Levels) (fs : List Frame) → SlabHolds kind k slab fs → some rd ≡ frame_number at fs

abbrev frames : {slab : List ℕ} → ScriptIn slab → List Frame
frames w = script_frames w.script

pub few : {slab : List ℕ} (w : ScriptIn slab) → length (frames w) ≤ 512
few {slab} w = held_few w.kind w.levels slab (frames w) w.holds

-- A frame at a place, with those behind it.
pub record At (slab : List ℕ) (w : ScriptIn slab) (at : ℕ) (rd : Read) : Type 0 where
  pub rest : List Frame
  pub is : drop at (script_frames w.script) ≡ rd.frame ∷ rest
  pub whole : rd.whole ≡ true
  pub stands : Stands (head_of w.script) (rd.frame ∷ rest)

pub found_at : (slab : List ℕ) (at : ℕ) (rd : Read) → Finds slab at rd → (w : ScriptIn slab) → At slab w at rd
found_at slab at rd found w =
    let p = first_frame (frames w) at rd (found w.kind w.levels (frames w) w.holds) in
    record {
      rest = p.0;
      is = p.1;
      whole = p.2;
      stands = subst (Stands (head_of w.script)) p.1 (everywhere w.kind w.levels w.script w.valid at);
    }

-- A step is right if it says what its frame is, where that is no if.
pub simple : {slab : List ℕ} {at : ℕ} {st : Step} (f : Frame) → ((e : Expr) → f ≡ if e → ⊥)
    → ((w : ScriptIn slab) → (gs : List Frame) × (drop at (frames w) ≡ f ∷ gs) × Reads (head_of w.script) slab at st (f ∷ gs)) → Right slab at st
simple {slab} {at} {st} f other says = record {
  here = λ w. subst (Reads (head_of w.script) slab at st) (sym (says w).1) (says w).2;
  ways = λ w e a b c r is. absurd (other e (same f e (says w).0 (flatten a (else ∷ flatten b (end_if ∷ flatten c r))) (sym (says w).1 ∙ is)));
}
  where
    same : (f : Frame) (e : Expr) (gs hs : List Frame) → f ∷ gs ≡ if e ∷ hs → f ≡ if e
    same f e gs hs q = cc

-- The place behind the end of a block, or behind its else.
block_end : (fs : List Frame) (at end : ℕ) (f x : Frame) (c : Code) (r : List Frame) → length fs ≤ 512 → skip_block (x ∷ r) ≡ 0 → drop at fs ≡ f ∷ flatten c (x ∷ r) → drop end fs ≡ x ∷ r
    → place_past end ≡ past at (flatten c (x ∷ r))
block_end fs at end f x c r short z is e =
    let there = drop_flatten c (suc at) fs (x ∷ r) (drop_next at fs is) in
    let same : suc at + size c ≡ end = one_place (suc at + size c) end fs there e in
    omega (arith, within {place = end} refl (omega (arith, (frame_here end fs Frame.skip e).1)), same, skip_flatten c 0 (x ∷ r))

module _ (slab : List ℕ) (at : ℕ) where
  pub right_skip : Finds slab at (whole Frame.skip) → Right slab at (plain_step Skip)
  right_skip found = simple Frame.skip (λ e q. cc) (λ w. let a = found_at slab at (whole Frame.skip) found w in (a.rest, a.is, refl))

  pub right_assign : (x : ℕ) (bytes : List ℕ) → Finds slab at (decoded (Frame.assign x) bytes) → Right slab at (reading_step Assign x 0 0 at 2 (length bytes))
  right_assign x bytes found = simple (Frame.assign x (decode 0 bytes).ops) (λ e q. cc) (λ w.
      let a = found_at slab at (decoded (Frame.assign x) bytes) found w in
      let f = Frame.assign x (decode 0 bytes).ops in (
        a.rest,
        a.is,
        (
          refl,
          refl,
          expressed w.kind w.levels slab (frames w) w.holds at f a.rest a.is (head_of w.script) _ (0x31 ∷ x ∷ []) bytes refl (omega arith)
              (frame_writable w.kind w.levels slab (frames w) w.holds at f a.rest a.is).1 a.whole a.stands refl refl,
        ),
      ))

  pub right_put : (x : ℕ) (bytes : List ℕ) → Finds slab at (decoded (Frame.put x) bytes) → Right slab at (reading_step Put x 0 0 at 2 (length bytes))
  right_put x bytes found = simple (Frame.put x (decode 0 bytes).ops) (λ e q. cc) (λ w.
      let a = found_at slab at (decoded (Frame.put x) bytes) found w in
      let f = Frame.put x (decode 0 bytes).ops in (
        a.rest,
        a.is,
        (
          refl,
          refl,
          expressed w.kind w.levels slab (frames w) w.holds at f a.rest a.is (head_of w.script) _ (0x32 ∷ x ∷ []) bytes refl (omega arith)
              (frame_writable w.kind w.levels slab (frames w) w.holds at f a.rest a.is).1 a.whole a.stands refl refl,
        ),
      ))

  module _ (next : ℕ) (behind : next ≡ place_past at) (s : Stretch) (inside : Survey slab next s) where
    -- What the survey of the stretch behind the frame says, in a script where that stretch is c.
    surveyed : (w : ScriptIn slab) (f : Frame) (c : Code) (x : Frame) (r : List Frame) → T (closing x) → drop at (frames w) ≡ f ∷ flatten c (x ∷ r) → Surveyed c s × (drop s.end (frames w) ≡ x ∷ r)
    surveyed w f c x r t is = inside w.kind w.levels (frames w) w.holds c (x ∷ r) (stepped (frames w) at next f (flatten c (x ∷ r)) (few w) (within behind) is) t

    module _ (bytes : List ℕ) (found : Finds slab at (decoded while bytes)) where
      loop-at : (w : ScriptIn slab) → (b : Code) × (r : List Frame) × (drop at (frames w) ≡ while (decode 0 bytes).ops ∷ flatten b (end_while ∷ r)) × (drop s.end (frames w) ≡ end_while ∷ r)
      loop-at w =
          let a = found_at slab at (decoded while bytes) found w in
          let b = a.stands.0 in
          let r = a.stands.1 in
          let is = a.is ∙ ap (λ (gs : List Frame). while (decode 0 bytes).ops ∷ gs) a.stands.2 in
          (b, r, is, (surveyed w (while (decode 0 bytes).ops) b end_while r tt is).1)

      pub right_while : Right slab at (reading_step While 0 0 (place_past s.end) at 1 (length bytes))
      right_while = simple (while (decode 0 bytes).ops) (λ e q. cc) (λ w.
          let a = found_at slab at (decoded while bytes) found w in
          let l = loop-at w in
          let f = while (decode 0 bytes).ops in (
            flatten l.0 (end_while ∷ l.1),
            l.2,
            (
              refl,
              block_end (frames w) at s.end f end_while l.0 l.1 (few w) refl l.2 l.3,
              expressed w.kind w.levels slab (frames w) w.holds at f a.rest a.is (head_of w.script) _ (0x43 ∷ []) bytes refl (omega arith)
                  (frame_writable w.kind w.levels slab (frames w) w.holds at f a.rest a.is).1 a.whole a.stands.3 refl refl,
              refl,
              refl,
              refl,
            ),
          ))

      pub right_end_while : Right slab s.end (plain_step EndWhile)
      right_end_while = simple end_while (λ e q. cc) (λ w. let l = loop-at w in (l.1, l.3, refl))

    module _ (m : ℕ) (bytes : List ℕ) (found : Finds slab at (decoded (with m) bytes)) where
      pub right_with : Right slab at (reading_step With 0 m 0 at 3 (length bytes))
      right_with = simple (with m (decode 0 bytes).ops) (λ e q. cc) (λ w.
          let a = found_at slab at (decoded (with m) bytes) found w in
          let f = with m (decode 0 bytes).ops in (
            a.rest,
            a.is,
            (
              refl,
              refl,
              expressed w.kind w.levels slab (frames w) w.holds at f a.rest a.is (head_of w.script) _ (0x45 ∷ two m) bytes refl (omega arith)
                  (frame_writable w.kind w.levels slab (frames w) w.holds at f a.rest a.is).1 a.whole a.stands.3 refl refl,
              refl,
              refl,
            ),
          ))

      pub right_end_with : Right slab s.end (plain_step EndWith)
      right_end_with = simple end_with (λ e q. cc) (λ w.
          let a = found_at slab at (decoded (with m) bytes) found w in
          let f = with m (decode 0 bytes).ops in
          (a.stands.1, (surveyed w f a.stands.0 end_with a.stands.1 tt (a.is ∙ ap (λ (gs : List Frame). f ∷ gs) a.stands.2)).1, refl))

    -- Here s is the first way of an if, and t the second.
    module _ (next' : ℕ) (behind' : next' ≡ place_past s.end) (t : Stretch) (inside' : Survey slab next' t) where
      -- Of every script with an if at the place.
      pub record Both (w : ScriptIn slab) (a b : Code) (r : List Frame) : Type 0 where
        pub one : Surveyed a s
        pub two : Surveyed b t
        pub middle : drop s.end (frames w) ≡ else ∷ flatten b (end_if ∷ r)
        pub end : drop t.end (frames w) ≡ end_if ∷ r

      both_ways : (w : ScriptIn slab) (e : Expr) (a b : Code) (r : List Frame) → drop at (frames w) ≡ if e ∷ flatten a (else ∷ flatten b (end_if ∷ r)) → Both w a b r
      both_ways w e a b r is =
          let p = surveyed w (if e) a else (flatten b (end_if ∷ r)) tt is in
          let q = inside' w.kind w.levels (frames w) w.holds b (end_if ∷ r) (stepped (frames w) s.end next' else (flatten b (end_if ∷ r)) (few w) (within behind') p.1) tt in
          record { one = p.0; two = q.0; middle = p.1; end = q.1 }

      module _ (bytes : List ℕ) (found : Finds slab at (decoded if bytes)) where
        if_at : (w : ScriptIn slab) → (a : Code) × (b : Code) × (r : List Frame) × (drop at (frames w) ≡ if (decode 0 bytes).ops ∷ flatten a (else ∷ flatten b (end_if ∷ r)))
        if_at w =
            let a = found_at slab at (decoded if bytes) found w in
            (a.stands.0, a.stands.1, a.stands.2, a.is ∙ ap (λ (gs : List Frame). if (decode 0 bytes).ops ∷ gs) a.stands.3)

        if_reads : (w : ScriptIn slab) → Reads (head_of w.script) slab at (if_step at (length bytes) s t) (drop at (frames w))
        if_reads w =
            let a = found_at slab at (decoded if bytes) found w in
            let i = if_at w in
            let f = if (decode 0 bytes).ops in
            let gs = flatten i.1 (end_if ∷ i.2) in
            let h = both_ways w (decode 0 bytes).ops i.0 i.1 i.2 i.3 in
            subst (Reads (head_of w.script) slab at (if_step at (length bytes) s t)) (sym i.3) (
              refl,
              block_end (frames w) at s.end f else i.0 gs (few w) refl i.3 h.middle,
              expressed w.kind w.levels slab (frames w) w.holds at f a.rest a.is (head_of w.script) _ (0x40 ∷ []) bytes refl (omega arith)
                  (frame_writable w.kind w.levels slab (frames w) w.holds at f a.rest a.is).1 a.whole a.stands.4 refl refl,
              refl,
            )

        if_ways : (w : ScriptIn slab) (e : Expr) (a b c : Code) (r : List Frame) → drop at (frames w) ≡ flatten (branch e a b c) r → Ways (if_step at (length bytes) s t) a b
        if_ways w e a b c r is =
            let h = both_ways w e a b (flatten c r) is in
            let p = h.one in
            let q = h.two in
            record {
              fixed = λ i. p.fixed i && q.fixed i;
              first = λ i. idle_turns (p.fixed i && q.fixed i) (p.duration i) (q.duration i);
              second = λ i. idle_turns (p.fixed i && q.fixed i) (q.duration i) (p.duration i);
              needed = λ i. bit_or (p.needed i) (q.needed i);
              assigned = λ x l. has_bit-bit_or s.assigned t.assigned x ∙ (λ i. p.assigned x l i || q.assigned x l i);
            }

        pub right_if : Right slab at (if_step at (length bytes) s t)
        right_if = record { here = if_reads; ways = if_ways }

        pub right_else : Right slab s.end (closing_step Else (place_past t.end))
        right_else = simple else (λ e q. cc) (λ w.
            let i = if_at w in
            let h = both_ways w (decode 0 bytes).ops i.0 i.1 i.2 i.3 in
            (flatten i.1 (end_if ∷ i.2), h.middle, (refl, block_end (frames w) s.end t.end else end_if i.1 i.2 (few w) refl h.middle h.end)))

        pub right_end_if : Right slab t.end (plain_step EndIf)
        right_end_if = simple end_if (λ e q. cc) (λ w.
            let i = if_at w in
            (i.2, (both_ways w (decode 0 bytes).ops i.0 i.1 i.2 i.3).end, refl))
