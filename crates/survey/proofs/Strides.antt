-- A walk over a script's table goes as the machine's walk over its frames.
use Rattle.std.proofs.Common.{◌≡◌, ℕ, zero, suc, ◌+◌, ◌<◌, ◌≤◌, min, Bool, true, false, cond, ltb, List, [], ◌∷◌, length, drop, set, sym, refl, ap, ◌∙◌, subst, ⊎_elim, add-one, arith, length-set, ltb-false, ltb-true, rules}
use Rattle.std.proofs.lemmas.Bool.{cases_lt}
use Rattle.std.proofs.lemmas.List.{get_or_past}
use Rattle.lattice.specs.Levels.{Levels}
use Rattle.codec.specs.Frames.{Head, Frame}
use Rattle.codec.specs.Frames.Frame.{header, track, channel, thread, thread_end, if, else, end_if, while, end_while, with, end_with, last}
use Rattle.script.specs.Code.{Script}
use Rattle.script.specs.Trees.{script_frames, ValidScript}
use Rattle.model.specs.Places.{later_openers}
use Rattle.model.specs.Fitting.{Walk, stride, frame_at, around, stacked}
use Rattle.model.proofs.Places.Stacking.{stacked_none, opens, ends, deep}
use Rattle.model.proofs.Places.Shallow.{shallow}
use Rattle.survey.specs.Table.{nil_step, step_at_place, Reads, Tabled}
use Rattle.survey.specs.Around.{no_around, entered, left, strode, Met, Walks}
use Rattle.survey.specs.declared.table.Kind.{Kind}
use Rattle.survey.specs.declared.table.Kind.TheVariants.{Other, Begin, End, Skip, Assign, Put, If, Else, EndIf, While, EndWhile, With, EndWith}
use Rattle.survey.specs.declared.table.Step.{Step}
use Rattle.survey.specs.declared.around.Around.{Around}

-- A turn of the walk

-- Over the first steps of a table.
unfoldable pub walked : List Step → ℕ → Around
walked table zero = no_around
walked table (suc p) = strode p (step_at_place table p).kind (walked table p)

pub walked_none : (table : List Step) → walked table 0 ≡ no_around
unfolding walked
walked_none table = refl

walked_next : (table : List Step) (p : ℕ) → walked table (suc p) ≡ strode p (step_at_place table p).kind (walked table p)
unfolding walked
walked_next table p = refl

pub walked_more : (table : List Step) (p : ℕ) → walked table (p + 1) ≡ strode p (step_at_place table p).kind (walked table p)
walked_more table p = ap (walked table) (add-one p) ∙ walked_next table p

-- How far a walk over p frames may have come.
pub record Within (p : ℕ) (w : Around) : Type 0 where
  pub begun : w.begun ≤ p
  pub ended : w.ended ≤ p
  pub depth : w.depth ≤ 16
  pub room : length w.openers ≡ 16

later_within : (p : ℕ) (w : Around) → Within p w → Within (suc p) w
later_within p w n = record { begun = omega arith; ended = omega arith; depth = n.depth; room = n.room }

entered_within : (p : ℕ) (w : Around) → Within p w → Within (suc p) (entered p w)
entered_within p w n = go (ltb w.depth 16) refl
  where
    go : (b : Bool) → ltb w.depth 16 ≡ b → Within (suc p) (cond b (record { begun = w.begun; ended = w.ended; openers = set w.openers w.depth p; depth = w.depth + 1 }) w)
    go true e = record { begun = omega arith; ended = omega arith; depth = omega (arith, ltb-true w.depth 16 e); room = simp length-set n.room }
    go false e = later_within p w n

left_within : (p : ℕ) (w : Around) → Within p w → Within (suc p) (left w)
left_within p w n = record { begun = omega arith; ended = omega arith; depth = omega arith; room = n.room }

strode_within : (p : ℕ) (kind : Kind) (w : Around) → Within p w → Within (suc p) (strode p kind w)
strode_within p kind w n = search (rules, later_within, entered_within, left_within)

within : (table : List Step) (p : ℕ) → Within p (walked table p)
unfolding walked
within table zero = record { begun = omega arith; ended = omega arith; depth = omega arith; room = refl }
within table (suc p) = strode_within p (step_at_place table p).kind (walked table p) (within table p)

pub walk_within : (table : List Step) (p : ℕ) (w : Around) → w ≡ walked table p → Within p w
walk_within table p w e = subst (Within p) (sym e) (within table p)

-- Past the table

past_table : (table : List Step) (p : ℕ) → length table ≤ p → walked table (suc p) ≡ walked table p
past_table table p l = walked_next table p ∙ ap (λ (st : Step). strode p st.kind (walked table p)) (get_or_past table p nil_step l)

settled : (table : List Step) (p m : ℕ) → length table ≤ m → m ≤ p → walked table m ≡ walked table p
settled table zero m l h = let e : m ≡ 0 = omega arith in ap (walked table) e
settled table (suc p) m l h =
    ⊎_elim
    (λ (t : m < suc p). settled table p m l (omega arith) ∙ sym (past_table table p (omega arith)))
    (λ (t : suc p ≤ m). let e : m ≡ suc p = omega arith in ap (walked table) e)
    (cases_lt m (suc p))

-- Past the table a walk meets nothing more.
pub capped : (table : List Step) (p : ℕ) → walked table (min p (length table)) ≡ walked table p
capped table p =
    ⊎_elim
    (λ (t : p < length table). let e : min p (length table) ≡ p = omega arith in ap (walked table) e)
    (λ (t : length table ≤ p). let e : min p (length table) ≡ length table = omega arith in ap (walked table) e ∙ settled table p (length table) (omega arith) t)
    (cases_lt p (length table))

-- Step by step

-- The kind of the step of a frame.
abbrev pub kind_of : Frame → Kind
kind_of (header h) = Other
kind_of (track i l z) = Other
kind_of (channel i l z) = Other
kind_of (thread i) = Begin
kind_of thread_end = End
kind_of Frame.skip = Skip
kind_of (Frame.assign x e) = Assign
kind_of (Frame.put h e) = Put
kind_of (if e) = If
kind_of else = Else
kind_of end_if = EndIf
kind_of (while e) = While
kind_of end_while = EndWhile
kind_of (with m e) = With
kind_of end_with = EndWith
kind_of (last m) = Other

module _ (h : Head) (code : List ℕ) (q : ℕ) (st : Step) where
  reads_first : (f : Frame) (gs : List Frame) → Reads h code q st (f ∷ gs) → st.kind ≡ kind_of f
  reads_first f gs r = search rules

  -- A step has the kind of the frame at its place.
  pub reads_kind : (fs : List Frame) (p : ℕ) → Reads h code q st (drop p fs) → st.kind ≡ kind_of (frame_at fs p)
  reads_kind [] zero r = r
  reads_kind [] (suc p) r = r
  reads_kind (f ∷ fs) zero r = reads_first f fs r
  reads_kind (f ∷ fs) (suc p) r = reads_kind fs p r

enters : (p : ℕ) (w : Around) (v : Walk) → Met w v → length w.openers ≡ 16 → suc (length v.openers) ≤ 16 → Met (entered p w) (record { begun = v.begun; ended = v.ended; openers = p ∷ v.openers })
enters p w v m n l =
    let d : w.depth ≡ length v.openers = sym (deep w.openers w.depth) ∙ ap length m.openers in
    let few : w.depth < 16 = omega arith in
    go (ltb w.depth 16) refl few
  where
    go : (b : Bool) → ltb w.depth 16 ≡ b → w.depth < 16 → Met (cond b (record { begun = w.begun; ended = w.ended; openers = set w.openers w.depth p; depth = w.depth + 1 }) w) (record { begun = v.begun; ended = v.ended; openers = p ∷ v.openers })
    go true e few =
        record {
          begun = m.begun;
          ended = m.ended;
          openers = ap (stacked (set w.openers w.depth p)) (add-one w.depth) ∙ opens w.openers w.depth p (omega arith) ∙ ap (λ (ps : List ℕ). p ∷ ps) m.openers;
        }
    go false e few = absurd (omega (arith, ltb-false w.depth 16 e))

leaves : (w : Around) (v : Walk) → Met w v → Met (left w) (record { begun = v.begun; ended = v.ended; openers = later_openers v.openers })
leaves w v m = record { begun = m.begun; ended = m.ended; openers = ends w.openers w.depth ∙ ap later_openers m.openers }

-- Over a frame both walks go alike, where the machine's opens no more than 16 blocks.
strides : (p : ℕ) (f : Frame) (w : Around) (v : Walk) → Met w v → length w.openers ≡ 16 → length (stride p f v).openers ≤ 16 → Met (strode p (kind_of f) w) (stride p f v)
strides p f w v m n l = search (rules, enters, leaves)

module _ (kind : ℕ) (k : Levels) (sc : Script) (h : Head) (code : List ℕ) (table : List Step) (valid : ValidScript kind k sc) (tabled : Tabled h code table (script_frames sc)) where
  follows : (p : ℕ) → Met (walked table p) (around (script_frames sc) p)
  unfolding walked around
  follows zero = record { begun = refl; ended = refl; openers = stacked_none no_around.openers }
  follows (suc p) =
      let fs = script_frames sc in
      let is = reads_kind h code p (step_at_place table p) fs p (tabled.here p) in
      subst (λ (x : Kind). Met (strode p x (walked table p)) (stride p (frame_at fs p) (around fs p))) (sym is)
      (strides p (frame_at fs p) (walked table p) (around fs p) (follows p) (within table p).room (shallow kind k sc valid (suc p)))

-- What a walk over the table has met is what it should have.
pub walks : (table : List Step) (p : ℕ) (r : Around) → r ≡ walked table (min p (length table)) → Walks table p r
walks table p r e kind k sc h code v t =
    subst (λ (w : Around). Met w (around (script_frames sc) p)) (sym (e ∙ capped table p)) (follows kind k sc h code table v t p)
