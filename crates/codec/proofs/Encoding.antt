-- Frames and their bytes: each has one of the other.
use Rattle.std.proofs.Common.{◌≡◌, ℕ, zero, suc, ◌+◌, ◌*◌, ◌/◌, ◌%◌, ◌^◌, ◌<◌, Bool, true, false, cond, ◌&&◌, leb, List, [], ◌∷◌, ◌++◌, length, drop, ℤ, sym, refl, ap, ◌∙◌, subst, arith, w32, to_z, of_z}
use mathlib.Core.Option.{Option, none, some}
use Rattle.std.specs.List.{AllByRecursion}
use Rattle.std.proofs.lemmas.Int.{of_z-to_z, to_z-of_z}
use Rattle.std.proofs.lemmas.Bool.{le-leb, leb-true, and_parts}
use mir.Facts.{sfits_to_z, Fits-bits}
use Rattle.codec.proofs.Rows.{◌and◌, look_up_makes}
use Rattle.codec.specs.Expressions.{Op, Expr, Taken, with_four, with_one, alone, operations, operation, Decoded, and_then, decode, number_4, four, two, op_bytes, expr_bytes}
use Rattle.codec.specs.Expressions.Op.{constant, variable, sample, held, binary, unary}
use Rattle.codec.specs.Expressions.Binary.{sum, difference, product, quotient, less, equal, both, either}
use Rattle.codec.specs.Expressions.Unary.{negated, inverted}
use Rattle.codec.specs.Frames.{Frame, Read, frame_bytes, with_expression, plain, with_nothing, with_byte, with_two, with_seven, field_then, mask_then, header_of, store_of, kinds, frame_of}
use Rattle.codec.specs.Writable.{Bytes, OpFits, ExprFits, FrameFits}
use Rattle.codec.specs.Frames.Frame.{header, track, channel, thread, thread_end, if, else, end_if, while, end_while, with, end_with, last}

-- From bytes to a frame and back

-- The four bytes of a number.
four_number : (a b c d : ℕ) → a < 256 → b < 256 → c < 256 → d < 256 → four (number_4 a b c d) ≡ a ∷ b ∷ c ∷ d ∷ []
four_number a b c d ha hb hc hd =
    let p : number_4 a b c d / 16777216 ≡ a = omega arith in
    let q : number_4 a b c d / 65536 % 256 ≡ b = omega arith in
    let r : number_4 a b c d / 256 % 256 ≡ c = omega arith in
    let s : number_4 a b c d % 256 ≡ d = omega arith in
    λ i. p i ∷ q i ∷ r i ∷ s i ∷ []

-- An operation's bytes are those that it was taken from, and it fits them.
abbrev Took : List ℕ → ℕ → Taken → Type 0
Took bs c t = (op_bytes t.op ++ drop t.bytes bs ≡ c ∷ bs) × OpFits t.op

took_four : (bs : List ℕ) (t : Taken) → Bytes bs → with_four bs ≡ some t → Took bs 0x01 t
took_four [] t h e = cc
took_four (a ∷ []) t h e = cc
took_four (a ∷ b ∷ []) t h e = cc
took_four (a ∷ b ∷ c ∷ []) t h e = cc
took_four (a ∷ b ∷ c ∷ d ∷ bs) t h e =
    let s : record { op = constant (to_z w32 (number_4 a b c d)); bytes = 4 } ≡ t = cc in
    let n : number_4 a b c d < 2 ^ 32 = omega arith in
    subst (Took (a ∷ b ∷ c ∷ d ∷ bs) 0x01) s
    (ap (λ (x : ℕ). 0x01 ∷ (four x ++ bs)) (of_z-to_z w32 (number_4 a b c d) n) ∙ ap (λ (l : List ℕ). 0x01 ∷ (l ++ bs)) (four_number a b c d h.0 h.1.0 h.1.1.0 h.1.1.1.0), sfits_to_z {w = w32} {n = number_4 a b c d} (Fits-bits 32 tt n))

took_one : (f : ℕ → Op) (k : ℕ) → ((a : ℕ) → (op_bytes (f a) ≡ k ∷ a ∷ []) × OpFits (f a)) → (bs : List ℕ) (t : Taken) → with_one f bs ≡ some t → Took bs k t
took_one f k g [] t e = cc
took_one f k g (a ∷ bs) t e =
    let s : record { op = f a; bytes = 1 } ≡ t = cc in
    subst (Took (a ∷ bs) k) s (ap (λ (l : List ℕ). l ++ bs) (g a).0, (g a).1)

took_alone : (o : Op) (k : ℕ) → (op_bytes o ≡ k ∷ []) × OpFits o → (bs : List ℕ) (t : Taken) → alone o bs ≡ some t → Took bs k t
took_alone o k g bs t e =
    let s : record { op = o; bytes = 0 } ≡ t = cc in
    subst (Took bs k) s (ap (λ (l : List ℕ). l ++ bs) g.0, g.1)

took : (c : ℕ) (bs : List ℕ) (t : Taken) → Bytes bs → operation c bs ≡ some t → Took bs c t
unfolding operation
took c bs t h e = look_up_makes (Took bs) bs t operations (
    took_four bs t h
    and took_one variable 0x02 (λ a. (refl, tt)) bs t
    and took_one sample 0x03 (λ a. (refl, tt)) bs t
    and took_one held 0x04 (λ a. (refl, tt)) bs t
    and took_alone (binary sum) 0x10 (refl, tt) bs t
    and took_alone (binary difference) 0x11 (refl, tt) bs t
    and took_alone (binary product) 0x12 (refl, tt) bs t
    and took_alone (binary quotient) 0x13 (refl, tt) bs t
    and took_alone (binary less) 0x14 (refl, tt) bs t
    and took_alone (binary equal) 0x15 (refl, tt) bs t
    and took_alone (binary both) 0x16 (refl, tt) bs t
    and took_alone (binary either) 0x17 (refl, tt) bs t
    and took_alone (unary negated) 0x18 (refl, tt) bs t
    and took_alone (unary inverted) 0x19 (refl, tt) bs t
    and tt
    ) c e

decode_back : (bs : List ℕ) (n : ℕ) → Bytes bs → (decode n bs).whole ≡ true → expr_bytes (decode n bs).ops ≡ drop n bs
unfolding decode
decode_back [] zero h e = refl
decode_back [] (suc n) h e = refl
decode_back (b ∷ bs) (suc n) h e = decode_back bs n h.1 e
decode_back (b ∷ bs) zero h e = go (operation b bs) refl (λ n. decode_back bs n h.1) e
  where
    go : (o : Option Taken) → operation b bs ≡ o → ((n : ℕ) → (decode n bs).whole ≡ true → expr_bytes (decode n bs).ops ≡ drop n bs) → (and_then o (λ n. decode n bs)).whole ≡ true → expr_bytes (and_then o (λ n. decode n bs)).ops ≡ b ∷ bs
    go none eo ih e = cc
    go (some t) eo ih e = ap (λ (l : List ℕ). op_bytes t.op ++ l) (ih t.bytes e) ∙ (took b bs t h.1 eo).0

decode_fits : (bs : List ℕ) (n : ℕ) → Bytes bs → AllByRecursion OpFits (decode n bs).ops
unfolding decode
decode_fits [] zero h = tt
decode_fits [] (suc n) h = tt
decode_fits (b ∷ bs) (suc n) h = decode_fits bs n h.1
decode_fits (b ∷ bs) zero h = go (operation b bs) refl (λ n. decode_fits bs n h.1)
  where
    go : (o : Option Taken) → operation b bs ≡ o → ((n : ℕ) → AllByRecursion OpFits (decode n bs).ops) → AllByRecursion OpFits (and_then o (λ n. decode n bs)).ops
    go none eo ih = tt
    go (some t) eo ih = ((took b bs t h.1 eo).1, ih t.bytes)

-- If a frame has an expression, it was decoded to its end.
abbrev pub Whole : Frame → Bool → Type 0
Whole (header h) w = Unit {0}
Whole (track i l z) w = Unit {0}
Whole (channel i l z) w = Unit {0}
Whole (thread i) w = Unit {0}
Whole thread_end w = Unit {0}
Whole Frame.skip w = Unit {0}
Whole (Frame.assign x e) w = w ≡ true
Whole (Frame.put h e) w = w ≡ true
Whole (if e) w = w ≡ true
Whole else w = Unit {0}
Whole end_if w = Unit {0}
Whole (while e) w = w ≡ true
Whole end_while w = Unit {0}
Whole (with m e) w = w ≡ true
Whole end_with w = Unit {0}
Whole (last m) w = Unit {0}

-- A frame's bytes are those that it was read from, and it fits them.
abbrev From : List ℕ → ℕ → Read → Type 0
From bs k r = Whole r.frame r.whole → (frame_bytes r.frame ≡ k ∷ bs) × FrameFits r.frame

-- Every frame that f makes has an expression.
abbrev Told : (Expr → Frame) → Type 0
Told f = (e : Expr) (w : Bool) → Whole (f e) w → w ≡ true

from_plain : (f : Frame) (k : ℕ) (bs : List ℕ) (r : Read) → (frame_bytes f ≡ k ∷ bs) × FrameFits f → plain f ≡ some r → From bs k r
from_plain f k bs r g e w = let s : record { frame = f; whole = true } ≡ r = cc in subst (λ (x : Read). (frame_bytes x.frame ≡ k ∷ bs) × FrameFits x.frame) s g

from_nothing : (f : Frame) (k : ℕ) → (frame_bytes f ≡ k ∷ []) × FrameFits f → (bs : List ℕ) (r : Read) → with_nothing f bs ≡ some r → From bs k r
from_nothing f k g [] r e = from_plain f k [] r g e
from_nothing f k g (b ∷ bs) r e = cc

from_byte : (f : ℕ → Frame) (k : ℕ) → ((a : ℕ) → (frame_bytes (f a) ≡ k ∷ a ∷ []) × FrameFits (f a)) → (bs : List ℕ) (r : Read) → with_byte f bs ≡ some r → From bs k r
from_byte f k g [] r e = cc
from_byte f k g (a ∷ []) r e = from_plain (f a) k (a ∷ []) r (g a) e
from_byte f k g (a ∷ b ∷ bs) r e = cc

two_number : (a b : ℕ) → a < 256 → b < 256 → two (a * 256 + b) ≡ a ∷ b ∷ []
two_number a b ha hb =
    let p : (a * 256 + b) / 256 ≡ a = omega arith in
    let q : (a * 256 + b) % 256 ≡ b = omega arith in
    λ i. p i ∷ q i ∷ []

from_two : (f : ℕ → Frame) (k : ℕ) → ((n : ℕ) → (frame_bytes (f n) ≡ k ∷ two n) × FrameFits (f n)) → (bs : List ℕ) (r : Read) → Bytes bs → with_two f bs ≡ some r → From bs k r
from_two f k g [] r h e = cc
from_two f k g (a ∷ []) r h e = cc
from_two f k g (a ∷ b ∷ []) r h e = from_plain (f (a * 256 + b)) k (a ∷ b ∷ []) r ((g (a * 256 + b)).0 ∙ ap (λ (l : List ℕ). k ∷ l) (two_number a b h.0 h.1.0), (g (a * 256 + b)).1) e
from_two f k g (a ∷ b ∷ c ∷ bs) r h e = cc

from_seven : (f : ℕ → ℕ → ℕ → ℕ → ℕ → ℕ → ℕ → Frame) (k : ℕ)
    → ((a b c d e g h : ℕ) → Bytes (a ∷ b ∷ c ∷ d ∷ e ∷ g ∷ h ∷ []) → (frame_bytes (f a b c d e g h) ≡ k ∷ a ∷ b ∷ c ∷ d ∷ e ∷ g ∷ h ∷ []) × FrameFits (f a b c d e g h))
    → (bs : List ℕ) (r : Read) → Bytes bs → with_seven f bs ≡ some r → From bs k r
from_seven f k w [] r s z = cc
from_seven f k w (a ∷ []) r s z = cc
from_seven f k w (a ∷ b ∷ []) r s z = cc
from_seven f k w (a ∷ b ∷ c ∷ []) r s z = cc
from_seven f k w (a ∷ b ∷ c ∷ d ∷ []) r s z = cc
from_seven f k w (a ∷ b ∷ c ∷ d ∷ e ∷ []) r s z = cc
from_seven f k w (a ∷ b ∷ c ∷ d ∷ e ∷ g ∷ []) r s z = cc
from_seven f k w (a ∷ b ∷ c ∷ d ∷ e ∷ g ∷ h ∷ []) r s z = from_plain (f a b c d e g h) k (a ∷ b ∷ c ∷ d ∷ e ∷ g ∷ h ∷ []) r (w a b c d e g h s) z
from_seven f k w (a ∷ b ∷ c ∷ d ∷ e ∷ g ∷ h ∷ i ∷ bs) r s z = cc

from_expression : (f : Expr → Frame) → Told f → (k : ℕ) (front : List ℕ) → ((e : Expr) → (frame_bytes (f e) ≡ k ∷ (front ++ expr_bytes e)) × (ExprFits e → FrameFits (f e))) → (bs : List ℕ) (r : Read) → Bytes bs → with_expression f bs ≡ some r → From (front ++ bs) k r
from_expression f told k front g bs r h e = go (leb 1 (length bs) && leb (length bs) 48) refl e
  where
    go : (t : Bool) → (leb 1 (length bs) && leb (length bs) 48) ≡ t → cond t (some (record { frame = f (decode 0 bs).ops; whole = (decode 0 bs).whole })) none ≡ some r → From (front ++ bs) k r
    go false et e w = cc
    go true et e w =
        let ops = (decode 0 bs).ops in
        let s : record { frame = f ops; whole = (decode 0 bs).whole } ≡ r = cc in
        let v : Whole (f ops) (decode 0 bs).whole = subst (λ (x : Read). Whole x.frame x.whole) (sym s) w in
        let same : expr_bytes ops ≡ bs = decode_back bs 0 h (told ops (decode 0 bs).whole v) in
        let t = and_parts (leb 1 (length bs)) (leb (length bs) 48) et in
        let low = leb-true 1 (length bs) t.0 in
        let high = leb-true (length bs) 48 t.1 in
        let fits : ExprFits ops = (omega (arith, ap length same), omega (arith, ap length same), decode_fits bs 0 h) in
        subst (λ (x : Read). (frame_bytes x.frame ≡ k ∷ (front ++ bs)) × FrameFits x.frame) s ((g ops).0 ∙ ap (λ (l : List ℕ). k ∷ (front ++ l)) same, (g ops).1 fits)

from_field : (f : ℕ → Expr → Frame) → ((a : ℕ) → Told (f a)) → (k : ℕ) → ((a : ℕ) (e : Expr) → (frame_bytes (f a e) ≡ k ∷ a ∷ expr_bytes e) × (ExprFits e → FrameFits (f a e))) → (bs : List ℕ) (r : Read) → Bytes bs → field_then f bs ≡ some r → From bs k r
from_field f told k g [] r h e = cc
from_field f told k g (a ∷ bs) r h e = from_expression (f a) (told a) k (a ∷ []) (g a) bs r h.1 e

from_mask : (bs : List ℕ) (r : Read) → Bytes bs → mask_then with bs ≡ some r → From bs 0x45 r
from_mask [] r h e = cc
from_mask (a ∷ []) r h e = cc
from_mask (a ∷ b ∷ bs) r h e = from_expression (with (a * 256 + b)) (λ e w h. h) 0x45 (a ∷ b ∷ []) (λ x. (ap (λ (l : List ℕ). 0x45 ∷ (l ++ expr_bytes x)) (two_number a b h.0 h.1.0), λ v. v)) bs r h.1.1 e

from_store : (f : ℕ → ℕ → ℕ → Frame) (k : ℕ) → ((i l z : ℕ) → (frame_bytes (f i l z) ≡ k ∷ i ∷ (four l ++ two z)) × FrameFits (f i l z)) → (bs : List ℕ) (r : Read) → Bytes bs → with_seven (store_of f) bs ≡ some r → From bs k r
from_store f k w bs r s z =
    from_seven (store_of f) k
    (λ i a b c d e g h.
    let stored = w i (number_4 a b c d) (e * 256 + g) in
    (stored.0 ∙ (λ j. k ∷ i ∷ (four_number a b c d h.1.0 h.1.1.0 h.1.1.1.0 h.1.1.1.1.0 j ++ two_number e g h.1.1.1.1.1.0 h.1.1.1.1.1.1.0 j)), stored.1)) bs r s z

-- The bytes of the frame that bytes are read as are those bytes, and it fits them.
from_bytes : (bs : List ℕ) (r : Read) → Bytes bs → frame_of bs ≡ some r → Whole r.frame r.whole → (frame_bytes r.frame ≡ bs) × FrameFits r.frame
unfolding frame_of
from_bytes [] r h e w = cc
from_bytes (k ∷ bs) r h e w = look_up_makes (From bs) bs r kinds (
    from_seven header_of 0x01 (λ a b c d e g h s. (refl, tt)) bs r h.1
    and from_store track 0x02 (λ i l z. (refl, tt)) bs r h.1
    and from_store channel 0x03 (λ i l z. (refl, tt)) bs r h.1
    and from_byte thread 0x20 (λ a. (refl, tt)) bs r
    and from_nothing thread_end 0x21 (refl, tt) bs r
    and from_nothing Frame.skip 0x30 (refl, tt) bs r
    and from_field Frame.assign (λ a e w h. h) 0x31 (λ a e. (refl, λ v. v)) bs r h.1
    and from_field Frame.put (λ a e w h. h) 0x32 (λ a e. (refl, λ v. v)) bs r h.1
    and from_expression if (λ e w h. h) 0x40 [] (λ e. (refl, λ v. v)) bs r h.1
    and from_nothing else 0x41 (refl, tt) bs r
    and from_nothing end_if 0x42 (refl, tt) bs r
    and from_expression while (λ e w h. h) 0x43 [] (λ e. (refl, λ v. v)) bs r h.1
    and from_nothing end_while 0x44 (refl, tt) bs r
    and from_mask bs r h.1
    and from_nothing end_with 0x46 (refl, tt) bs r
    and from_two last 0x7F (λ n. (refl, tt)) bs r h.1
    and tt
    ) k e w

pub frame_back : (bs : List ℕ) (r : Read) → Bytes bs → frame_of bs ≡ some r → Whole r.frame r.whole → frame_bytes r.frame ≡ bs
frame_back bs r h e w = (from_bytes bs r h e w).0

-- A frame that was read from bytes fits.
pub frame_fits : (r : Read) (bs : List ℕ) → Bytes bs → frame_of bs ≡ some r → Whole r.frame r.whole → FrameFits r.frame
frame_fits r bs h e w = (from_bytes bs r h e w).1

-- From a frame to its bytes and back

number_four : (n : ℕ) → number_4 (n / 16777216) (n / 65536 % 256) (n / 256 % 256) (n % 256) ≡ n
number_four n = omega arith

number_two : (n : ℕ) → n / 256 * 256 + n % 256 ≡ n
number_two n = omega arith

abbrev whole_expr : Expr → Decoded
whole_expr e = record { ops = e; whole = true }

in_front_of : (o : Op) (e : Expr) (d : Decoded) → d ≡ whole_expr e → ◌≡◌ {A = Decoded} (record { ops = o ∷ d.ops; whole = d.whole }) (whole_expr (o ∷ e))
in_front_of o e d h = λ i. record { ops = o ∷ (h i).ops; whole = (h i).whole }

decode_bytes : (e : Expr) → AllByRecursion OpFits e → decode 0 (expr_bytes e) ≡ whole_expr e
unfolding decode operation
decode_bytes [] h = refl
decode_bytes (constant z ∷ e) h =
    ap (λ (n : ℕ). record { ops = constant (to_z w32 n) ∷ (decode 0 (expr_bytes e)).ops; whole = (decode 0 (expr_bytes e)).whole }) (number_four (of_z w32 z))
    ∙ ap (λ (y : ℤ). record { ops = constant y ∷ (decode 0 (expr_bytes e)).ops; whole = (decode 0 (expr_bytes e)).whole }) (to_z-of_z w32 z h.0)
    ∙ in_front_of (constant z) e _ (decode_bytes e h.1)
decode_bytes (variable x ∷ e) h = in_front_of (variable x) e _ (decode_bytes e h.1)
decode_bytes (sample t ∷ e) h = in_front_of (sample t) e _ (decode_bytes e h.1)
decode_bytes (held t ∷ e) h = in_front_of (held t) e _ (decode_bytes e h.1)
decode_bytes (binary sum ∷ e) h = in_front_of (binary sum) e _ (decode_bytes e h.1)
decode_bytes (binary difference ∷ e) h = in_front_of (binary difference) e _ (decode_bytes e h.1)
decode_bytes (binary product ∷ e) h = in_front_of (binary product) e _ (decode_bytes e h.1)
decode_bytes (binary quotient ∷ e) h = in_front_of (binary quotient) e _ (decode_bytes e h.1)
decode_bytes (binary less ∷ e) h = in_front_of (binary less) e _ (decode_bytes e h.1)
decode_bytes (binary equal ∷ e) h = in_front_of (binary equal) e _ (decode_bytes e h.1)
decode_bytes (binary both ∷ e) h = in_front_of (binary both) e _ (decode_bytes e h.1)
decode_bytes (binary either ∷ e) h = in_front_of (binary either) e _ (decode_bytes e h.1)
decode_bytes (unary negated ∷ e) h = in_front_of (unary negated) e _ (decode_bytes e h.1)
decode_bytes (unary inverted ∷ e) h = in_front_of (unary inverted) e _ (decode_bytes e h.1)

expression_bytes : (f : Expr → Frame) (e : Expr) → ExprFits e → with_expression f (expr_bytes e) ≡ plain (f e)
expression_bytes f e h =
    let n = length (expr_bytes e) in
    rw (le-leb 1 n h.0, le-leb n 48 h.1) (ap (λ (d : Decoded). some (record { frame = f d.ops; whole = d.whole })) (decode_bytes e h.2))

-- A frame's bytes are read as that frame.
pub frame_forth : (f : Frame) → FrameFits f → frame_of (frame_bytes f) ≡ plain f
unfolding frame_of
frame_forth (header h) v = refl
frame_forth (track i l z) v = λ j. plain (track i (number_four l j) (number_two z j))
frame_forth (channel i l z) v = λ j. plain (channel i (number_four l j) (number_two z j))
frame_forth (thread i) v = refl
frame_forth thread_end v = refl
frame_forth Frame.skip v = refl
frame_forth (Frame.assign x e) v = expression_bytes (Frame.assign x) e v
frame_forth (Frame.put h e) v = expression_bytes (Frame.put h) e v
frame_forth (if e) v = expression_bytes if e v
frame_forth else v = refl
frame_forth end_if v = refl
frame_forth (while e) v = expression_bytes while e v
frame_forth end_while v = refl
frame_forth (with m e) v = ap (λ (n : ℕ). with_expression (with n) (expr_bytes e)) (number_two m) ∙ expression_bytes (with m) e v
frame_forth end_with v = refl
frame_forth (last m) v = ap (λ (n : ℕ). plain (last n)) (number_two m)
