-- Frames written as lines are read back.
use Rattle.std.proofs.Common.{◌≡◌, ℕ, ◌+◌, ◌*◌, ◌/◌, ◌%◌, ◌<◌, ◌≤◌, Bool, true, false, cond, ◌&&◌, eqb, ltb, leb, List, [], ◌∷◌, ◌++◌, map, length, sym, refl, ap, ◌∙◌, subst, ap₂, arith}
use mathlib.Core.Option
use mathlib.Core.Option.{Option, none, some}
use Rattle.std.specs.List.{AllByRecursion}
use Rattle.std.proofs.lemmas.Bool.{lt-ltb, le-leb, ne_eqb, ltb-true, eqb-true, leb-true, and_parts}
use Rattle.std.proofs.lemmas.Bool.Decides.{nat_tests}
use Rattle.codec.specs.Lines.{worth, digit, in_front, lines, pairs, line_bytes, split, digits, written}

-- A frame that can be written: 1 to 51 bytes.
abbrev pub Sized : List ℕ → Type 0
Sized f = (1 ≤ length f) × (length f ≤ 51) × AllByRecursion (λ b. b < 256) f

worth_digit : (n : ℕ) → n < 16 → worth (digit n) ≡ n
unfolding worth digit
worth_digit n h = grind (arith, nat_tests)

digit_above : (n : ℕ) → 48 ≤ digit n
unfolding digit
digit_above n = grind (arith, nat_tests)

no_end : (n : ℕ) → eqb (digit n) 0x0A ≡ false
no_end n = ne_eqb (digit n) 10 (λ e. omega (arith, digit_above n))

pairs_digits : (f : List ℕ) → AllByRecursion (λ b. b < 256) f → pairs (digits f) ≡ some f
unfolding pairs digits
pairs_digits [] h = refl
pairs_digits (b ∷ bs) h =
    rw (worth_digit (b / 16) (omega (arith, h.0)), worth_digit (b % 16) (omega arith), pairs_digits bs h.1)
    (rw (lt-ltb (b / 16) 16 (omega (arith, h.0)), lt-ltb (b % 16) 16 (omega arith)) (ap (λ (x : ℕ). some (x ∷ bs)) (omega (arith, worth_digit (b / 16) (omega (arith, h.0)), worth_digit (b % 16) (omega arith)))))

length_digits : (f : List ℕ) → length (digits f) ≡ 2 * length f
unfolding digits
length_digits [] = refl
length_digits (b ∷ bs) = omega (arith, length_digits bs)

line_digits : (f : List ℕ) → Sized f → line_bytes (some (digits f)) ≡ some f
unfolding line_bytes
line_digits f h = rw (le-leb 1 (length (digits f)) (omega (arith, length_digits f)), le-leb (length (digits f)) 102 (omega (arith, length_digits f))) (pairs_digits f h.2)

lines_digits : (f : List ℕ) (r : List ℕ) → lines (digits f ++ (0x0A ∷ r)) ≡ some (digits f) ∷ lines r
unfolding lines digits in_front
lines_digits [] r = refl
lines_digits (b ∷ bs) r = rw (no_end (b / 16), no_end (b % 16), lines_digits bs r)

pub split_written : (fs : List (List ℕ)) → AllByRecursion Sized fs → split (written fs) ≡ map some fs
unfolding split written lines
split_written [] h = refl
split_written (f ∷ fs) h = ap (map line_bytes) (lines_digits f (written fs)) ∙ ap₂ {A = Option (List ℕ)} {B = List (Option (List ℕ))} (λ x xs. x ∷ xs) (line_digits f h.0) (split_written fs h.1)

-- Lines without a fault are the frames that they hold, written.

digit_worth : (b : ℕ) → worth b < 16 → digit (worth b) ≡ b
unfolding worth digit
digit_worth b h = grind (arith, nat_tests)

abbrev unlines : List (List ℕ) → List ℕ
unlines [] = []
unlines (l ∷ ls) = l ++ (0x0A ∷ unlines ls)

Back : List ℕ → Type 0
Back bytes = (ls : List (List ℕ)) → lines bytes ≡ map some ls → unlines ls ≡ bytes

front_back : (b : ℕ) (bs : List ℕ) (os : List (Option (List ℕ))) → lines bs ≡ os → (ls : List (List ℕ)) → in_front b os ≡ map some ls → Back bs → unlines ls ≡ b ∷ bs
unfolding in_front Back
front_back b bs [] eo [] e ih = cc
front_back b bs [] eo (m ∷ ls) e ih = cc
front_back b bs (none ∷ os) eo [] e ih = cc
front_back b bs (none ∷ os) eo (m ∷ ls) e ih = cc
front_back b bs (some l ∷ os) eo [] e ih = cc
front_back b bs (some l ∷ os) eo (m ∷ ls) e ih =
    let first : b ∷ l ≡ m = cc in
    let later : os ≡ map some ls = cc in
    let more : unlines (l ∷ ls) ≡ bs = ih (l ∷ ls) (eo ∙ ap (λ (r : List (Option (List ℕ))). some l ∷ r) later) in
    ap (λ (x : List ℕ). unlines (x ∷ ls)) (sym first) ∙ ap (λ (x : List ℕ). b ∷ x) more

end_back : (b : ℕ) (bs : List ℕ) (t : Bool) → eqb b 0x0A ≡ t → (ls : List (List ℕ)) → cond t (some [] ∷ lines bs) (in_front b (lines bs)) ≡ map some ls → Back bs → unlines ls ≡ b ∷ bs
unfolding Back
end_back b bs true et [] e ih = cc
end_back b bs true et (m ∷ ls) e ih =
    let first : [] ≡ m = cc in
    let later : lines bs ≡ map some ls = cc in
    ap (λ (x : List ℕ). unlines (x ∷ ls)) (sym first) ∙ ap (λ (x : List ℕ). 0x0A ∷ x) (ih ls later) ∙ ap (λ (c : ℕ). c ∷ bs) (sym (eqb-true b 10 et))
end_back b bs false et ls e ih = front_back b bs (lines bs) refl ls e ih

lines_back : (bytes : List ℕ) → Back bytes
unfolding lines Back
lines_back [] [] e = refl
lines_back [] (l ∷ ls) e = cc
lines_back (b ∷ bs) ls e = end_back b bs (eqb b 0x0A) refl ls e (lines_back bs)

-- Digits without a fault.
record Digits (ds f : List ℕ) : Type 0 where
  is : digits f ≡ ds
  small : AllByRecursion (λ b. b < 256) f

pairs_more : (a b : ℕ) (ds : List ℕ) (t : Bool) → (ltb (worth a) 16 && ltb (worth b) 16) ≡ t → (o : Option (List ℕ)) → ((g : List ℕ) → o ≡ some g → Digits ds g) → (f : List ℕ)
    → cond t (Option.map (λ bs. (16 * worth a + worth b) ∷ bs) o) none ≡ some f → Digits (a ∷ b ∷ ds) f
unfolding digits
pairs_more a b ds false et o ih f e = cc
pairs_more a b ds true et none ih f e = cc
pairs_more a b ds true et (some g) ih f e =
    let h : (16 * worth a + worth b) ∷ g ≡ f = cc in
    let t = and_parts (ltb (worth a) 16) (ltb (worth b) 16) et in
    let wa : worth a < 16 = ltb-true (worth a) 16 t.0 in
    let wb : worth b < 16 = ltb-true (worth b) 16 t.1 in
    let da : digit ((16 * worth a + worth b) / 16) ≡ a = ap digit (omega arith) ∙ digit_worth a wa in
    let db : digit ((16 * worth a + worth b) % 16) ≡ b = ap digit (omega arith) ∙ digit_worth b wb in
    let m = ih g refl in
    subst (Digits (a ∷ b ∷ ds)) h (record { is = λ i. da i ∷ db i ∷ m.is i; small = (omega arith, m.small) })

pairs_back : (ds f : List ℕ) → pairs ds ≡ some f → Digits ds f
unfolding pairs digits
pairs_back [] f e = let h : [] ≡ f = cc in subst (Digits []) h (record { is = refl; small = tt })
pairs_back (a ∷ []) f e = cc
pairs_back (a ∷ b ∷ ds) f e = pairs_more a b ds _ refl (pairs ds) (pairs_back ds) f e

pub record LineBack (x : Option (List ℕ)) (f : List ℕ) : Type 0 where
  pub is : x ≡ some (digits f)
  pub sized : Sized f

pub line_back : (x : Option (List ℕ)) (f : List ℕ) → line_bytes x ≡ some f → LineBack x f
unfolding line_bytes
line_back none f e = cc
line_back (some ds) f e = go (leb 1 (length ds) && leb (length ds) 102) refl e
  where
    go : (t : Bool) → (leb 1 (length ds) && leb (length ds) 102) ≡ t → cond t (pairs ds) none ≡ some f → LineBack (some ds) f
    go false et h = cc
    go true et h =
        let m = pairs_back ds f h in
        let t = and_parts (leb 1 (length ds)) (leb (length ds) 102) et in
        let low = leb-true 1 (length ds) t.0 in
        let high = leb-true (length ds) 102 t.1 in
        record { is = ap (λ (x : List ℕ). some x) (sym m.is); sized = (omega (arith, length_digits f, ap length m.is), omega (arith, length_digits f, ap length m.is), m.small) }

lines_all : (os : List (Option (List ℕ))) (fs : List (List ℕ)) → map line_bytes os ≡ map some fs → (os ≡ map some (map digits fs)) × AllByRecursion Sized fs
lines_all [] [] e = (refl, tt)
lines_all [] (f ∷ fs) e = cc
lines_all (o ∷ os) [] e = cc
lines_all (o ∷ os) (f ∷ fs) e =
    let first : line_bytes o ≡ some f = cc in
    let later : map line_bytes os ≡ map some fs = cc in
    let m = line_back o f first in
    let t = lines_all os fs later in
    ((λ i. m.is i ∷ t.0 i), (m.sized, t.1))

unlines_written : (fs : List (List ℕ)) → unlines (map digits fs) ≡ written fs
unfolding written
unlines_written [] = refl
unlines_written (f ∷ fs) = ap (λ (r : List ℕ). digits f ++ (0x0A ∷ r)) (unlines_written fs)

pub written_split : (bytes : List ℕ) (fs : List (List ℕ)) → split bytes ≡ map some fs → (written fs ≡ bytes) × AllByRecursion Sized fs
unfolding split Back
written_split bytes fs e =
    let t = lines_all (lines bytes) fs e in
    (sym (unlines_written fs) ∙ lines_back bytes (map digits fs) t.0, t.1)
