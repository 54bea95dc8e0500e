-- Lines: the digits of one byte, and the line up to a byte 0A.
use Rattle.std.proofs.Common.{◌≡◌, ℕ, ◌+◌, ◌-◌, ◌*◌, ◌/◌, ◌<◌, ◌≤◌, zero, suc, Bool, true, false, cond, ◌&&◌, eqb, ltb, ◌⊎◌, List, [], ◌∷◌, ◌++◌, length, get_or, take, drop, set, replicate, sym, refl, ap, ◌∙◌, append_assoc, append-nil, arith, get_or-take, length-drop, length-take}
use mathlib.Core.Option.{Option, none, some, map}
use Rattle.std.proofs.lemmas.Bool.Decides.{nat_tests}
use Rattle.std.proofs.ByRecursion.{All-from_get_or}
use Rattle.std.proofs.lemmas.List.{take_more_set, take_rest, take-append-drop, drop-set-lt, drop-drop, drop_more, drop-replicate}
use Rattle.codec.specs.Lines.{pairs, worth}
use Rattle.std.specs.Bool.{then_some}
use Rattle.std.specs.Simd.{first_chunks}
use Rattle.codec.specs.Slots.{front, no_end, perhaps}

pairs_two : (rest : List ℕ) → 2 ≤ length rest → pairs rest ≡ cond (ltb (worth (get_or rest 0 0)) 16 && ltb (worth (get_or rest 1 0)) 16) (map (λ bs. (16 * worth (get_or rest 0 0) + worth (get_or rest 1 0)) ∷ bs) (pairs (drop 2 rest))) none
unfolding pairs
pairs_two [] h = absurd (omega arith)
pairs_two (a ∷ []) h = absurd (omega arith)
pairs_two (a ∷ b ∷ rest) h = refl

led_more : (xs : List ℕ) (b : ℕ) (bs : Option (List ℕ)) → map (λ ys. (xs ++ (b ∷ [])) ++ ys) bs ≡ map (λ ys. xs ++ ys) (map (λ ys. b ∷ ys) bs)
led_more xs b none = refl
led_more xs b (some bs) = ap some (append_assoc xs (b ∷ []) bs)

both_digits : (high low : ℕ) (a b : ℕ) → high ≡ worth a → low ≡ worth b → high < 16 → low < 16 → ltb (worth a) 16 && ltb (worth b) 16 ≡ true
both_digits high low a b eh el hh hl = grind (arith, nat_tests)

-- Pair i of a line, which stands where the line goes on behind the i pairs before it.
pub record PairAt (chunks : List (List ℕ)) (rest : List ℕ) (i : ℕ) : Type 0 where
  pub two : 2 ≤ length rest
  pub high : worth (get_or (get_or chunks i []) 0 0) ≡ worth (get_or rest 0 0)
  pub low : worth (get_or (get_or chunks i []) 1 0) ≡ worth (get_or rest 1 0)

pub pair_at : (chunks : List (List ℕ)) (line : List ℕ) (i : ℕ) → chunks ≡ first_chunks 2 (length line / 2) line → length chunks ≡ length line / 2 → i < length chunks
    → PairAt chunks (drop (2 * i) line) i
pair_at chunks line i e l h =
    let at : (k : ℕ) → k < 2 → get_or (get_or chunks i []) k 0 ≡ get_or (drop (2 * i) line) k 0 =
    λ k two. (λ j. get_or (get_or (e j) i []) k 0) ∙ go k two (length line / 2) line i (omega arith) in
    record { two = simp length-drop (omega arith); high = ap worth (at 0 (omega arith)); low = ap worth (at 1 (omega arith)) }
  where
    go : (k : ℕ) → k < 2 → (n : ℕ) (line : List ℕ) (i : ℕ) → i < n → get_or (get_or (first_chunks 2 n line) i []) k 0 ≡ get_or (drop (2 * i) line) k 0
    go k two zero line i h = absurd (omega arith)
    go k two (suc n) line zero h = get_or-take 2 line k 0 two
    go k two (suc n) line (suc i) h = go k two n (drop 2 line) i (omega arith) ∙ ap (λ xs. get_or xs k 0) (drop-drop (2 * i) 2 line ∙ ap (λ m. drop m line) (omega arith))

next_pair : (line : List ℕ) (n : ℕ) → drop (2 * (n + 1)) line ≡ drop 2 (drop (2 * n) line)
next_pair line n = let e : 2 * (n + 1) ≡ 2 * n + 2 = omega arith in ap (λ k. drop k line) e ∙ sym (drop-drop 2 (2 * n) line)

pub digits_again : (bytes line : List ℕ) (n high low : ℕ) (all : Option (List ℕ)) → n < length bytes → 2 ≤ length (drop (2 * n) line)
    → high ≡ worth (get_or (drop (2 * n) line) 0 0) → low ≡ worth (get_or (drop (2 * n) line) 1 0) → high < 16 → low < 16
    → map (λ bs. take n bytes ++ bs) (pairs (drop (2 * n) line)) ≡ all
    → map (λ bs. take (n + 1) (set bytes n (16 * high + low)) ++ bs) (pairs (drop (2 * (n + 1)) line)) ≡ all
digits_again bytes line n high low all h two eh el hh hl was =
    let rest = drop (2 * n) line in
    (λ i. map (λ bs. take_more_set bytes n (16 * high + low) h i ++ bs) (pairs (next_pair line n i)))
    ∙ led_more (take n bytes) (16 * high + low) (pairs (drop 2 rest))
    ∙ ap (map (λ bs. take n bytes ++ bs)) ((λ i. map (λ bs. (16 * eh i + el i) ∷ bs) (pairs (drop 2 rest))) ∙ sym (pairs_two rest two ∙ rw (both_digits high low (get_or rest 0 0) (get_or rest 1 0) eh el hh hl)))
    ∙ was

no_digits : (a b : ℕ) → (16 ≤ worth a) ⊎ (16 ≤ worth b) → ltb (worth a) 16 && ltb (worth b) 16 ≡ false
no_digits a b h = grind (arith, nat_tests)

pub digits_none : (bytes rest : List ℕ) (n : ℕ) (all : Option (List ℕ)) → 2 ≤ length rest → (16 ≤ worth (get_or rest 0 0)) ⊎ (16 ≤ worth (get_or rest 1 0))
    → map (λ bs. take n bytes ++ bs) (pairs rest) ≡ all → none ≡ all
digits_none bytes rest n all two h was =
    let e : pairs rest ≡ none = pairs_two rest two ∙ rw (no_digits (get_or rest 0 0) (get_or rest 1 0) h) in
    ap (map (λ bs. take n bytes ++ bs)) (sym e) ∙ was

pub zeros_again : (bytes : List ℕ) (n v : ℕ) → drop n bytes ≡ replicate (51 - n) 0 → drop (n + 1) (set bytes n v) ≡ replicate (51 - (n + 1)) 0
zeros_again bytes n v was =
    drop-set-lt (n + 1) bytes n v (omega arith) ∙ sym (drop-drop 1 n bytes) ∙ ap (drop 1) was ∙ drop-replicate 1 (51 - n) 0 ∙ ap (λ k. replicate k 0) (omega arith)

-- at most one digit is left: none, or one too few
pub digits_over : (bytes rest : List ℕ) (n m : ℕ) (even : Bool) (all : Option (List ℕ)) → n ≡ m → length rest < 2 → even ≡ eqb (length rest) 0
    → map (λ bs. take n bytes ++ bs) (pairs rest) ≡ all → perhaps front (then_some even (record { bytes = bytes; len = m })) ≡ all
unfolding pairs
digits_over bytes [] n m even all same h e was = rw (e, ← same) (ap some (sym (append-nil (take n bytes))) ∙ was)
digits_over bytes (a ∷ []) n m even all same h e was = rw e was
digits_over bytes (a ∷ b ∷ rest) n m even all same h e was = absurd (omega arith)

-- The first line of a text

pub line_found : (text : List ℕ) (i : ℕ) → i < length text → get_or text i 0 ≡ 10 → ((k : ℕ) → k < i → eqb (get_or text k 0) 10 ≡ false)
    → no_end (take i text) × (text ≡ take i text ++ (10 ∷ take (length text - (i + 1)) (drop (i + 1) text)))
line_found text i within ends before = (
  All-from_get_or (λ b. eqb b 10 ≡ false) (take i text) 0
      (λ k h. let k_before : k < i = omega (arith, length-take i text) in rw (get_or-take i text k 0 k_before) (before k k_before)),
  sym (take-append-drop i text) ∙ ap (λ r. take i text ++ r) (drop_more text i 0 within ∙ (λ j. ends j ∷ sym (take_rest text (i + 1)) j)),
)
