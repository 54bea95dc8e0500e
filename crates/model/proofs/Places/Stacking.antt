-- A walk's openers in an array, and how far its counts go.
use Rattle.std.proofs.Common.{◌≡◌, ℕ, zero, suc, ◌-◌, ◌<◌, ◌≤◌, T, eqb, ◌≢◌, List, [], ◌∷◌, length, get_or, set, sym, refl, ap, ◌∙◌, arith, get_or-set_other, get_or-set_same, rules}
use Rattle.codec.specs.Frames.{Frame}
use Rattle.model.specs.Places.{later_openers}
use Rattle.model.specs.Fitting.{Walk, stride, frame_at, around, stacked, same_places}
use Rattle.model.proofs.Tests.{and_right}

pub stacked_none : (xs : List ℕ) → stacked xs 0 ≡ []
unfolding stacked
stacked_none xs = refl

pub stacked_more : (xs : List ℕ) (d : ℕ) → stacked xs (suc d) ≡ get_or xs d 0 ∷ stacked xs d
unfolding stacked
stacked_more xs d = refl

-- What stands above the stack does not show.
pub stacked_above : (xs : List ℕ) (d j p : ℕ) → d ≤ j → stacked (set xs j p) d ≡ stacked xs d
unfolding stacked
stacked_above xs zero j p l = refl
stacked_above xs (suc d) j p l =
    let ne : d ≢ j = λ (e : d ≡ j). absurd (omega (arith, e)) in
    let a = get_or-set_other xs j d p 0 ne in
    let b = stacked_above xs d j p (omega arith) in
    λ i. a i ∷ b i

pub opens : (xs : List ℕ) (d p : ℕ) → d < length xs → stacked (set xs d p) (suc d) ≡ p ∷ stacked xs d
opens xs d p l =
    let a = get_or-set_same xs d p 0 l in
    let b = stacked_above xs d d p (omega arith) in
    stacked_more (set xs d p) d ∙ (λ i. a i ∷ b i)

pub ends : (xs : List ℕ) (d : ℕ) → stacked xs (d - 1) ≡ later_openers (stacked xs d)
ends xs zero = let e : 0 - 1 ≡ 0 = omega arith in ap (stacked xs) e ∙ stacked_none xs ∙ sym (ap later_openers (stacked_none xs))
ends xs (suc d) = let e : suc d - 1 ≡ d = omega arith in ap (stacked xs) e ∙ sym (ap later_openers (stacked_more xs d))

pub deep : (xs : List ℕ) (d : ℕ) → length (stacked xs d) ≡ d
unfolding stacked
deep xs zero = refl
deep xs (suc d) = ap suc (deep xs d)

-- Lists of places that are the same are as long.
pub same_length : (ps qs : List ℕ) → T (same_places ps qs) → length ps ≡ length qs
same_length [] [] t = refl
same_length [] (q ∷ qs) t = absurd t
same_length (p ∷ ps) [] t = absurd t
same_length (p ∷ ps) (q ∷ qs) t = ap suc (same_length ps qs (and_right (eqb p q) (same_places ps qs) t))

-- One frame adds one at most.
record Adds (v w : Walk) : Type 0 where
  begun : w.begun ≤ suc v.begun
  ended : w.ended ≤ suc v.ended

adds : (p : ℕ) (f : Frame) (w : Walk) → Adds w (stride p f w)
adds p f w = search rules

pub counts : (fs : List Frame) (p : ℕ) → ((around fs p).begun ≤ p) × ((around fs p).ended ≤ p)
unfolding around
counts fs zero = (omega arith, omega arith)
counts fs (suc p) =
    let a = adds p (frame_at fs p) (around fs p) in
    let b = counts fs p in
    (omega (arith, a.begun, b.0), omega (arith, a.ended, b.1))
