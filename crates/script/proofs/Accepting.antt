-- An accepting reading, frame by frame: every test of every frame passed, and the last state is behind the last frame.
use Rattle.std.proofs.Common.{◌≡◌, ℕ, suc, Bool, true, false, cond, T, ltb, ◌⊎◌, List, [], ◌∷◌, ◌++◌, sym, refl, subst, inl, inr}
use mathlib.Core.Option.{Option, none, some}
use Rattle.lattice.specs.Levels.{Levels}
use Rattle.codec.specs.Frames.{Frame, Read}
use Rattle.script.specs.Format.{Phase, Seen, Test, tests, first_fault, fault, ◌asks◌, phase_after, seen_after, is_ended, Verdict, judged, read_lines}
use Rattle.script.specs.Format.Phase.{start, outside, inside, ended}
use Rattle.script.specs.Format.Verdict.{refused, accepted}

abbrev pub Passing : List Test → Type 0
Passing [] = Unit {0}
Passing (t ∷ ts) = T t.passes × Passing ts

pub passing : (ts : List Test) → first_fault ts ≡ none → Passing ts
passing [] e = tt
passing (t ∷ ts) e = go t.passes (passing ts) e
  where
    go : (b : Bool) → (first_fault ts ≡ none → Passing ts) → cond b (first_fault ts) (some t.number) ≡ none → T b × Passing ts
    go true f h = (tt, f h)
    go false f h = cc

pub passing_parts : (ts us : List Test) → Passing (ts ++ us) → Passing ts × Passing us
passing_parts [] us h = (tt, h)
passing_parts (t ∷ ts) us h = let r = passing_parts ts us h.1 in ((h.0, r.0), r.1)

pub judged_accepted : (line : ℕ) (f : Frame) (o : Option ℕ) (v : Verdict) (fs : List Frame) → judged line f o v ≡ accepted fs
    → (gs : List Frame) × (o ≡ none) × (v ≡ accepted gs) × (fs ≡ f ∷ gs)
judged_accepted line f (some n) v fs e = cc
judged_accepted line f none (refused n l) fs e = cc
judged_accepted line f none (accepted gs) fs e = (gs, refl, refl, cc)

module _ (kind : ℕ) (k : Levels) where
  abbrev pub Accepts : Phase → Seen → List Frame → Type 0
  Accepts p n [] = T (is_ended p)
  Accepts p n (f ∷ fs) = (w : Bool) × Passing (tests kind k p n f w) × T (ltb n.frames 512) × Accepts (phase_after p f) (seen_after n f) fs

  pub accepts : (ls : List (ℕ ⊎ Read)) (p : Phase) (n : Seen) (fs : List Frame) → read_lines kind k p n ls ≡ accepted fs → Accepts p n fs
  unfolding read_lines fault
  accepts [] start n fs e = cc
  accepts [] outside n fs e = cc
  accepts [] (inside bs) n fs e = cc
  accepts [] ended n fs e = let h : [] ≡ fs = cc in subst (Accepts ended n) h tt
  accepts (inl m ∷ ls) p n fs e = cc
  accepts (inr r ∷ ls) p n fs e =
      let j = judged_accepted (suc n.frames) r.frame (fault kind k p n r) (read_lines kind k (phase_after p r.frame) (seen_after n r.frame) ls) fs e in
      let t = passing_parts (tests kind k p n r.frame r.whole) ((8 asks ltb n.frames 512) ∷ []) (passing _ j.1) in
      subst (Accepts p n) (sym j.3) (r.whole, t.0, t.1.0, accepts ls (phase_after p r.frame) (seen_after n r.frame) j.0 j.2)
