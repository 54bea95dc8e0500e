-- A script's frames have one tree.
use Rattle.std.proofs.Common.{◌≡◌, ℕ, ◌+◌, Bool, true, false, T, List, [], ◌∷◌, drop, sym, refl, ap, ◌∙◌, rules}
use Rattle.script.specs.Code.{Code}
use Rattle.script.specs.Code.Code.{done}
use Rattle.model.specs.Threads.{Open}
use Rattle.model.specs.Threads.Open.{in_branch, in_loop, in_lock}
use Rattle.codec.specs.Frames.{Frame}
use Rattle.codec.specs.Frames.Frame.{header, track, channel, thread, thread_end, if, else, end_if, while, end_while, with, end_with, last}
use Rattle.script.specs.Trees.{flatten}
use Rattle.model.specs.Places.{flatten_inside, Spot, Stands}
use Rattle.model.proofs.Places.Skipping.{size, drop_flatten}
use Rattle.script.specs.Grown.{Grown, grown}
use Rattle.script.proofs.Unique.{then, then_done, grown_flatten}

-- A stretch before a closing frame

abbrev pub is_closing : Frame → Bool
is_closing (header h) = false
is_closing (track i l z) = false
is_closing (channel i l z) = false
is_closing (thread i) = false
is_closing thread_end = true
is_closing Frame.skip = false
is_closing (Frame.assign x e) = false
is_closing (Frame.put h e) = false
is_closing (if e) = false
is_closing else = true
is_closing end_if = true
is_closing (while e) = false
is_closing end_while = true
is_closing (with m e) = false
is_closing end_with = true
is_closing (last m) = false

abbrev pub Closed : List Frame → Type 0
Closed [] = ⊥
Closed (f ∷ fs) = T (is_closing f)

closed_code : (r : List Frame) → Closed r → (grown r).code ≡ done
closed_code r h = search rules

-- The code is what grows from its frames.
code_of_frames : (c : Code) (r : List Frame) → Closed r → (grown (flatten c r)).code ≡ c
code_of_frames c r h = ap (λ (g : Grown). g.code) (grown_flatten c r) ∙ ap (then c) (closed_code r h) ∙ then_done c

pub flatten_injective : (c c' : Code) (r r' : List Frame) → Closed r → Closed r' → flatten c r ≡ flatten c' r' → (c ≡ c') × (r ≡ r')
flatten_injective c c' r r' h h' e =
    let same : c ≡ c' = sym (code_of_frames c r h) ∙ ap (λ (fs : List Frame). (grown fs).code) e ∙ code_of_frames c' r' h' in
    (same, sym (drop_flatten c 0 (flatten c r) r refl) ∙ (λ i. drop (0 + size (same i)) (e i)) ∙ drop_flatten c' 0 (flatten c' r') r' refl)

-- Behind a thread's code stands a closing frame.
pub inside_closed : (os : List Open) (r : List Frame) → Closed (flatten_inside os r)
inside_closed [] r = tt
inside_closed (in_branch l true p q n ∷ os) r = tt
inside_closed (in_branch l false p q n ∷ os) r = tt
inside_closed (in_loop e b n ∷ os) r = tt
inside_closed (in_lock m n ∷ os) r = tt

-- A place has one code.
pub one_code : (fs r r' : List Frame) (s s' : Spot) (c c' : Code) (os os' : List Open) → s.place ≡ s'.place → Stands fs r s c os → Stands fs r' s' c' os' → (c ≡ c') × (flatten_inside os r ≡ flatten_inside os' r')
one_code fs r r' s s' c c' os os' e h h' =
    flatten_injective c c' _ _ (inside_closed os r) (inside_closed os' r') (sym h.here ∙ ap (λ (p : ℕ). drop p fs) e ∙ h'.here)
