-- A script's frames have one tree.
use Rattle.std.proofs.Common.{◌≡◌, ℕ, suc, List, [], ◌∷◌, length, sym, refl, ap, ◌∙◌, arith}
use Rattle.script.specs.Code.{Code, Script}
use Rattle.script.specs.Code.Code.{done, skip, assign, put, branch, loop, lock}
use Rattle.codec.specs.Frames.{Frame}
use Rattle.codec.specs.Frames.Frame.{header, track, channel, thread, thread_end, if, else, end_if, while, end_while, with, end_with, last}
use Rattle.script.specs.Trees.{flatten, thread_frames, store_frames, head_of, script_frames}
use Rattle.script.specs.Grown.{Grown, no_code, with_code, grow, grown, script_of}

-- One stretch behind another.
abbrev pub then : Code → Code → Code
then done d = d
then (skip c) d = skip (then c d)
then (assign x e c) d = assign x e (then c d)
then (put h e c) d = put h e (then c d)
then (branch e p q c) d = branch e p q (then c d)
then (loop e b c) d = loop e b (then c d)
then (lock m e b c) d = lock m e b (then c d)

pub then_done : (c : Code) → then c done ≡ c
then_done done = refl
then_done (skip c) = ap skip (then_done c)
then_done (assign x e c) = ap (assign x e) (then_done c)
then_done (put h e c) = ap (put h e) (then_done c)
then_done (branch e p q c) = ap (branch e p q) (then_done c)
then_done (loop e b c) = ap (loop e b) (then_done c)
then_done (lock m e b c) = ap (lock m e b) (then_done c)

abbrev ahead : Code → Grown → Grown
ahead c g = with_code g (then c g.code) g.endings

-- Behind a stretch stands a closing: its code is done.
ahead_closing : (c : Code) (g : Grown) → g.code ≡ done → ahead c g ≡ with_code g c g.endings
ahead_closing c g e = ap (λ (d : Code). with_code g d g.endings) (ap (then c) e ∙ then_done c)

pub grown_flatten : (c : Code) (r : List Frame) → grown (flatten c r) ≡ ahead c (grown r)
grown_flatten done r = refl
grown_flatten (skip c) r = ap (grow Frame.skip) (grown_flatten c r)
grown_flatten (assign x e c) r = ap (grow (Frame.assign x e)) (grown_flatten c r)
grown_flatten (put h e c) r = ap (grow (Frame.put h e)) (grown_flatten c r)
grown_flatten (branch e p q c) r =
    ap (grow (if e)) (
    grown_flatten p (else ∷ flatten q (end_if ∷ flatten c r))
    ∙ ahead_closing p (grown (else ∷ flatten q (end_if ∷ flatten c r))) refl
    ∙ ap (λ (g : Grown). with_code (grow else g) p (grow else g).endings) (
    grown_flatten q (end_if ∷ flatten c r)
    ∙ ahead_closing q (grown (end_if ∷ flatten c r)) refl
    ∙ ap (λ (g : Grown). with_code (grow end_if g) q (grow end_if g).endings) (grown_flatten c r)))
grown_flatten (loop e b c) r =
    ap (grow (while e)) (
    grown_flatten b (end_while ∷ flatten c r)
    ∙ ahead_closing b (grown (end_while ∷ flatten c r)) refl
    ∙ ap (λ (g : Grown). with_code (grow end_while g) b (grow end_while g).endings) (grown_flatten c r))
grown_flatten (lock m e b c) r =
    ap (grow (with m e)) (
    grown_flatten b (end_with ∷ flatten c r)
    ∙ ahead_closing b (grown (end_with ∷ flatten c r)) refl
    ∙ ap (λ (g : Grown). with_code (grow end_with g) b (grow end_with g).endings) (grown_flatten c r))

abbrev holding : List ℕ → List ℕ → List ℕ → List ℕ → List Code → Grown
holding tl tz cl cz cs = no_code (record { kind = 0; variables = 0; locks = 0; track_levels = tl; track_sizes = tz; channel_levels = cl; channel_sizes = cz; codes = cs })

grown_threads : (i : ℕ) (cs : List Code) (m : ℕ) → grown (thread_frames i cs (last m ∷ [])) ≡ holding [] [] [] [] cs
grown_threads i [] m = refl
grown_threads i (c ∷ cs) m =
    ap (grow (thread i)) (
    grown_flatten c (thread_end ∷ thread_frames (suc i) cs (last m ∷ []))
    ∙ ahead_closing c (grown (thread_end ∷ thread_frames (suc i) cs (last m ∷ []))) refl
    ∙ ap (λ (g : Grown). with_code (grow thread_end g) c []) (grown_threads (suc i) cs m))

grown_channels : (i : ℕ) (ls zs : List ℕ) (cs : List Code) (r : List Frame) → length zs ≡ length ls → grown r ≡ holding [] [] [] [] cs → grown (store_frames channel i ls zs r) ≡ holding [] [] ls zs cs
grown_channels i [] [] cs r e h = h
grown_channels i [] (z ∷ zs) cs r e h = absurd (omega arith)
grown_channels i (l ∷ ls) [] cs r e h = absurd (omega arith)
grown_channels i (l ∷ ls) (z ∷ zs) cs r e h = ap (grow (channel i l z)) (grown_channels (suc i) ls zs cs r (omega arith) h)

grown_tracks : (i : ℕ) (ls zs cl cz : List ℕ) (cs : List Code) (r : List Frame) → length zs ≡ length ls → grown r ≡ holding [] [] cl cz cs → grown (store_frames track i ls zs r) ≡ holding ls zs cl cz cs
grown_tracks i [] [] cl cz cs r e h = h
grown_tracks i [] (z ∷ zs) cl cz cs r e h = absurd (omega arith)
grown_tracks i (l ∷ ls) [] cl cz cs r e h = absurd (omega arith)
grown_tracks i (l ∷ ls) (z ∷ zs) cl cz cs r e h = ap (grow (track i l z)) (grown_tracks (suc i) ls zs cl cz cs r (omega arith) h)

-- Each level has its size.
pub record Paired (sc : Script) : Type 0 where
  pub tracks : length sc.track_sizes ≡ length sc.track_levels
  pub channels : length sc.channel_sizes ≡ length sc.channel_levels

pub script_of_frames : (sc : Script) → Paired sc → script_of (script_frames sc) ≡ sc
script_of_frames sc h =
    ap (λ (g : Grown). (grow (header (head_of sc)) g).script)
    (grown_tracks 0 sc.track_levels sc.track_sizes sc.channel_levels sc.channel_sizes sc.codes _ h.tracks
    (grown_channels 0 sc.channel_levels sc.channel_sizes sc.codes _ h.channels (grown_threads 0 sc.codes _)))

pub one_tree : (sc sc' : Script) → Paired sc → Paired sc' → script_frames sc ≡ script_frames sc' → sc ≡ sc'
one_tree sc sc' h h' e = sym (script_of_frames sc h) ∙ ap script_of e ∙ script_of_frames sc' h'
