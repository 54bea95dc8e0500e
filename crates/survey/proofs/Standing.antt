-- What stands at each place of a valid script.
use Rattle.std.proofs.Common.{◌≡◌, ℕ, zero, suc, T, List, [], ◌∷◌, length, drop, refl}
use Rattle.std.specs.List.{AllByRecursion}
use Rattle.lattice.specs.Levels.{Levels}
use Rattle.codec.specs.Frames.{Head, Frame}
use Rattle.codec.specs.Frames.Frame.{header, track, channel, thread, thread_end, if, else, end_if, while, end_while, with, end_with, last}
use Rattle.script.specs.Code.{Code, Script}
use Rattle.script.specs.Code.Code.{done, skip, assign, put, branch, loop, lock}
use Rattle.script.specs.Trees.{Sound, Valid, ValidScript, body_frames, flatten, head_of, script_frames, store_frames, thread_frames}
use Rattle.survey.specs.Filling.{outer, outer_first}

-- Of the first of these frames: its expression is sound, its block is whole, and what follows it stands outside if it does.
abbrev pub Stands : Head → List Frame → Type 0
Stands h [] = Unit {0}
Stands h (header d ∷ gs) = T (outer_first gs)
Stands h (track i l z ∷ gs) = T (outer_first gs)
Stands h (channel i l z ∷ gs) = T (outer_first gs)
Stands h (thread i ∷ gs) = (c : Code) × (r : List Frame) × (gs ≡ flatten c (thread_end ∷ r)) × T (outer_first r)
Stands h (thread_end ∷ gs) = Unit {0}
Stands h (Frame.skip ∷ gs) = Unit {0}
Stands h (Frame.assign x e ∷ gs) = Sound h e
Stands h (Frame.put x e ∷ gs) = Sound h e
Stands h (if e ∷ gs) = (a : Code) × (b : Code) × (r : List Frame) × (gs ≡ flatten a (else ∷ flatten b (end_if ∷ r))) × Sound h e
Stands h (else ∷ gs) = Unit {0}
Stands h (end_if ∷ gs) = Unit {0}
Stands h (while e ∷ gs) = (b : Code) × (r : List Frame) × (gs ≡ flatten b (end_while ∷ r)) × Sound h e
Stands h (end_while ∷ gs) = Unit {0}
Stands h (with m e ∷ gs) = (b : Code) × (r : List Frame) × (gs ≡ flatten b (end_with ∷ r)) × Sound h e
Stands h (end_with ∷ gs) = Unit {0}
Stands h (last m ∷ gs) = T (outer_first gs)

abbrev Everywhere : Head → List Frame → Type 0
Everywhere h fs = (p : ℕ) → Stands h (drop p fs)

none : (h : Head) → Everywhere h []
none h zero = tt
none h (suc p) = tt

more : (h : Head) (f : Frame) (gs : List Frame) → Stands h (f ∷ gs) → Everywhere h gs → Everywhere h (f ∷ gs)
more h f gs s e zero = s
more h f gs s e (suc p) = e p

coded : (h : Head) (c : Code) (d : ℕ) (r : List Frame) → Valid h d c → Everywhere h r → Everywhere h (flatten c r)
coded h done d r v e = e
coded h (skip c) d r v e = more h Frame.skip (flatten c r) tt (coded h c d r v e)
coded h (assign x o c) d r v e = more h (Frame.assign x o) (flatten c r) v.1 (coded h c d r v.2 e)
coded h (put x o c) d r v e = more h (Frame.put x o) (flatten c r) v.1 (coded h c d r v.2 e)
coded h (branch o p q c) d r v e =
    let after = end_if ∷ flatten c r in
    let second = more h else (flatten q after) tt (coded h q (suc d) after v.3 (more h end_if (flatten c r) tt (coded h c d r v.4 e))) in
    more h (if o) (flatten p (else ∷ flatten q after)) (p, q, flatten c r, refl, v.1) (coded h p (suc d) (else ∷ flatten q after) v.2 second)
coded h (loop o b c) d r v e =
    let after = end_while ∷ flatten c r in
    more h (while o) (flatten b after) (b, flatten c r, refl, v.1) (coded h b (suc d) after v.2 (more h end_while (flatten c r) tt (coded h c d r v.3 e)))
coded h (lock m o b c) d r v e =
    let after = end_with ∷ flatten c r in
    more h (with m o) (flatten b after) (b, flatten c r, refl, v.2) (coded h b (suc d) after v.3 (more h end_with (flatten c r) tt (coded h c d r v.4 e)))

threads_outer : (i : ℕ) (cs : List Code) (r : List Frame) → T (outer_first r) → T (outer_first (thread_frames i cs r))
threads_outer i [] r o = o
threads_outer i (c ∷ cs) r o = tt

threaded : (h : Head) (i : ℕ) (cs : List Code) (r : List Frame) → AllByRecursion (Valid h 0) cs → T (outer_first r) → Everywhere h r → Everywhere h (thread_frames i cs r)
threaded h i [] r v o e = e
threaded h i (c ∷ cs) r v o e =
    let rest = thread_frames (suc i) cs r in
    more h (thread i) (flatten c (thread_end ∷ rest)) (c, rest, refl, threads_outer (suc i) cs r o)
    (coded h c 0 (thread_end ∷ rest) v.0 (more h thread_end rest tt (threaded h (suc i) cs r v.1 o e)))

module _ (h : Head) (f : ℕ → ℕ → ℕ → Frame) (is-outer : (i l z : ℕ) → T (outer (f i l z))) (stands : (i l z : ℕ) (gs : List Frame) → T (outer_first gs) → Stands h (f i l z ∷ gs)) where
  stores_outer : (i : ℕ) (ls zs : List ℕ) (r : List Frame) → T (outer_first r) → T (outer_first (store_frames f i ls zs r))
  stores_outer i [] zs r o = o
  stores_outer i (l ∷ ls) [] r o = o
  stores_outer i (l ∷ ls) (z ∷ zs) r o = is-outer i l z

  stored : (i : ℕ) (ls zs : List ℕ) (r : List Frame) → T (outer_first r) → Everywhere h r → Everywhere h (store_frames f i ls zs r)
  stored i [] zs r o e = e
  stored i (l ∷ ls) [] r o e = e
  stored i (l ∷ ls) (z ∷ zs) r o e = more h (f i l z) (store_frames f (suc i) ls zs r) (stands i l z _ (stores_outer (suc i) ls zs r o)) (stored (suc i) ls zs r o e)

pub everywhere : (kind : ℕ) (k : Levels) (sc : Script) → ValidScript kind k sc → (p : ℕ) → Stands (head_of sc) (drop p (script_frames sc))
everywhere kind k sc v =
    let h = head_of sc in
    let end = last (length (body_frames sc (last 0 ∷ []))) ∷ [] in
    let threads = thread_frames 0 sc.codes end in
    let channels = store_frames channel 0 sc.channel_levels sc.channel_sizes threads in
    let tracks = store_frames track 0 sc.track_levels sc.track_sizes channels in
    let a = threads_outer 0 sc.codes end tt in
    let b = stores_outer h channel (λ i l z. tt) (λ i l z gs o. o) 0 sc.channel_levels sc.channel_sizes threads a in
    more h (header h) tracks (stores_outer h track (λ i l z. tt) (λ i l z gs o. o) 0 sc.track_levels sc.track_sizes channels b)
    (stored h track (λ i l z. tt) (λ i l z gs o. o) 0 sc.track_levels sc.track_sizes channels b
    (stored h channel (λ i l z. tt) (λ i l z gs o. o) 0 sc.channel_levels sc.channel_sizes threads a
    (threaded h 0 sc.codes end v.codes tt (more h _ [] tt (none h)))))
