-- Where the threads of a script begin.
use Rattle.std.proofs.Common.{◌≡◌, ℕ, zero, suc, ◌+◌, ◌<◌, List, [], ◌∷◌, length, get_or, drop, sym, refl, ap, ◌∙◌, subst, arith}
use lib.ListN.{get_or-map}
use Rattle.script.specs.Code.{Code, Script}
use Rattle.script.specs.Code.Code.{done, skip, assign, put, branch, loop, lock}
use Rattle.model.specs.Threads.{at_code}
use Rattle.model.specs.Calls.{begin}
use Rattle.codec.specs.Frames.{Frame}
use Rattle.codec.specs.Frames.Frame.{track, channel, thread_end, else, end_if, end_while, end_with}
use Rattle.script.specs.Trees.{flatten, thread_frames, store_frames, script_frames}
use Rattle.model.specs.Places.{Stands, StandsAt, starts, start_spot}
use Rattle.model.proofs.Places.Skipping.{size, drop_next, drop_flatten}

-- No thread begins inside a stretch.
pub starts_flatten : (c : Code) (p q : ℕ) (r : List Frame) → p + size c ≡ q → starts p (flatten c r) ≡ starts q r
starts_flatten done p q r e = ap (λ (x : ℕ). starts x r) (omega arith)
starts_flatten (skip c) p q r e = starts_flatten c (suc p) q r (omega arith)
starts_flatten (assign x v c) p q r e = starts_flatten c (suc p) q r (omega arith)
starts_flatten (put h v c) p q r e = starts_flatten c (suc p) q r (omega arith)
starts_flatten (branch v c d n) p q r e =
    starts_flatten c (suc p) (suc p + size c) (else ∷ flatten d (end_if ∷ flatten n r)) refl
    ∙ starts_flatten d (suc (suc p + size c)) (suc (suc p + size c) + size d) (end_if ∷ flatten n r) refl
    ∙ starts_flatten n (suc (suc (suc p + size c) + size d)) q r (omega arith)
starts_flatten (loop v c n) p q r e =
    starts_flatten c (suc p) (suc p + size c) (end_while ∷ flatten n r) refl ∙ starts_flatten n (suc (suc p + size c)) q r (omega arith)
starts_flatten (lock m v c n) p q r e =
    starts_flatten c (suc p) (suc p + size c) (end_with ∷ flatten n r) refl ∙ starts_flatten n (suc (suc p + size c)) q r (omega arith)

module _ (fs : List Frame) where
  -- Frames gs at place p, with none that begins a thread before r.
  record Reaches (p : ℕ) (gs r : List Frame) : Type 0 where
    to : ℕ
    same : starts p gs ≡ starts to r
    there : drop to fs ≡ r

  past_tracks : (ls zs : List ℕ) (i p : ℕ) (r : List Frame) → drop p fs ≡ store_frames track i ls zs r → Reaches p (store_frames track i ls zs r) r
  past_tracks [] zs i p r e = record { to = p; same = refl; there = e }
  past_tracks (l ∷ ls) [] i p r e = record { to = p; same = refl; there = e }
  past_tracks (l ∷ ls) (z ∷ zs) i p r e = let t = past_tracks ls zs (suc i) (suc p) r (drop_next p fs e) in record { to = t.to; same = t.same; there = t.there }

  past_channels : (ls zs : List ℕ) (i p : ℕ) (r : List Frame) → drop p fs ≡ store_frames channel i ls zs r → Reaches p (store_frames channel i ls zs r) r
  past_channels [] zs i p r e = record { to = p; same = refl; there = e }
  past_channels (l ∷ ls) [] i p r e = record { to = p; same = refl; there = e }
  past_channels (l ∷ ls) (z ∷ zs) i p r e = let t = past_channels ls zs (suc i) (suc p) r (drop_next p fs e) in record { to = t.to; same = t.same; there = t.there }

  thread_starts : (cs : List Code) (i p : ℕ) (r : List Frame) (j : ℕ) → j < length cs → drop p fs ≡ thread_frames i cs r
      → (r' : List Frame) × (drop (get_or (starts p (thread_frames i cs r)) j 0) fs ≡ flatten (get_or cs j done) (thread_end ∷ r'))
  thread_starts [] i p r j h e = absurd (omega arith)
  thread_starts (c ∷ cs) i p r zero h e = (thread_frames (suc i) cs r, drop_next p fs e)
  thread_starts (c ∷ cs) i p r (suc j) h e =
      let rest = thread_frames (suc i) cs r in
      let to = suc p + size c in
      let here : drop to fs ≡ thread_end ∷ rest = drop_flatten c (suc p) fs (thread_end ∷ rest) (drop_next p fs e) in
      let t = thread_starts cs (suc i) (suc to) r j (omega arith) (drop_next to fs here) in
      (t.0, ap (λ (ps : List ℕ). drop (get_or ps j 0) fs) (starts_flatten c (suc p) to (thread_end ∷ rest) refl) ∙ t.1)

-- Thread i stands at its start, at its code.
pub thread_begins : (sc : Script) (i : ℕ) → i < length sc.codes → (r : List Frame) × Stands (script_frames sc) r (start_spot (script_frames sc) i) (get_or sc.codes i done) []
thread_begins sc i h =
    let fs = script_frames sc in
    let a = past_tracks fs sc.track_levels sc.track_sizes 0 1 _ refl in
    let b = past_channels fs sc.channel_levels sc.channel_sizes 0 a.to _ a.there in
    let t = thread_starts fs sc.codes 0 b.to _ i h b.there in
    (t.0, record { here = ap (λ (ps : List ℕ). drop (get_or ps i 0) fs) (a.same ∙ b.same) ∙ t.1; opened = tt })

-- At the beginning of a run every thread stands at its start.
pub run_begins : (sc : Script) (i : ℕ) → i < length sc.codes → (r : List Frame) × StandsAt (script_frames sc) r (start_spot (script_frames sc) i) (get_or (begin sc).threads i (at_code done []))
run_begins sc i h =
    let t = thread_begins sc i h in
    (t.0, subst (StandsAt (script_frames sc) t.0 (start_spot (script_frames sc) i)) (sym (get_or-map (λ c. at_code c []) sc.codes i done)) (record { stands = t.1; idle = tt }))
