-- Each thread's own frames in a script's, and what a walk has met where they begin.
use Rattle.std.proofs.Common.{◌≡◌, ℕ, zero, suc, ◌+◌, ◌<◌, List, [], ◌∷◌, length, get_or, drop, refl, ap, ◌∙◌, subst, arith}
use Rattle.script.specs.Code.{Code, Script}
use Rattle.script.specs.Code.Code.{done}
use Rattle.codec.specs.Frames.{Frame}
use Rattle.codec.specs.Frames.Frame.{track, channel, thread, thread_end}
use Rattle.script.specs.Trees.{thread_frames, store_frames, script_frames}
use Rattle.model.specs.Places.{starts, start_spot}
use Rattle.model.specs.Fitting.{Walk, no_walk, walk_in, stride, around, behind_thread}
use Rattle.model.proofs.Places.Skipping.{size, drop_next, drop_flatten}
use Rattle.model.proofs.Places.Beginning.{starts_flatten}
use Rattle.model.proofs.Places.Walking.{over, across, Own}

-- Between threads, so many being done.
abbrev between : ℕ → Walk
between i = record { begun = i; ended = i; openers = [] }

module _ (fs : List Frame) where
  -- Frames gs at place p, with none that begins or ends a thread before r.
  record Comes (p : ℕ) (gs r : List Frame) : Type 0 where
    to : ℕ
    same : starts p gs ≡ starts to r
    there : drop to fs ≡ r
    met : around fs to ≡ around fs p

  over_tracks : (ls zs : List ℕ) (i p : ℕ) (r : List Frame) → drop p fs ≡ store_frames track i ls zs r → Comes p (store_frames track i ls zs r) r
  over_tracks [] zs i p r e = record { to = p; same = refl; there = e; met = refl }
  over_tracks (l ∷ ls) [] i p r e = record { to = p; same = refl; there = e; met = refl }
  over_tracks (l ∷ ls) (z ∷ zs) i p r e =
      let t = over_tracks ls zs (suc i) (suc p) r (drop_next p fs e) in
      record { to = t.to; same = t.same; there = t.there; met = t.met ∙ over fs p e }

  over_channels : (ls zs : List ℕ) (i p : ℕ) (r : List Frame) → drop p fs ≡ store_frames channel i ls zs r → Comes p (store_frames channel i ls zs r) r
  over_channels [] zs i p r e = record { to = p; same = refl; there = e; met = refl }
  over_channels (l ∷ ls) [] i p r e = record { to = p; same = refl; there = e; met = refl }
  over_channels (l ∷ ls) (z ∷ zs) i p r e =
      let t = over_channels ls zs (suc i) (suc p) r (drop_next p fs e) in
      record { to = t.to; same = t.same; there = t.there; met = t.met ∙ over fs p e }

  -- Thread n's own frames, which begin at a place.
  record Owns (r : List Frame) (n : ℕ) (c : Code) (first : ℕ) : Type 0 where
    own : Own fs r n c
    begins : first ≡ suc own.before

  owns_threads : (cs : List Code) (i p : ℕ) (r : List Frame) (j n : ℕ) → i + j ≡ n → j < length cs → drop p fs ≡ thread_frames i cs r → around fs p ≡ between i
      → Owns (thread_frames (suc n) (drop (suc j) cs) r) n (get_or cs j done) (get_or (starts p (thread_frames i cs r)) j 0)
  owns_threads [] i p r j n s h e w = absurd (omega arith)
  owns_threads (c ∷ cs) i p r zero n s h e w =
      subst (λ (x : ℕ). Owns (thread_frames (suc x) cs r) x c (suc p)) (let z : i ≡ n = omega arith in z)
      (record {
        own = record {
          before = p;
          here = drop_next p fs e;
          outside = ap (λ (v : Walk). v.begun) w;
          inside = over fs p e ∙ ap (stride p (thread i)) w;
        };
        begins = refl;
      })
  owns_threads (c ∷ cs) i p r (suc j) n s h e w =
      let rest = thread_frames (suc i) cs r in
      let to = suc p + size c in
      let first = drop_next p fs e in
      let here : drop to fs ≡ thread_end ∷ rest = drop_flatten c (suc p) fs (thread_end ∷ rest) first in
      let at_end : around fs to ≡ walk_in i [] = across fs c (suc p) (thread_end ∷ rest) first ∙ over fs p e ∙ ap (stride p (thread i)) w in
      let t = owns_threads cs (suc i) (suc to) r j n (omega arith) (omega arith) (drop_next to fs here) (over fs to here ∙ ap (stride to thread_end) at_end) in
      record { own = t.own; begins = ap (λ (ps : List ℕ). get_or ps j 0) (starts_flatten c (suc p) to (thread_end ∷ rest) refl) ∙ t.begins }

around_first : (fs : List Frame) → around fs 0 ≡ no_walk
unfolding around
around_first fs = refl

-- Thread i's own frames in a script's.
pub record ThreadOwn (sc : Script) (i : ℕ) : Type 0 where
  pub own : Own (script_frames sc) (behind_thread sc i) i (get_or sc.codes i done)
  pub begins : (start_spot (script_frames sc) i).place ≡ suc own.before

pub thread_own : (sc : Script) (i : ℕ) → i < length sc.codes → ThreadOwn sc i
thread_own sc i h =
    let fs = script_frames sc in
    let start : around fs 1 ≡ between 0 = over fs 0 refl ∙ around_first fs in
    let a = over_tracks fs sc.track_levels sc.track_sizes 0 1 _ refl in
    let b = over_channels fs sc.channel_levels sc.channel_sizes 0 a.to _ a.there in
    let t = owns_threads fs sc.codes 0 b.to _ i i (omega arith) h b.there (b.met ∙ a.met ∙ start) in
    record { own = t.own; begins = ap (λ (ps : List ℕ). get_or ps i 0) (a.same ∙ b.same) ∙ t.begins }
