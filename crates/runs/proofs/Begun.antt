-- Where the threads of a script begin.
use Rattle.std.proofs.Common.{◌≡◌, ℕ, zero, suc, ◌+◌, ◌<◌, ◌≤◌, Bool, false, List, [], ◌∷◌, ◌++◌, length, get_or, drop, set, None, Some, Option, MatchOption, sym, refl, ap, ◌∙◌, subst, ⊎_elim, arith, drop-cons, get_or-set_other, get_or-set_same}
use mathlib.Core.Option.{none, some}
use Rattle.std.proofs.lemmas.Bool.{cases_lt}
use Rattle.std.proofs.lemmas.List.{get_or_append_left}
use Rattle.lattice.specs.Levels.{Levels}
use Rattle.codec.specs.Frames.{Frame, Read}
use Rattle.codec.specs.Frames.Frame.{track, channel, thread, thread_end, last}
use Rattle.codec.specs.Shapes.{read_of, whole}
use Rattle.codec.specs.Slots.{perhaps}
use Rattle.codec.specs.declared.frames.Frame.{Frame as CodeFrame}
use Rattle.script.specs.Code.{Code, Script}
use Rattle.script.specs.Code.Code.{done}
use Rattle.script.specs.Slabs.{frame_number}
use Rattle.script.specs.Trees.{flatten, thread_frames, store_frames, body_frames, script_frames, ValidScript}
use Rattle.script.proofs.Holding.{held_few}
use Rattle.survey.specs.declared.Stretch.{Stretch}
use Rattle.survey.specs.Stretches.{Survey}
use Rattle.model.specs.Fitting.{frame_at, is_thread_end}
use Rattle.model.proofs.Places.Skipping.{drop_next, frame_here}
use Rattle.runs.specs.declared.Place.{Place}
use Rattle.runs.specs.Flat.{nil_place}
use Rattle.runs.specs.Declaring.{InSlab}
use Rattle.runs.specs.Starting.{BeginsAt, ComesTo, NextThread, PlacesAt}

-- The frame that is found at a place is the frame there.
found_there : (fs : List Frame) (at : ℕ) (rd : Read) → some rd ≡ frame_number at fs → rd.frame ≡ frame_at fs at
found_there [] at rd e = let z : ◌≡◌ {A = ℕ} 0 1 = cc in absurd (omega arith)
found_there (f ∷ fs) zero rd e = let same : rd ≡ whole f = cc in ap (λ (x : Read). x.frame) same
found_there (f ∷ fs) (suc at) rd e = found_there fs at rd e

none_there : (fs : List Frame) (at : ℕ) → none ≡ frame_number at fs → frame_at fs at ≡ last 0
none_there [] at e = refl
none_there (f ∷ fs) zero e = let z : ◌≡◌ {A = ℕ} 0 1 = cc in absurd (omega arith)
none_there (f ∷ fs) (suc at) e = none_there fs at e

-- So is what is asked of it.
pub ends_there : (fs : List Frame) (at : ℕ) (b : Bool) (o : Option CodeFrame) → perhaps read_of o ≡ frame_number at fs → MatchOption o (b ≡ false) (λ x. b ≡ is_thread_end (read_of x).frame) → b ≡ is_thread_end (frame_at fs at)
ends_there fs at b None e m = m ∙ sym (ap is_thread_end (none_there fs at e))
ends_there fs at b (Some x) e m = m ∙ ap is_thread_end (found_there fs at (read_of x) e)

pub next_thread : (slab : List ℕ) (at : ℕ) (s : Stretch) → Survey slab at s → NextThread slab at (s.end + 2)
next_thread slab at s survey kind k fs holds c i gs e =
    let end = (survey kind k fs holds c (thread_end ∷ thread i ∷ gs) e tt).1 in
    let q : s.end + 2 ≡ suc (suc s.end) = omega arith in
    ap (λ (n : ℕ). drop n fs) q ∙ drop_next (suc s.end) fs (drop_next s.end fs end)

-- No thread follows past the last frame.
pub no_next_thread : (slab : List ℕ) (at : ℕ) (s : Stretch) → Survey slab at s → 512 ≤ s.end → NextThread slab at s.end
no_next_thread slab at s survey past kind k fs holds c i gs e =
    let end = (survey kind k fs holds c (thread_end ∷ thread i ∷ gs) e tt).1 in
    let here = (frame_here s.end fs thread_end end).1 in
    let few = held_few kind k slab fs holds in
    absurd (omega arith)

-- The thread behind another.
pub begins_next : (slab : List ℕ) (kind : ℕ) (k : Levels) (sc : Script) (i at r : ℕ) → InSlab kind k slab sc → NextThread slab at r → BeginsAt sc i at → BeginsAt sc (suc i) r
begins_next slab kind k sc i at r held next begins lt =
    let codes : drop (suc i) sc.codes ≡ get_or sc.codes (suc i) done ∷ drop (suc (suc i)) sc.codes = drop-cons sc.codes (suc i) done lt in
    let behind = ap (λ (cs : List Code). thread_frames (suc i) cs (last (length (body_frames sc (last 0 ∷ []))) ∷ [])) codes in
    next kind k (script_frames sc) held.holds (get_or sc.codes i done) (suc i) _ (begins (omega arith) ∙ ap (λ (gs : List Frame). flatten (get_or sc.codes i done) (thread_end ∷ gs)) behind)

-- Where the tracks or channels of a script end.
drop_stored : (f : ℕ → ℕ → ℕ → Frame) (i : ℕ) (ls zs : List ℕ) (r : List Frame) (n j : ℕ) → length zs ≡ length ls → n ≡ length ls + j → drop n (store_frames f i ls zs r) ≡ drop j r
drop_stored f i [] zs r n j e q = ap (λ (x : ℕ). drop x r) (omega arith)
drop_stored f i (l ∷ ls) [] r n j e q = absurd (omega arith)
drop_stored f i (l ∷ ls) (z ∷ zs) r zero j e q = absurd (omega arith)
drop_stored f i (l ∷ ls) (z ∷ zs) r (suc n) j e q = drop_stored f (suc i) ls zs r n j (omega arith) (omega arith)

pub begins_first : (kind : ℕ) (k : Levels) (sc : Script) (first : ℕ) → ValidScript kind k sc → first ≡ 2 + length sc.track_levels + length sc.channel_levels → BeginsAt sc 0 first
begins_first kind k sc first v e lt =
    let nt = length sc.track_levels in
    let nc = length sc.channel_levels in
    let q : first ≡ suc (nt + (nc + 1)) = omega arith in
    let codes : sc.codes ≡ get_or sc.codes 0 done ∷ drop 1 sc.codes = drop-cons sc.codes 0 done lt in
    ap (λ (n : ℕ). drop n (script_frames sc)) q
    ∙ drop_stored track 0 sc.track_levels sc.track_sizes _ (nt + (nc + 1)) (nc + 1) v.track_sizes refl
    ∙ drop_stored channel 0 sc.channel_levels sc.channel_sizes _ (nc + 1) 1 v.channel_sizes refl
    ∙ ap (λ (cs : List Code). drop 1 (thread_frames 0 cs (last (length (body_frames sc (last 0 ∷ []))) ∷ []))) codes

-- One thread more.
pub places_more : (slab : List ℕ) (first n at : ℕ) (ps : List Place) (p : Place) → n < length ps → PlacesAt slab first n ps
    → ((kind : ℕ) (k : Levels) (sc : Script) → InSlab kind k slab sc → BeginsAt sc 0 first → BeginsAt sc n at) → ComesTo slab at p → PlacesAt slab first (n + 1) (set ps n p)
places_more slab first n at ps p within before here comes kind k sc held begins j lt =
    let P : Place → Type 0 = λ q. BeginsAt sc j q.at × ComesTo slab q.at q in
    ⊎_elim
    (λ (less : j < n). subst P (sym (get_or-set_other ps n j p nil_place (λ (q : j ≡ n). omega arith))) (before kind k sc held begins j less))
    (λ (ge : n ≤ j).
    let e : n ≡ j = omega arith in
    let Q : ℕ → Type 0 = λ x. BeginsAt sc x (get_or (set ps n p) x nil_place).at × ComesTo slab (get_or (set ps n p) x nil_place).at (get_or (set ps n p) x nil_place) in
    let R : Place → Type 0 = λ q. BeginsAt sc n q.at × ComesTo slab q.at q in
    let A : ℕ → Type 0 = λ x. BeginsAt sc n x × ComesTo slab x p in
    subst Q e (subst R (sym (get_or-set_same ps n p nil_place within)) (subst A (sym comes.place) (here kind k sc held begins, comes))))
    (cases_lt j n)

-- Others may follow them in the list.
pub places_front : (slab : List ℕ) (first n : ℕ) (ps qs : List Place) → n ≤ length ps → PlacesAt slab first n ps → PlacesAt slab first n (ps ++ qs)
places_front slab first n ps qs le at kind k sc held begins i lt =
    let P : Place → Type 0 = λ q. BeginsAt sc i q.at × ComesTo slab q.at q in
    subst P (sym (get_or_append_left ps qs nil_place i (omega arith))) (at kind k sc held begins i lt)
