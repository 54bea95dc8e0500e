-- Whether what memory says of a thread fits a script's frames: found out by one walk over the frames, and what it means in the model.
use Rattle.std.specs.Prelude.{◌≡◌, ℕ, zero, suc, ◌-◌, ◌<◌, ◌≤◌, Bool, true, false, cond, ◌&&◌, T, List, [], ◌∷◌, length, get_or, drop, ◌==◌, slice_index, slice_index_or, slice_set}
use Rattle.lattice.specs.Levels.{Levels, Lawful}
use Rattle.script.specs.Code.{Code, Script}
use Rattle.codec.specs.Frames.{Frame}
use Rattle.codec.specs.Frames.Frame.{header, track, channel, thread, thread_end, if, else, end_if, while, end_while, with, end_with, last}
use Rattle.script.specs.Trees.{thread_frames, body_frames, script_frames, head_of, ValidScript}
use Rattle.model.specs.Threads.{Open, Pace, Thread, ended, context}
use Rattle.model.specs.Threads.Open.{in_branch, in_loop, in_lock}
use Rattle.model.specs.Threads.Pace.{running, idling}
use Rattle.model.specs.Values.{blank}
use Rattle.model.specs.Machine.{State, step}
use Rattle.model.specs.Levels.{Levelled}
use Rattle.model.specs.Calls.{begin}
use Rattle.model.specs.Places.{Spot, later_openers, Stands, StandsAt, start_spot, ValidThread}

-- The walk

-- What a walk over frames has met: how many threads began, how many ended, and the places of the frames that opened the blocks that are still open, innermost first.
pub record Walk : Type 0 where
  pub begun : ℕ
  pub ended : ℕ
  pub openers : List ℕ

-- Before the first frame.
abbrev pub no_walk : Walk
no_walk = record { begun = 0; ended = 0; openers = [] }

-- Inside thread i, with these blocks open.
abbrev pub walk_in : ℕ → List ℕ → Walk
walk_in i ps = record { begun = suc i; ended = i; openers = ps }

-- The frame at place p opens a block.
abbrev pub opens_at : ℕ → Walk → Walk
opens_at p w = record { begun = w.begun; ended = w.ended; openers = p ∷ w.openers }

-- The innermost open block ends.
abbrev pub ends_block : Walk → Walk
ends_block w = record { begun = w.begun; ended = w.ended; openers = later_openers w.openers }

-- A walk goes over the frame at place p.
abbrev pub stride : ℕ → Frame → Walk → Walk
stride p (header h) w = w
stride p (track i l z) w = w
stride p (channel i l z) w = w
stride p (thread i) w = record { begun = suc w.begun; ended = w.ended; openers = w.openers }
stride p thread_end w = record { begun = w.begun; ended = suc w.ended; openers = w.openers }
stride p Frame.skip w = w
stride p (Frame.assign x e) w = w
stride p (Frame.put h e) w = w
stride p (if e) w = opens_at p w
stride p else w = w
stride p end_if w = ends_block w
stride p (while e) w = opens_at p w
stride p end_while w = ends_block w
stride p (with m e) w = opens_at p w
stride p end_with w = ends_block w
stride p (last m) w = w

-- The frame at a place; past the end one that does nothing.
abbrev pub frame_at : List Frame → ℕ → Frame
frame_at fs p = slice_index_or fs p (last 0)

-- What a walk from the first frame has met when it comes to a place.
unfoldable pub around : List Frame → ℕ → Walk
around fs zero = no_walk
around fs (suc p) = stride p (frame_at fs p) (around fs p)

-- A stack in the first d slots of an array, as a list, innermost first.
unfoldable pub stacked : List ℕ → ℕ → List ℕ
stacked xs zero = []
stacked xs (suc d) = slice_index xs d ∷ stacked xs d

-- What memory says of a thread

-- A spot, the context level inside each open block, innermost first, and the pace.
pub record Account : Type 0 where
  pub spot : Spot
  pub levels : List ℕ
  pub pace : Pace

-- Two lists of places are the same.
abbrev pub same_places : List ℕ → List ℕ → Bool
same_places [] [] = true
same_places [] (q ∷ qs) = false
same_places (p ∷ ps) [] = false
same_places (p ∷ ps) (q ∷ qs) = p == q && same_places ps qs

-- The spot is inside thread i, from behind its first frame to its last, and its openers are those of the blocks around its place.
abbrev pub spot_fits : List Frame → ℕ → Spot → Bool
spot_fits fs i s = let w = around fs s.place in (w.begun == suc i) && (w.ended == i && same_places w.openers s.openers)

-- A frame begins an if.
abbrev pub is_if : Frame → Bool
is_if (header h) = false
is_if (track i l z) = false
is_if (channel i l z) = false
is_if (thread i) = false
is_if thread_end = false
is_if Frame.skip = false
is_if (Frame.assign x e) = false
is_if (Frame.put h e) = false
is_if (if e) = true
is_if else = false
is_if end_if = false
is_if (while e) = false
is_if end_while = false
is_if (with m e) = false
is_if end_with = false
is_if (last m) = false

-- A frame ends a way of an if.
abbrev pub is_way_end : Frame → Bool
is_way_end (header h) = false
is_way_end (track i l z) = false
is_way_end (channel i l z) = false
is_way_end (thread i) = false
is_way_end thread_end = false
is_way_end Frame.skip = false
is_way_end (Frame.assign x e) = false
is_way_end (Frame.put h e) = false
is_way_end (if e) = false
is_way_end else = true
is_way_end end_if = true
is_way_end (while e) = false
is_way_end end_while = false
is_way_end (with m e) = false
is_way_end end_with = false
is_way_end (last m) = false

-- A frame ends a thread.
abbrev pub is_thread_end : Frame → Bool
is_thread_end (header h) = false
is_thread_end (track i l z) = false
is_thread_end (channel i l z) = false
is_thread_end (thread i) = false
is_thread_end thread_end = true
is_thread_end Frame.skip = false
is_thread_end (Frame.assign x e) = false
is_thread_end (Frame.put h e) = false
is_thread_end (if e) = false
is_thread_end else = false
is_thread_end end_if = false
is_thread_end (while e) = false
is_thread_end end_while = false
is_thread_end (with m e) = false
is_thread_end end_with = false
is_thread_end (last m) = false

-- The context level inside blocks of these levels: the innermost one's, or open.
abbrev pub innermost_level : List ℕ → ℕ
innermost_level [] = 0
innermost_level (l ∷ ls) = l

-- The level inside a block fits its opener: at an if it is a code of the kind, at a while or with it is the level outside.
abbrev pub level_fits : Levels → Frame → ℕ → ℕ → Bool
level_fits k f l outside = cond (is_if f) (k.has l) (l == outside)

-- There is a level for each opener, and each fits.
abbrev pub levels_fit : Levels → List Frame → List ℕ → List ℕ → Bool
levels_fit k fs [] [] = true
levels_fit k fs [] (l ∷ ls) = false
levels_fit k fs (p ∷ ps) [] = false
levels_fit k fs (p ∷ ps) (l ∷ ls) = level_fits k (frame_at fs p) l (innermost_level ls) && levels_fit k fs ps ls

-- Only at the end of a way a thread idles.
abbrev pub pace_fits : Frame → Pace → Bool
pace_fits f running = true
pace_fits f (idling n) = is_way_end f

-- What memory says of thread i fits the frames.
abbrev pub thread_fits : Levels → List Frame → ℕ → Account → Bool
thread_fits k fs i a = spot_fits fs i a.spot && (levels_fit k fs a.spot.openers a.levels && pace_fits (frame_at fs a.spot.place) a.pace)

-- What memory says of the first n threads fits the frames, each its own.
unfoldable pub all_fit : Levels → List Frame → (ℕ → Account) → ℕ → Bool
all_fit k fs f zero = true
all_fit k fs f (suc n) = all_fit k fs f n && thread_fits k fs n (f n)

-- What it means in the model

-- The context levels inside open blocks, innermost first.
abbrev pub contexts : List Open → List ℕ
contexts [] = []
contexts (o ∷ os) = context (o ∷ os) ∷ contexts os

-- The level of every entered branch is a code of the kind.
abbrev pub Coded : Levels → List Open → Type 0
Coded k [] = Unit {0}
Coded k (in_branch l w p q n ∷ os) = T (k.has l) × Coded k os
Coded k (in_loop e b n ∷ os) = Coded k os
Coded k (in_lock m n ∷ os) = Coded k os

-- Only inside a branch a thread idles.
abbrev pub Idles : Pace → List Open → Type 0
Idles running os = Unit {0}
Idles (idling n) [] = ⊥
Idles (idling n) (in_branch l w p q r ∷ os) = Unit {0}
Idles (idling n) (in_loop e b r ∷ os) = ⊥
Idles (idling n) (in_lock m r ∷ os) = ⊥

-- Memory's account is of the thread t, which stands in the frames fs where r follows the thread.
pub record Accounts (k : Levels) (fs r : List Frame) (a : Account) (t : Thread) : Type 0 where
  pub stands : StandsAt fs r a.spot t
  pub levels : a.levels ≡ contexts t.inside
  pub coded : Coded k t.inside
  pub pace : a.pace ≡ t.pace
  pub idles : Idles t.pace t.inside

-- The frames behind thread i's last.
abbrev pub behind_thread : Script → ℕ → List Frame
behind_thread sc i = thread_frames (suc i) (drop (suc i) sc.codes) (last (length (body_frames sc (last 0 ∷ []))) ∷ [])

-- Memory's accounts f are of the threads ts, one by one, each in its own frames.
pub record AllAccounts (k : Levels) (sc : Script) (f : ℕ → Account) (ts : List Thread) : Type 0 where
  pub long : length ts ≡ length sc.codes
  pub each : (i : ℕ) → i < length sc.codes → Accounts k (script_frames sc) (behind_thread sc i) (f i) (slice_index_or ts i ended)

-- A run whose levels are codes of the kind: of every variable, and of every entered branch.
pub record CodedRun (k : Levels) (s : State) : Type 0 where
  pub cells : (x : ℕ) → T (k.has (get_or s.cells x blank).level)
  pub branches : (i : ℕ) → Coded k (get_or s.threads i ended).inside

-- A run whose levels are codes, and whose every thread has an account.
pub record Accountable (k : Levels) (sc : Script) (s : State) : Type 0 where
  pub long : length s.threads ≡ length sc.codes
  pub coded : CodedRun k s
  pub each : (i : ℕ) → i < length sc.codes → (a : Account) × Accounts k (script_frames sc) (behind_thread sc i) a (slice_index_or s.threads i ended)

-- The walk decides what memory says of thread i: it fits exactly if it is the account of a thread of the model that stands in thread i's own frames, and then of one only.
pub record PlacesFit : Type 0 where
  -- A spot fits thread i of a valid script exactly if some code and open blocks stand there in its own frames.
  pub stands : (kind : ℕ) (k : Levels) (sc : Script) → ValidScript kind k sc → (i : ℕ) → i < length sc.codes → (s : Spot) → T (spot_fits (script_frames sc) i s) →
      (c : Code) × (os : List Open) × Stands (script_frames sc) (behind_thread sc i) s c os
  pub spots : (sc : Script) (i : ℕ) → i < length sc.codes → (s : Spot) (c : Code) (os : List Open) → Stands (script_frames sc) (behind_thread sc i) s c os → T (spot_fits (script_frames sc) i s)
  -- The account of a thread that stands there fits.
  pub fits : (k : Levels) (sc : Script) (i : ℕ) → i < length sc.codes → (a : Account) (t : Thread) → Accounts k (script_frames sc) (behind_thread sc i) a t → T (thread_fits k (script_frames sc) i a)
  -- What fits a valid script is the account of a thread, and that thread is valid.
  pub rebuilt : (kind : ℕ) (k : Levels) (sc : Script) → ValidScript kind k sc → (i : ℕ) → i < length sc.codes → (a : Account) → T (thread_fits k (script_frames sc) i a) →
      (t : Thread) × Accounts k (script_frames sc) (behind_thread sc i) a t × ValidThread (head_of sc) t
  -- It is the account of no other thread, whatever frames follow.
  pub one : (k : Levels) (fs r r' : List Frame) (a : Account) (t u : Thread) → Accounts k fs r a t → Accounts k fs r' a u → (t ≡ u) × (r ≡ r')
  -- The same of all threads together.
  pub all_fits : (k : Levels) (sc : Script) (f : ℕ → Account) (ts : List Thread) → AllAccounts k sc f ts → T (all_fit k (script_frames sc) f (length sc.codes))
  pub all_rebuilt : (kind : ℕ) (k : Levels) (sc : Script) → ValidScript kind k sc → (f : ℕ → Account) → T (all_fit k (script_frames sc) f (length sc.codes)) →
      (ts : List Thread) × AllAccounts k sc f ts × ((i : ℕ) → i < length sc.codes → ValidThread (head_of sc) (slice_index_or ts i ended))
  pub all_one : (k : Levels) (sc : Script) (f : ℕ → Account) (ts us : List Thread) → AllAccounts k sc f ts → AllAccounts k sc f us → ts ≡ us
  -- A walk comes to thread i's first place with no block open: it may as well begin there.
  pub walk_begins : (sc : Script) (i : ℕ) → i < length sc.codes → around (script_frames sc) (start_spot (script_frames sc) i).place ≡ walk_in i []
  -- The thread is through exactly where the frame at its place ends it.
  pub through : (k : Levels) (fs r : List Frame) (a : Account) (t : Thread) → Accounts k fs r a t → T (is_thread_end (frame_at fs a.spot.place)) → t ≡ ended
  pub at_end : (k : Levels) (fs r : List Frame) (a : Account) (t : Thread) → Accounts k fs r a t → t ≡ ended → T (is_thread_end (frame_at fs a.spot.place))
  -- When a run is made, each thread's start is an account of it.
  pub begins : (k : Levels) (sc : Script) (i : ℕ) → i < length sc.codes →
      Accounts k (script_frames sc) (behind_thread sc i) (record { spot = start_spot (script_frames sc) i; levels = []; pace = running }) (slice_index_or (begin sc).threads i ended)
  -- A walk over a valid script has at most 16 blocks open.
  pub shallow : (kind : ℕ) (k : Levels) (sc : Script) → ValidScript kind k sc → (p : ℕ) → length (around (script_frames sc) p).openers ≤ 16
  -- Levels stay codes through every turn.
  pub stays_coded : (k : Levels) (sc : Script) → Lawful k → Levelled k sc → (s : State) (i : ℕ) → CodedRun k s → CodedRun k (step k sc s i)
  -- So every thread of a run has an account, which fits: as the run is made, and after every turn.
  pub starts_so : (k : Levels) (sc : Script) → Lawful k → Levelled k sc → Accountable k sc (begin sc)
  pub stays_so : (k : Levels) (sc : Script) → Lawful k → Levelled k sc → (s : State) (i : ℕ) → Accountable k sc s → Accountable k sc (step k sc s i)
  -- A walk with its openers in an array: what opening and ending a block do there, and how far its counts go.
  pub opens : (xs : List ℕ) (d p : ℕ) → d < length xs → stacked (slice_set xs d p) (suc d) ≡ p ∷ stacked xs d
  pub ends : (xs : List ℕ) (d : ℕ) → stacked xs (d - 1) ≡ later_openers (stacked xs d)
  pub deep : (xs : List ℕ) (d : ℕ) → length (stacked xs d) ≡ d
  pub counts : (fs : List Frame) (p : ℕ) → ((around fs p).begun ≤ p) × ((around fs p).ended ≤ p)
