-- A thread as places in its script's frames: where it stands, and where the blocks that it is inside began.
use Rattle.std.specs.Prelude.{◌≡◌, ℕ, zero, suc, ◌+◌, ◌^◌, ◌<◌, ◌≤◌, true, false, cond, T, ◌≢◌, List, [], ◌∷◌, length, get_or, drop, nat_lt, slice_index, slice_index_or}
use Rattle.lattice.specs.Levels.{Levels}
use Rattle.codec.specs.Expressions.{Expr}
use Rattle.script.specs.Code.{Code, Script}
use Rattle.script.specs.Code.Code.{done, skip, assign, put, branch, loop, lock}
use Rattle.model.specs.Threads.{ended, Open, Pace, Thread}
use Rattle.model.specs.Machine.{step, State, value_of, lag}
use Rattle.model.specs.Values.{is_zero}
use Rattle.model.specs.Threads.Open.{in_branch, in_loop, in_lock}
use Rattle.model.specs.Threads.Pace.{running, idling}
use Rattle.codec.specs.Frames.{Head, Frame}
use Rattle.codec.specs.Frames.Frame.{header, track, channel, thread, thread_end, if, else, end_if, while, end_while, with, end_with, last}
use Rattle.script.specs.Trees.{flatten, script_frames, head_of, Sound, Valid, ValidScript}
use Rattle.model.specs.Calls.{begin}

-- The frames from the end of the innermost block on, through the end of the thread, with those that follow it.
abbrev pub flatten_inside : List Open → List Frame → List Frame
flatten_inside [] r = thread_end ∷ r
flatten_inside (in_branch l true p q n ∷ os) r = else ∷ flatten q (end_if ∷ flatten n (flatten_inside os r))
flatten_inside (in_branch l false p q n ∷ os) r = end_if ∷ flatten n (flatten_inside os r)
flatten_inside (in_loop e b n ∷ os) r = end_while ∷ flatten n (flatten_inside os r)
flatten_inside (in_lock m n ∷ os) r = end_with ∷ flatten n (flatten_inside os r)

-- How many frames stand before the else or the end of the block that they are in, where d more blocks are open inside it.
abbrev pub skip_inside : ℕ → List Frame → ℕ
skip_inside d [] = 0
skip_inside d (header h ∷ fs) = 0
skip_inside d (track i l z ∷ fs) = 0
skip_inside d (channel i l z ∷ fs) = 0
skip_inside d (thread i ∷ fs) = 0
skip_inside d (thread_end ∷ fs) = 0
skip_inside d (Frame.skip ∷ fs) = suc (skip_inside d fs)
skip_inside d (Frame.assign x e ∷ fs) = suc (skip_inside d fs)
skip_inside d (Frame.put h e ∷ fs) = suc (skip_inside d fs)
skip_inside d (if e ∷ fs) = suc (skip_inside (suc d) fs)
skip_inside zero (else ∷ fs) = 0
skip_inside (suc d) (else ∷ fs) = suc (skip_inside (suc d) fs)
skip_inside zero (end_if ∷ fs) = 0
skip_inside (suc d) (end_if ∷ fs) = suc (skip_inside d fs)
skip_inside d (while e ∷ fs) = suc (skip_inside (suc d) fs)
skip_inside zero (end_while ∷ fs) = 0
skip_inside (suc d) (end_while ∷ fs) = suc (skip_inside d fs)
skip_inside d (with m e ∷ fs) = suc (skip_inside (suc d) fs)
skip_inside zero (end_with ∷ fs) = 0
skip_inside (suc d) (end_with ∷ fs) = suc (skip_inside d fs)
skip_inside d (last m ∷ fs) = 0

-- How many frames stand before the else or the end of a block that was just entered.
abbrev pub skip_block : List Frame → ℕ
skip_block fs = skip_inside 0 fs

-- A place in the frames, and the places of the frames that opened the blocks around it, innermost first.
pub record Spot : Type 0 where
  pub place : ℕ
  pub openers : List ℕ

-- Each open block began at its opener's place.
abbrev pub Opened : List Frame → List Frame → List ℕ → List Open → Type 0
Opened fs r [] [] = Unit {0}
Opened fs r [] (o ∷ os) = ⊥
Opened fs r (p ∷ ps) [] = ⊥
Opened fs r (p ∷ ps) (in_branch l w c d n ∷ os) = ((e : Expr) × (drop p fs ≡ flatten (branch e c d n) (flatten_inside os r))) × Opened fs r ps os
Opened fs r (p ∷ ps) (in_loop e b n ∷ os) = (drop p fs ≡ flatten (loop e b n) (flatten_inside os r)) × Opened fs r ps os
Opened fs r (p ∷ ps) (in_lock m n ∷ os) = ((e : Expr) × (b : Code) × (drop p fs ≡ flatten (lock m e b n) (flatten_inside os r))) × Opened fs r ps os

-- A thread with this code and these blocks stands at a spot of the frames fs, where r follows the thread.
pub record Stands (fs r : List Frame) (s : Spot) (c : Code) (os : List Open) : Type 0 where
  pub here : drop s.place fs ≡ flatten c (flatten_inside os r)
  pub opened : Opened fs r s.openers os

-- How a turn moves a thread: not at all, on, or the other way (to the else of an if, past a while).
pub data Move : Type 0 where
  stays on aside : Move

-- All openers but the innermost block's.
abbrev pub later_openers : List ℕ → List ℕ
later_openers [] = []
later_openers (p ∷ ps) = ps

-- The innermost block's opener.
abbrev pub opener : List ℕ → ℕ
opener [] = 0
opener (p ∷ ps) = p

-- One frame on.
abbrev pub next : Spot → Spot
next s = record { place = suc s.place; openers = s.openers }

-- One frame on, into the block that the frame at the place opens.
abbrev pub enter : Spot → Spot
enter s = record { place = suc s.place; openers = s.place ∷ s.openers }

-- One frame on, out of the innermost block.
abbrev pub leave : Spot → Spot
leave s = record { place = suc s.place; openers = later_openers s.openers }

-- The place past the end of the block whose first frame is at a place, before these frames.
abbrev pub past : ℕ → List Frame → ℕ
past p fs = suc (suc (p + skip_block fs))

-- The spot behind a turn, from the frames at the place on.
abbrev pub onward : List Frame → Spot → Spot
onward [] s = s
onward (header h ∷ fs) s = s
onward (track i l z ∷ fs) s = s
onward (channel i l z ∷ fs) s = s
onward (thread i ∷ fs) s = s
onward (thread_end ∷ fs) s = s
onward (Frame.skip ∷ fs) s = next s
onward (Frame.assign x e ∷ fs) s = next s
onward (Frame.put h e ∷ fs) s = next s
onward (if e ∷ fs) s = enter s
onward (else ∷ fs) s = record { place = past s.place fs; openers = later_openers s.openers }
onward (end_if ∷ fs) s = leave s
onward (while e ∷ fs) s = enter s
onward (end_while ∷ fs) s = record { place = opener s.openers; openers = later_openers s.openers }
onward (with m e ∷ fs) s = enter s
onward (end_with ∷ fs) s = leave s
onward (last m ∷ fs) s = s

-- The spot behind a turn that goes the other way: to the else of an if, or past the end of a while.
abbrev pub sideways : List Frame → Spot → Spot
sideways [] s = s
sideways (header h ∷ fs) s = s
sideways (track i l z ∷ fs) s = s
sideways (channel i l z ∷ fs) s = s
sideways (thread i ∷ fs) s = s
sideways (thread_end ∷ fs) s = s
sideways (Frame.skip ∷ fs) s = s
sideways (Frame.assign x e ∷ fs) s = s
sideways (Frame.put h e ∷ fs) s = s
sideways (if e ∷ fs) s = record { place = past s.place fs; openers = s.place ∷ s.openers }
sideways (else ∷ fs) s = s
sideways (end_if ∷ fs) s = s
sideways (while e ∷ fs) s = record { place = past s.place fs; openers = s.openers }
sideways (end_while ∷ fs) s = s
sideways (with m e ∷ fs) s = s
sideways (end_with ∷ fs) s = s
sideways (last m ∷ fs) s = s

-- The spot behind a turn, by how it moves.
abbrev pub spot_after : List Frame → Move → Spot → Spot
spot_after fs stays s = s
spot_after fs on s = onward (drop s.place fs) s
spot_after fs aside s = sideways (drop s.place fs) s

-- The end of a way of a branch closes it unless idle turns are left.
abbrev pub closes : ℕ → Move
closes zero = on
closes (suc n) = stays

module _ (k : Levels) (sc : Script) where
  -- How the next turn of a thread moves it, by its code, pace and open blocks.
  abbrev pub move : State → Code → Pace → List Open → Move
  move s c (idling n) [] = stays
  move s c (idling n) (in_branch l w p q next ∷ os) = closes n
  move s c (idling n) (in_loop e b next ∷ os) = stays
  move s c (idling n) (in_lock m next ∷ os) = stays
  move s done running [] = stays
  move s done running (in_branch l w p q next ∷ os) = closes (lag w p q)
  move s done running (in_loop e b next ∷ os) = on
  move s done running (in_lock m next ∷ os) = on
  move s (skip c) running os = on
  move s (assign x e c) running os = on
  move s (put h e c) running os = on
  move s (branch e p q c) running os = cond (is_zero (value_of k sc s e)) aside on
  move s (loop e b c) running os = cond (is_zero (value_of k sc s e)) aside on
  move s (lock m e b c) running os = on

-- An idle thread has no code left.
abbrev pub Idle : Pace → Code → Type 0
Idle running c = Unit {0}
Idle (idling n) c = c ≡ done

-- A thread stands at a spot.
pub record StandsAt (fs r : List Frame) (s : Spot) (t : Thread) : Type 0 where
  pub stands : Stands fs r s t.code t.inside
  pub idle : Idle t.pace t.code

-- Where the threads' code begins: the places behind the frames that begin a thread, from place p on.
abbrev pub starts : ℕ → List Frame → List ℕ
starts p [] = []
starts p (header h ∷ fs) = starts (suc p) fs
starts p (track i l z ∷ fs) = starts (suc p) fs
starts p (channel i l z ∷ fs) = starts (suc p) fs
starts p (thread i ∷ fs) = suc p ∷ starts (suc p) fs
starts p (thread_end ∷ fs) = starts (suc p) fs
starts p (Frame.skip ∷ fs) = starts (suc p) fs
starts p (Frame.assign x e ∷ fs) = starts (suc p) fs
starts p (Frame.put h e ∷ fs) = starts (suc p) fs
starts p (if e ∷ fs) = starts (suc p) fs
starts p (else ∷ fs) = starts (suc p) fs
starts p (end_if ∷ fs) = starts (suc p) fs
starts p (while e ∷ fs) = starts (suc p) fs
starts p (end_while ∷ fs) = starts (suc p) fs
starts p (with m e ∷ fs) = starts (suc p) fs
starts p (end_with ∷ fs) = starts (suc p) fs
starts p (last m ∷ fs) = starts (suc p) fs

-- Where thread i's code begins.
abbrev pub start_spot : List Frame → ℕ → Spot
start_spot fs i = record { place = slice_index (starts 0 fs) i; openers = [] }

-- A valid thread: its code and the code behind its blocks are valid at their depth.
abbrev pub ValidInside : Head → List Open → Type 0
ValidInside h [] = Unit {0}
ValidInside h (in_branch l w p q n ∷ os) = T (nat_lt (length os) 16) × Valid h (suc (length os)) p × Valid h (suc (length os)) q × Valid h (length os) n × ValidInside h os
ValidInside h (in_loop e b n ∷ os) = T (nat_lt (length os) 16) × Sound h e × Valid h (suc (length os)) b × Valid h (length os) n × ValidInside h os
ValidInside h (in_lock m n ∷ os) = T (nat_lt (length os) 16) × T (nat_lt m (2 ^ h.locks)) × Valid h (length os) n × ValidInside h os

-- A thread whose code and open blocks are valid.
pub record ValidThread (h : Head) (t : Thread) : Type 0 where
  pub code : Valid h (length t.inside) t.code
  pub inside : ValidInside h t.inside

-- How a script's frames and the trees of its threads go together.
pub record PlacesAgree : Type 0 where
  -- When a run is made every thread stands at its start in the script's frames.
  pub begins : (sc : Script) (i : ℕ) → i < length sc.codes → (r : List Frame) × StandsAt (script_frames sc) r (start_spot (script_frames sc) i) (slice_index_or (begin sc).threads i ended)
  -- A turn moves its thread's spot by the frames at it, as `move` says, and leaves every other thread as it is.
  pub moves : (k : Levels) (sc : Script) (fs r : List Frame) (s : State) (i : ℕ) → i < length s.threads → (at-spot : Spot) →
      let t = get_or s.threads i ended in
      StandsAt fs r at-spot t → StandsAt fs r (spot_after fs (move k sc s t.code t.pace t.inside) at-spot) (slice_index_or (step k sc s i).threads i ended)
  pub others : (k : Levels) (sc : Script) (s : State) (i j : ℕ) → j ≢ i → slice_index_or (step k sc s i).threads j ended ≡ slice_index_or s.threads j ended
  -- A place in the frames has one code.
  pub one_code : (fs r r' : List Frame) (a b : Spot) (c d : Code) (os ps : List Open) → a.place ≡ b.place → Stands fs r a c os → Stands fs r' b d ps → c ≡ d
  -- The threads of a valid script begin valid and stay so through every turn; a valid thread is inside 16 blocks at most.
  pub begins_valid : (kind : ℕ) (k : Levels) (sc : Script) → ValidScript kind k sc → (i : ℕ) → i < length sc.codes → ValidThread (head_of sc) (slice_index_or (begin sc).threads i ended)
  pub stays_valid : (k : Levels) (sc : Script) (h : Head) (s : State) (i : ℕ) → i < length s.threads → ValidThread h (slice_index_or s.threads i ended) → ValidThread h (slice_index_or (step k sc s i).threads i ended)
  pub depth : (h : Head) (t : Thread) → ValidThread h t → length t.inside ≤ 16
