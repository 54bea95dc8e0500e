-- Reading a script: frame by frame from the first, to the first fault or to the last frame.
use Rattle.std.specs.Prelude.{ℕ, suc, ◌+◌, ◌^◌, Bool, true, false, cond, ◌&&◌, ltb, leb, ◌⊎◌, List, [], ◌∷◌, ◌++◌, map, length, ◌==◌, nat_le, nat_lt}
use Rattle.std.proofs.Math.Option.{Option, none, some}
use Rattle.std.proofs.Common.{inl, inr}
use Rattle.lattice.specs.Levels.{Levels}
use Rattle.codec.specs.Expressions.{Expr}
use Rattle.codec.specs.Lines.{split}
use Rattle.codec.specs.Sound.{declared, leaves_one}
use Rattle.codec.specs.Frames.{Head, Frame, Read, frame_of}
use Rattle.codec.specs.Frames.Frame.{header, track, channel, thread, thread_end, skip, assign, put, if, else, end_if, while, end_while, with, end_with, last}

-- The state of reading

-- An open block: a branch before its else, a branch behind it, a loop, a lock.
pub data Block : Type 0 where
  before_else behind_else in_while in_with : Block

-- Before the header; outside the threads; inside one, with its open blocks, innermost first; behind the last frame.
pub data Phase : Type 0 where
  start : Phase
  outside : Phase
  inside : List Block → Phase
  ended : Phase

-- What was read so far: the header, how many tracks, channels, threads begun and frames, and the capacities so far.
pub record Seen : Type 0 where
  pub head : Head
  pub tracks : ℕ
  pub channels : ℕ
  pub threads : ℕ
  pub track_room : ℕ
  pub channel_room : ℕ
  pub frames : ℕ

-- Before the header nothing is declared.
abbrev pub no_head : Head
no_head = record { version = 0; kind = 0; threads = 0; variables = 0; tracks = 0; channels = 0; locks = 0 }

-- Before the first line.
abbrev pub nothing_seen : Seen
nothing_seen = record { head = no_head; tracks = 0; channels = 0; threads = 0; track_room = 0; channel_room = 0; frames = 0 }

-- What the tests ask

-- A number within bounds.
abbrev pub between : ℕ → ℕ → ℕ → Bool
between low n high = nat_le low n && nat_le n high

-- 3: the ranges of a header, where the kind of levels at hand has this number.
abbrev pub head_in_range : ℕ → Head → Bool
head_in_range kind h =
    (h.version == 1) && (h.kind == kind && (between 1 h.threads 8 && (between 1 h.variables 64 &&
    (nat_le h.tracks 8 && (between 1 h.channels 8 && nat_le h.locks 16)))))

-- Before the header.
abbrev pub is_start : Phase → Bool
is_start start = true
is_start outside = false
is_start (inside bs) = false
is_start ended = false

-- Behind the header and outside every thread.
abbrev pub is_outside : Phase → Bool
is_outside start = false
is_outside outside = true
is_outside (inside bs) = false
is_outside ended = false

-- Inside a thread.
abbrev pub is_inside : Phase → Bool
is_inside start = false
is_inside outside = false
is_inside (inside bs) = true
is_inside ended = false

-- Behind the last frame.
abbrev pub is_ended : Phase → Bool
is_ended start = false
is_ended outside = false
is_ended (inside bs) = false
is_ended ended = true

-- The open blocks, innermost first.
abbrev pub blocks : Phase → List Block
blocks start = []
blocks outside = []
blocks (inside bs) = bs
blocks ended = []

-- 4: a level is a code of the kind, asked once a header was read.
abbrev pub has_level : Levels → Phase → ℕ → Bool
has_level k start l = true
has_level k outside l = k.has l
has_level k (inside bs) l = k.has l
has_level k ended l = k.has l

-- 5, the order outside threads: all tracks are declared.
abbrev pub all_tracks : Phase → Seen → Bool
all_tracks p n = is_outside p && n.tracks == n.head.tracks

-- All channels are declared.
abbrev pub all_channels : Phase → Seen → Bool
all_channels p n = all_tracks p n && n.channels == n.head.channels

-- All threads are there.
abbrev pub all_threads : Phase → Seen → Bool
all_threads p n = all_channels p n && n.threads == n.head.threads

-- The next of so many declared, by its number.
abbrev pub is_next : ℕ → ℕ → ℕ → Bool
is_next i seen declared = i == seen && nat_lt seen declared

-- A number for each sort of block, to tell them apart.
abbrev pub tag : Block → ℕ
tag before_else = 0
tag behind_else = 1
tag in_while = 2
tag in_with = 3

-- 5: the innermost open block is of the sort that a frame ends.
abbrev pub innermost : Block → Phase → Bool
innermost b start = false
innermost b outside = false
innermost b (inside []) = false
innermost b (inside (c ∷ bs)) = tag b == tag c
innermost b ended = false

-- Inside a thread, with all of its blocks closed.
abbrev pub none_open : Phase → Bool
none_open start = false
none_open outside = false
none_open (inside []) = true
none_open (inside (b ∷ bs)) = false
none_open ended = false

-- 8: one more open block.
abbrev pub room : Phase → Bool
room p = nat_lt (length (blocks p)) 16

-- The tests of a frame: each with the number that it gives, in the order in which they are made.
pub record Test : Type 0 where
  pub number : ℕ
  pub passes : Bool

-- A test by its number and what it asks.
infix 60 ◌asks◌
abbrev pub ◌asks◌ : ℕ → Bool → Test
n asks b = record { number = n; passes = b }

-- The tests of an expression and its place; `named` says whether the frame's other name is declared, `w` whether the expression was decoded to its end.
abbrev pub expression_tests : Phase → Seen → Bool → Expr → Bool → List Test
expression_tests p n named e w = (5 asks is_inside p) ∷ (6 asks (named && declared n.head e)) ∷ (7 asks (w && leaves_one 0 e)) ∷ []

module _ (kind : ℕ) (k : Levels) where
  -- What is asked of each kind of frame, in order.
  abbrev pub tests : Phase → Seen → Frame → Bool → List Test
  tests p n (header h) w = (3 asks head_in_range kind h) ∷ (5 asks is_start p) ∷ []
  tests p n (track i l z) w = (3 asks leb (n.track_room + z) 2048) ∷ (4 asks has_level k p l) ∷ (5 asks (is_outside p && is_next i n.tracks n.head.tracks)) ∷ []
  tests p n (channel i l z) w = (3 asks leb (n.channel_room + z) 512) ∷ (4 asks has_level k p l) ∷ (5 asks (all_tracks p n && is_next i n.channels n.head.channels)) ∷ []
  tests p n (thread i) w = (5 asks (all_channels p n && is_next i n.threads n.head.threads)) ∷ []
  tests p n thread_end w = (5 asks none_open p) ∷ []
  tests p n skip w = (5 asks is_inside p) ∷ []
  tests p n (assign x e) w = expression_tests p n (nat_lt x n.head.variables) e w
  tests p n (put h e) w = expression_tests p n (nat_lt h n.head.channels) e w
  tests p n (if e) w = expression_tests p n true e w ++ ((8 asks room p) ∷ [])
  tests p n else w = (5 asks innermost before_else p) ∷ []
  tests p n end_if w = (5 asks innermost behind_else p) ∷ []
  tests p n (while e) w = expression_tests p n true e w ++ ((8 asks room p) ∷ [])
  tests p n end_while w = (5 asks innermost in_while p) ∷ []
  tests p n (with m e) w = expression_tests p n (nat_lt m (2 ^ n.head.locks)) e w ++ ((8 asks room p) ∷ [])
  tests p n end_with w = (5 asks innermost in_with p) ∷ []
  tests p n (last m) w = (5 asks (all_threads p n && m == suc n.frames)) ∷ []

-- The number of the first test that fails.
abbrev pub first_fault : List Test → Option ℕ
first_fault [] = none
first_fault (t ∷ ts) = cond t.passes (first_fault ts) (some t.number)

module _ (kind : ℕ) (k : Levels) where
  -- The fault of a frame; a frame past the 512th is one too.
  unfoldable pub fault : Phase → Seen → Read → Option ℕ
  fault p n r = first_fault (tests kind k p n r.frame r.whole ++ ((8 asks ltb n.frames 512) ∷ []))

-- The state behind a frame without fault

-- One more open block.
abbrev pub enter : Block → Phase → Phase
enter b p = inside (b ∷ blocks p)

-- The innermost block is closed.
abbrev pub leave : Phase → Phase
leave start = start
leave outside = outside
leave (inside []) = inside []
leave (inside (b ∷ bs)) = inside bs
leave ended = ended

-- Where reading stands behind a frame.
abbrev pub phase_after : Phase → Frame → Phase
phase_after p (header h) = outside
phase_after p (track i l z) = p
phase_after p (channel i l z) = p
phase_after p (thread i) = inside []
phase_after p thread_end = outside
phase_after p skip = p
phase_after p (assign x e) = p
phase_after p (put h e) = p
phase_after p (if e) = enter before_else p
phase_after p else = enter behind_else (leave p)
phase_after p end_if = leave p
phase_after p (while e) = enter in_while p
phase_after p end_while = leave p
phase_after p (with m e) = enter in_with p
phase_after p end_with = leave p
phase_after p (last m) = ended

-- One more frame, which declares nothing.
abbrev pub one_more_frame : Seen → Seen
one_more_frame n = record { head = n.head; tracks = n.tracks; channels = n.channels; threads = n.threads; track_room = n.track_room; channel_room = n.channel_room; frames = suc n.frames }

-- What was read behind a frame.
abbrev pub seen_after : Seen → Frame → Seen
seen_after n (header h) = record { head = h; tracks = 0; channels = 0; threads = 0; track_room = 0; channel_room = 0; frames = suc n.frames }
seen_after n (track i l z) = record { head = n.head; tracks = suc n.tracks; channels = n.channels; threads = n.threads; track_room = n.track_room + z; channel_room = n.channel_room; frames = suc n.frames }
seen_after n (channel i l z) = record { head = n.head; tracks = n.tracks; channels = suc n.channels; threads = n.threads; track_room = n.track_room; channel_room = n.channel_room + z; frames = suc n.frames }
seen_after n (thread i) = record { head = n.head; tracks = n.tracks; channels = n.channels; threads = suc n.threads; track_room = n.track_room; channel_room = n.channel_room; frames = suc n.frames }
seen_after n thread_end = one_more_frame n
seen_after n skip = one_more_frame n
seen_after n (assign x e) = one_more_frame n
seen_after n (put h e) = one_more_frame n
seen_after n (if e) = one_more_frame n
seen_after n else = one_more_frame n
seen_after n end_if = one_more_frame n
seen_after n (while e) = one_more_frame n
seen_after n end_while = one_more_frame n
seen_after n (with m e) = one_more_frame n
seen_after n end_with = one_more_frame n
seen_after n (last m) = one_more_frame n

-- Where reading stands behind frames without fault.
abbrev pub phase_through : Phase → List Frame → Phase
phase_through p [] = p
phase_through p (f ∷ fs) = phase_through (phase_after p f) fs

-- What was read behind frames.
abbrev pub through : Seen → List Frame → Seen
through n [] = n
through n (f ∷ fs) = through (seen_after n f) fs

-- Reading

-- The first fault with its line, from 1; or the frames of the script.
pub data Verdict : Type 0 where
  refused : ℕ → ℕ → Verdict
  accepted : List Frame → Verdict

-- A line of bytes: the fault 2, or its frame.
abbrev pub or_fault_2 : Option Read → ℕ ⊎ Read
or_fault_2 none = inl 2
or_fault_2 (some r) = inr r

-- A line: the fault 1 or 2, or its frame.
abbrev pub whole_line : Option (List ℕ) → ℕ ⊎ Read
whole_line none = inl 1
whole_line (some bs) = or_fault_2 (frame_of bs)

-- The lines of a text.
abbrev pub read_text : List ℕ → List (ℕ ⊎ Read)
read_text bytes = map whole_line (split bytes)

-- The verdict on a line's frame and on the lines behind it.
abbrev pub judged : ℕ → Frame → Option ℕ → Verdict → Verdict
judged line f (some number) later = refused number line
judged line f none (refused number l) = refused number l
judged line f none (accepted fs) = accepted (f ∷ fs)

module _ (kind : ℕ) (k : Levels) where
  -- Lines from a state on. A line's number is one more than the frames so far.
  unfoldable pub read_lines : Phase → Seen → List (ℕ ⊎ Read) → Verdict
  read_lines p n [] = cond (is_ended p) (accepted []) (refused 5 (suc n.frames))
  read_lines p n (inl number ∷ ls) = refused number (suc n.frames)
  read_lines p n (inr r ∷ ls) = judged (suc n.frames) r.frame (fault kind k p n r) (read_lines (phase_after p r.frame) (seen_after n r.frame) ls)

  -- A script's bytes.
  unfoldable pub read_script : List ℕ → Verdict
  read_script bytes = read_lines start nothing_seen (read_text bytes)

-- The kind of levels that a frame names: a header does.
abbrev pub kind_in : Frame → Option ℕ
kind_in (header h) = some h.kind
kind_in (track i l z) = none
kind_in (channel i l z) = none
kind_in (thread i) = none
kind_in thread_end = none
kind_in skip = none
kind_in (assign x e) = none
kind_in (put h e) = none
kind_in (if e) = none
kind_in else = none
kind_in end_if = none
kind_in (while e) = none
kind_in end_while = none
kind_in (with m e) = none
kind_in end_with = none
kind_in (last m) = none

-- The kind that the first of these lines names.
abbrev pub first_kind : List (ℕ ⊎ Read) → Option ℕ
first_kind [] = none
first_kind (inl number ∷ ls) = none
first_kind (inr r ∷ ls) = kind_in r.frame

-- The kind that a text names.
abbrev pub named_kind : List ℕ → Option ℕ
named_kind bytes = first_kind (read_text bytes)
