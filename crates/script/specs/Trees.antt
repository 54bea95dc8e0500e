-- A script as frames: its tree written out, and what makes it valid.
use Rattle.std.specs.Prelude.{◌≡◌, ℕ, suc, ◌+◌, ◌^◌, ◌≤◌, T, List, [], ◌∷◌, length, nat_lt}
use Rattle.std.specs.List.{AllByRecursion}
use Rattle.lattice.specs.Levels.{Levels}
use Rattle.codec.specs.Expressions.{Expr}
use Rattle.script.specs.Code.{Code, Script}
use Rattle.script.specs.Code.Code.{done, skip, assign, put, branch, loop, lock}
use Rattle.codec.specs.Frames.{Head, Frame}
use Rattle.codec.specs.Frames.Frame.{header, track, channel, thread, thread_end, if, else, end_if, while, end_while, with, end_with, last}
use Rattle.codec.specs.Sound.{declared, leaves_one}
use Rattle.script.specs.Format.{head_in_range}

-- The frames of a stretch of commands, with those that follow it.
abbrev pub flatten : Code → List Frame → List Frame
flatten done r = r
flatten (skip c) r = Frame.skip ∷ flatten c r
flatten (assign x e c) r = Frame.assign x e ∷ flatten c r
flatten (put h e c) r = Frame.put h e ∷ flatten c r
flatten (branch e p q c) r = if e ∷ flatten p (else ∷ flatten q (end_if ∷ flatten c r))
flatten (loop e b c) r = while e ∷ flatten b (end_while ∷ flatten c r)
flatten (lock m e b c) r = with m e ∷ flatten b (end_with ∷ flatten c r)

-- The frames of thread i, with those that follow it.
abbrev pub frames_of_thread : ℕ → Code → List Frame → List Frame
frames_of_thread i c r = thread i ∷ flatten c (thread_end ∷ r)

-- The threads from number i on.
abbrev pub thread_frames : ℕ → List Code → List Frame → List Frame
thread_frames i [] r = r
thread_frames i (c ∷ cs) r = frames_of_thread i c (thread_frames (suc i) cs r)

-- Tracks or channels from number i on, by their levels and sizes.
abbrev pub store_frames : (ℕ → ℕ → ℕ → Frame) → ℕ → List ℕ → List ℕ → List Frame → List Frame
store_frames f i [] zs r = r
store_frames f i (l ∷ ls) [] r = r
store_frames f i (l ∷ ls) (z ∷ zs) r = f i l z ∷ store_frames f (suc i) ls zs r

-- The header of a script.
abbrev pub head_of : Script → Head
head_of sc = record {
  version = 1;
  kind = sc.kind;
  threads = length sc.codes;
  variables = sc.variables;
  tracks = length sc.track_levels;
  channels = length sc.channel_levels;
  locks = sc.locks;
}

-- The frames of a script, with those that follow its threads.
abbrev pub body_frames : Script → List Frame → List Frame
body_frames sc r =
    header (head_of sc) ∷
    store_frames track 0 sc.track_levels sc.track_sizes
    (store_frames channel 0 sc.channel_levels sc.channel_sizes
    (thread_frames 0 sc.codes r))

-- The last frame has the number of frames, itself counted.
abbrev pub script_frames : Script → List Frame
script_frames sc = body_frames sc (last (length (body_frames sc (last 0 ∷ []))) ∷ [])

-- An expression that names what is declared and leaves one number.
abbrev pub Sound : Head → Expr → Type 0
Sound h e = T (declared h e) × T (leaves_one 0 e)

-- Code inside d open blocks.
abbrev pub Valid : Head → ℕ → Code → Type 0
Valid h d done = Unit {0}
Valid h d (skip c) = Valid h d c
Valid h d (assign x e c) = T (nat_lt x h.variables) × Sound h e × Valid h d c
Valid h d (put o e c) = T (nat_lt o h.channels) × Sound h e × Valid h d c
Valid h d (branch e p q c) = T (nat_lt d 16) × Sound h e × Valid h (suc d) p × Valid h (suc d) q × Valid h d c
Valid h d (loop e b c) = T (nat_lt d 16) × Sound h e × Valid h (suc d) b × Valid h d c
Valid h d (lock m e b c) = T (nat_lt d 16) × T (nat_lt m (2 ^ h.locks)) × Sound h e × Valid h (suc d) b × Valid h d c

-- A sum.
abbrev pub total : List ℕ → ℕ
total [] = 0
total (x ∷ xs) = x + total xs

-- A script within all bounds, under a kind of levels and the number of that kind.
pub record ValidScript (kind : ℕ) (k : Levels) (sc : Script) : Type 0 where
  pub head : T (head_in_range kind (head_of sc))
  pub track_sizes : length sc.track_sizes ≡ length sc.track_levels
  pub channel_sizes : length sc.channel_sizes ≡ length sc.channel_levels
  pub track_room : total sc.track_sizes ≤ 2048
  pub channel_room : total sc.channel_sizes ≤ 512
  pub track_levels : AllByRecursion (λ l. T (k.has l)) sc.track_levels
  pub channel_levels : AllByRecursion (λ l. T (k.has l)) sc.channel_levels
  pub codes : AllByRecursion (Valid (head_of sc) 0) sc.codes
  pub frames : length (script_frames sc) ≤ 512
