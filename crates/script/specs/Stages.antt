-- The state of reading in the code as the definition's.
use Rattle.std.specs.Prelude.{◌≡◌, ℕ, zero, suc, ◌+◌, ◌<◌, Bool, true, ◌&&◌, nat_le, List, [], ◌∷◌, Result, MatchResult, slice_index_or}
use Rattle.std.proofs.Math.Option.{none, some}
use Rattle.lattice.specs.Levels.{Levels}
use Rattle.codec.specs.Frames as M
use Rattle.codec.specs.Expressions.{decode}
use Rattle.script.specs.Format as F
use Rattle.script.specs.Format.{Phase, Seen, Test, ◌asks◌, expression_tests, fault, first_fault, has_level, innermost, is_next, leave, one_more_frame, phase_after, seen_after}
use Rattle.script.specs.Format.Phase.{start, outside, inside, ended}
use Rattle.script.specs.Format.Block.{before_else, behind_else, in_while, in_with}
use Rattle.script.specs.declared.Declarations.{Declarations}
use Rattle.script.specs.declared.faults.Cause.{Cause}
use Rattle.script.specs.declared.blocks.Block.{Block}
use Rattle.script.specs.declared.blocks.Block.TheVariants.{BeforeElse, BehindElse, InWhile, InWith}
use Rattle.script.specs.declared.blocks.Opened.{Opened}
use Rattle.script.specs.declared.state.Stage.{Stage}
use Rattle.script.specs.declared.state.Stage.TheVariants.{Start, Outside, Inside, Ended}
use Rattle.script.specs.declared.state.State.{State}
use Rattle.script.specs.declared.state.Stores.{Stores}
use Rattle.codec.specs.declared.frames.Store.{Store}
use Rattle.script.specs.Refusals.{cause_number}
use Rattle.codec.specs.Shapes.{head_of}

-- An open block.
abbrev pub block_of : Block → F.Block
block_of BeforeElse = before_else
block_of BehindElse = behind_else
block_of InWhile = in_while
block_of InWith = in_with

-- The first n blocks, innermost first.
abbrev pub held_blocks : ℕ → List Block → List F.Block
held_blocks zero bs = []
held_blocks (suc n) bs = block_of (slice_index_or bs n BeforeElse) ∷ held_blocks n bs

-- The open blocks, innermost first.
abbrev pub held : Opened → List F.Block
held o = held_blocks o.depth o.stack

-- Where reading stands, by its stage.
abbrev pub phase : Stage → Phase
phase Start = start
phase Outside = outside
phase (Inside o) = inside (held o)
phase Ended = ended

-- Where reading stands.
abbrev pub phase_of : State → Phase
phase_of s = phase s.stage

-- The blocks around an innermost block of this sort.
pub record Around (b : F.Block) (p : Phase) (o : Opened) : Type 0 where
  pub is : innermost b p ≡ true
  pub leaves : inside (held o) ≡ leave p
  pub room : o.depth < 16

-- What was read.
abbrev pub seen_of : State → Seen
seen_of s = record {
  head = head_of s.head;
  tracks = s.tracks.count;
  channels = s.channels.count;
  threads = s.threads;
  track_room = s.tracks.used;
  channel_room = s.channels.used;
  frames = s.frames;
}

-- A test, with the number that it gives.
abbrev pub numbered : ℕ → Bool → Test
numbered n b = n asks b

-- The tests of a track or a channel behind those so far, of so many declared and with room for so much in all.
abbrev pub store_asks : Levels → State → Stores → Store → ℕ → ℕ → Bool → List Test
store_asks k s ss t declared limit placed =
    numbered 3 (nat_le (ss.used + t.capacity) limit) ∷ numbered 4 (has_level k (phase_of s) t.level) ∷ numbered 5 (placed && is_next t.number ss.count declared) ∷ []

-- One more of them.
abbrev pub with_store : Stores → Store → Stores
with_store ss t = record { count = ss.count + 1; used = ss.used + t.capacity }

-- The state behind a frame that passed its own tests, before the frame is counted.
pub record Moved (s : State) (f : M.Frame) (t : State) : Type 0 where
  pub phase_is : phase_of t ≡ phase_after (phase_of s) f
  pub seen_is : one_more_frame (seen_of t) ≡ seen_after (seen_of s) f
  pub uncounted : t.frames ≡ s.frames

-- A frame against its own tests.
abbrev pub Passes : List Test → State → M.Frame → Result State Cause → Type 0
Passes ts s f r = MatchResult r (λ t. (first_fault ts ≡ none) × Moved s f t) (λ c. first_fault ts ≡ some (cause_number c))

-- The same of a frame that leads to a phase and declares nothing.
abbrev pub Entered : List Test → State → Phase → Result State Cause → Type 0
Entered ts s p r =
    MatchResult r
    (λ t. (first_fault ts ≡ none) × (phase_of t ≡ p) × (seen_of t ≡ seen_of s))
    (λ c. first_fault ts ≡ some (cause_number c))

-- The state behind a frame that passed all tests.
pub record Stepped (s : State) (f : M.Frame) (t : State) : Type 0 where
  pub phase_is : phase_of t ≡ phase_after (phase_of s) f
  pub seen_is : seen_of t ≡ seen_after (seen_of s) f

-- A frame against all tests: the state behind it, or the number of the first test that fails.
abbrev pub Judged : ℕ → Levels → State → M.Read → Result State Cause → Type 0
Judged kind k s f r =
    MatchResult r
    (λ t. (fault kind k (phase_of s) (seen_of s) f ≡ none) × Stepped s f.frame t)
    (λ c. fault kind k (phase_of s) (seen_of s) f ≡ some (cause_number c))

-- The tests of an expression as the code has it, in bytes.
abbrev pub expression_asks : State → Bool → List ℕ → List Test
expression_asks s named code = expression_tests (phase_of s) (seen_of s) named (decode 0 code).ops (decode 0 code).whole

-- What a state has read that a script declares.
abbrev pub declaring : State → Declarations
declaring s = record { head = s.head; samples = s.tracks.used; entries = s.channels.used; frames = s.frames }
