-- Secrecy: what one reader finds does not depend on what may not flow to that reader.
use Rattle.std.specs.Prelude.{◌≡◌, ℕ, Bool, false, cond, not, ◌&&◌, T, List, [], ◌∷◌, length, nat_lt, slice_index}
use Rattle.lattice.specs.Levels.{Levels, Lawful}
use Rattle.script.specs.Code.{Script}
use Rattle.model.specs.Levels.{Levelled}
use Rattle.scheduler.specs.Turns.{Meaning}
use Rattle.model.specs.Machine.{State}
use Rattle.model.specs.Calls.{Call, Alike, Answer, begin, perform}
use Rattle.model.specs.Calls.Call.{feed, advance_by, count, entry, ask}

-- Track or channel n, of these declared levels, is hidden where the levels in `seen` are all that is seen. One that is not declared is not hidden.
abbrev pub hidden : (ℕ → Bool) → List ℕ → ℕ → Bool
hidden seen levels n = nat_lt n (length levels) && not (seen (slice_index levels n))

-- A call is left out if it feeds a hidden track or reads a hidden channel.
abbrev pub left_out : (ℕ → Bool) → Script → Call → Bool
left_out seen sc (feed ok t z) = hidden seen sc.track_levels t
left_out seen sc (advance_by ok n) = false
left_out seen sc (count ok h) = hidden seen sc.channel_levels h
left_out seen sc (entry ok h i) = hidden seen sc.channel_levels h
left_out seen sc (ask ok i) = false

-- The calls that are kept: all that are not left out.
abbrev pub kept : (ℕ → Bool) → Script → List Call → List Call
kept seen sc [] = []
kept seen sc (c ∷ cs) = cond (left_out seen sc c) (kept seen sc cs) (c ∷ kept seen sc cs)

module _ (k : Levels) (sc : Script) {S : Type 0} (schedule : Meaning S) (seen : ℕ → Bool) where
  -- The answers to the calls that are kept; all calls are made.
  abbrev pub kept_answers : List Call → State → S → List Answer
  kept_answers [] s g = []
  kept_answers (c ∷ cs) s g =
      let r = perform k sc schedule c s g in
      let later = kept_answers cs r.1 r.2 in
      cond (left_out seen sc c) later (r.0 ∷ later)

-- Two runs made alike (of one script, with one scheduler in one state), each with its own list of calls: where the kept calls are alike,
-- they get the same answers, refusals too.
abbrev pub SecretFrom : (k : Levels) (sc : Script) {S : Type 0} → Meaning S → (ℕ → Bool) → Type 0
SecretFrom k sc {S} schedule seen =
    (g : S) (xs ys : List Call) → Alike (kept seen sc xs) (kept seen sc ys) →
    kept_answers k sc schedule seen xs (begin sc) g ≡ kept_answers k sc schedule seen ys (begin sc) g

-- A reader sees the levels that flow to the reader's own.
abbrev pub Secret : (k : Levels) (sc : Script) {S : Type 0} → Meaning S → Type 0
Secret k sc schedule = (reader : ℕ) → T (k.has reader) → SecretFrom k sc schedule (λ l. k.flows l reader)

-- Of every kind of levels that keeps the laws and every script of its levels, with one scheduler.
abbrev pub EveryRunIsSecret : {S : Type 0} → Meaning S → Type 0
EveryRunIsSecret schedule = (k : Levels) (sc : Script) → Lawful k → Levelled k sc → Secret k sc schedule

-- The laws of a kind of levels that secrecy itself uses: open is a code, every join is one, and both parts flow to their join.
-- That one reader's view is a view takes two more: open flows to all, and flow is transitive. Reflexivity, antisymmetry and that a join is
-- the least are not used.
pub record Bounded (k : Levels) : Type 0 where
  pub open_has : T (k.has 0)
  pub join_has : (a b : ℕ) → T (k.has a) → T (k.has b) → T (k.has (k.join a b))
  pub join_left : (a b : ℕ) → T (k.has a) → T (k.has b) → T (k.flows a (k.join a b))
  pub join_right : (a b : ℕ) → T (k.has a) → T (k.has b) → T (k.flows b (k.join a b))

-- A view: a set of seen levels that has open, and whatever flows to a level that it has. What one reader sees is a view, and what several readers
-- who pool see is one.
pub record IsView (k : Levels) (seen : ℕ → Bool) : Type 0 where
  pub open_seen : T (seen 0)
  pub down : (a b : ℕ) → T (k.has a) → T (k.has b) → T (k.flows a b) → T (seen b) → T (seen a)

-- Secrecy from every view.
abbrev pub EveryViewIsBlind : {S : Type 0} → Meaning S → Type 0
EveryViewIsBlind schedule = (k : Levels) (sc : Script) → Bounded k → Levelled k sc → (seen : ℕ → Bool) → IsView k seen → SecretFrom k sc schedule seen
