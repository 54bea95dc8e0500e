-- Traces of the calls themselves: each link is what the call's own contract ensures. Nothing here says what a call does.
use Rattle.std.specs.Prelude.{◌≡◌, ℕ, Bool, cond, T, List, [], ◌∷◌, map}
use Rattle.lattice.specs.Levels.{Levels}
use Rattle.script.specs.Code.{Script}
use Rattle.model.specs.Calls.{Call, Alike, Answer}
use Rattle.model.specs.Secrecy.{left_out}

-- A call as it was made, and what it answered.
pub record Asked : Type 0 where
  pub call : Call
  pub answer : Answer

-- A trace from a memory: a memory is a run with all its slabs, and `Did m c a n` is the contract of the call c, from m, with the answer a and n after it.
pub data Trace {Memory : Type 0} (Did : Memory → Call → Answer → Memory → Type 0) : Memory → List Asked → Type 0 where
  stop : {m : Memory} → Trace Did m []
  link : {m n : Memory} {a : Asked} {xs : List Asked} → Did m a.call a.answer n → Trace Did n xs → Trace Did m (a ∷ xs)

-- The calls of what was asked.
abbrev pub calls_of : List Asked → List Call
calls_of xs = map (λ a. a.call) xs

-- The answers of what was asked.
abbrev pub answers_of : List Asked → List Answer
answers_of xs = map (λ a. a.answer) xs

-- What was asked and is not left out.
abbrev pub kept_asked : (ℕ → Bool) → Script → List Asked → List Asked
kept_asked seen sc [] = []
kept_asked seen sc (a ∷ xs) = cond (left_out seen sc a.call) (kept_asked seen sc xs) (a ∷ kept_asked seen sc xs)

-- Two traces whose kept calls are alike for a reader have the same kept answers: what was left out is not learnt.
abbrev pub Blind : (k : Levels) (sc : Script) {Memory : Type 0} (Did : Memory → Call → Answer → Memory → Type 0) → Memory → Memory → Type 0
Blind k sc Did m n =
    (reader : ℕ) → T (k.has reader) → (xs ys : List Asked) → Trace Did m xs → Trace Did n ys →
    let seen : ℕ → Bool = λ l. k.flows l reader in
    Alike (calls_of (kept_asked seen sc xs)) (calls_of (kept_asked seen sc ys)) → answers_of (kept_asked seen sc xs) ≡ answers_of (kept_asked seen sc ys)

-- Two traces whose calls are alike have the same answers.
abbrev pub AnsweredAlike : {Memory : Type 0} (Did : Memory → Call → Answer → Memory → Type 0) → Memory → Memory → Type 0
AnsweredAlike Did m n = (xs ys : List Asked) → Trace Did m xs → Trace Did n ys → Alike (calls_of xs) (calls_of ys) → answers_of xs ≡ answers_of ys
