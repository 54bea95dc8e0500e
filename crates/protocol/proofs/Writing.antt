-- A line that was put.
use Rattle.std.proofs.Common.{◌≡◌, ℕ, ◌+◌, ◌/◌, ◌%◌, ◌<◌, length, get_or, take, List, [], ◌∷◌, ◌++◌, IfOk, Ok, Err, Result, ap, ◌∙◌}
use Rattle.std.proofs.lemmas.List.{take_more}
use Rattle.codec.specs.Lines.{digit, digits, written}
use Rattle.script.proofs.Texting.{digits_more}

-- The digits of one byte more.
pub digits_at : (bytes : List ℕ) (i : ℕ) → i < length bytes → digits (take (i + 1) bytes) ≡ digits (take i bytes) ++ (digit (get_or bytes i 0 / 16) ∷ digit (get_or bytes i 0 % 16) ∷ [])
unfolding digits
digits_at bytes i h = ap digits (take_more bytes i 0 h) ∙ digits_more (take i bytes) (get_or bytes i 0 ∷ [])

-- What was put is the line of other bytes that are the same.
pub put_same : {X Y : Type 0} (r : Result X Y) (end start a b : List ℕ) → a ≡ b → IfOk r (λ _. end ≡ start ++ written (a ∷ [])) → IfOk r (λ _. end ≡ start ++ written (b ∷ []))
put_same (Ok x) end start a b e h = h ∙ ap (λ bytes. start ++ written (bytes ∷ [])) e
put_same (Err y) end start a b e h = tt
