-- Where a script ends: the lines so far, and the first that begins with 7F.
use Rattle.std.proofs.Common.{◌≡◌, ℕ, suc, ◌+◌, ◌-◌, true, false, cond, List, [], ◌∷◌, ◌++◌, map, length, take, drop, sym, refl, ap, ◌∙◌, append_assoc, append-nil, arith, length-append}
use mathlib.Core.Option.{Option as Perhaps, some}
use Rattle.std.specs.List.{AllByRecursion}
use Rattle.std.proofs.ByRecursion.{All-push, All-weaker}
use Rattle.std.proofs.lemmas.List.{length-map, take_at, drop_at, take_all, drop_all}
use Rattle.codec.specs.Lines.{lines}
use Rattle.codec.specs.Slots.{no_end}
use Rattle.script.proofs.Stepping.{lines_more, lines_cut}
use Rattle.protocol.specs.Intake.{Parted, begins_last, script_lines}

-- Lines with their ends.
abbrev pub ended : List (List ℕ) → List ℕ
ended [] = []
ended (l ∷ ls) = l ++ (0x0A ∷ ended ls)

-- A line before the script's last.
abbrev pub Before : List ℕ → Type 0
Before l = no_end l × (begins_last l ≡ false)

-- What was gone through: whole lines, none of which begins with 7F.
pub record Gone (text rest : List ℕ) : Type 0 where
  pub before : List (List ℕ)
  pub plain : AllByRecursion Before before
  pub is : text ≡ ended before ++ rest

pub nothing_gone : (text : List ℕ) → Gone text text
nothing_gone text = record { before = []; plain = tt; is = refl }

ended_more : (ls : List (List ℕ)) (l : List ℕ) → ended (ls ++ (l ∷ [])) ≡ ended ls ++ (l ++ (0x0A ∷ []))
ended_more [] l = refl
ended_more (k ∷ ls) l = ap (λ r. k ++ (0x0A ∷ r)) (ended_more ls l) ∙ sym (append_assoc k (0x0A ∷ ended ls) (l ++ (0x0A ∷ [])))

-- One line more behind the lines that are gone.
with_line : (text rest line after : List ℕ) (ls : List (List ℕ)) → text ≡ ended ls ++ rest → rest ≡ line ++ (0x0A ∷ after) → text ≡ ended (ls ++ (line ∷ [])) ++ after
with_line text rest line after ls t e = rw (t, e) (simp (ended_more, append_assoc))

pub gone_more : (text rest line after : List ℕ) → Gone text rest → no_end line → rest ≡ line ++ (0x0A ∷ after) → begins_last line ≡ false → Gone text after
gone_more text rest line after g n e b =
    record { before = g.before ++ (line ∷ []); plain = All-push Before g.before line g.plain (n, b); is = with_line text rest line after g.before g.is e }

-- Lines that all have their ends.
abbrev each : List (List ℕ) → List (Perhaps (List ℕ))
each ls = map some ls

-- The lines of a text in whole lines.
lines_ended : (ls : List (List ℕ)) (rest : List ℕ) → AllByRecursion no_end ls → lines (ended ls ++ rest) ≡ each ls ++ lines rest
lines_ended [] rest h = refl
lines_ended (l ∷ ls) rest h =
    ap lines (append_assoc l (0x0A ∷ ended ls) rest) ∙ lines_more l (ended ls ++ rest) h.0 ∙ ap (λ (r : List (Perhaps (List ℕ))). some l ∷ r) (lines_ended ls rest h.1)

unended : (ls : List (List ℕ)) → AllByRecursion Before ls → AllByRecursion no_end ls
unended ls h = All-weaker Before no_end (λ l p. p.0) ls h

count_before : (ls : List (List ℕ)) (more : List (Perhaps (List ℕ))) → AllByRecursion Before ls → script_lines (each ls ++ more) ≡ length ls + script_lines more
unfolding script_lines
count_before [] more h = omega arith
count_before (l ∷ ls) more h = rw h.0.1 (omega (arith, count_before ls more h.1))

count_last : (line : List ℕ) (more : List (Perhaps (List ℕ))) → true ≡ begins_last line → script_lines (some line ∷ more) ≡ 1
unfolding script_lines
count_last line more h = ap (λ b. cond b 1 (suc (script_lines more))) (sym h)

ends : (ls : List (List ℕ)) (line : List ℕ) → AllByRecursion Before ls → no_end line → AllByRecursion no_end (ls ++ (line ∷ []))
ends ls line h n = All-push no_end ls line (unended ls h) n

count_all : (ls : List (List ℕ)) (line after : List ℕ) → AllByRecursion Before ls → true ≡ begins_last line
    → script_lines (each (ls ++ (line ∷ [])) ++ lines after) ≡ length (each (ls ++ (line ∷ [])))
unfolding script_lines
count_all [] line after h b = count_last line (lines after) b
count_all (l ∷ ls) line after h b = rw h.0.1 (ap suc (count_all ls line after h.1 b))

lines_whole : (ls : List (List ℕ)) → AllByRecursion no_end ls → lines (ended ls) ≡ each ls
unfolding lines
lines_whole ls h = ap lines (sym (append-nil (ended ls))) ∙ lines_ended ls [] h ∙ append-nil (each ls)

-- A text is parted behind lines of which only the last begins with 7F.
parted_at : (ls : List (List ℕ)) (text after : List ℕ) → AllByRecursion no_end ls → text ≡ ended ls ++ after → script_lines (each ls ++ lines after) ≡ length (each ls) → Parted text (ended ls) after
parted_at ls text after h is count =
    let all : lines text ≡ each ls ++ lines after = ap lines is ∙ lines_ended ls after h in
    let n : length (each ls) ≡ script_lines (lines text) = sym (ap script_lines all ∙ count) in
    record {
      whole = sym is;
      front = lines_whole ls h ∙ sym (ap (take (script_lines (lines text))) all ∙ take_at (each ls) (lines after) (script_lines (lines text)) n);
      back = sym (ap (drop (script_lines (lines text))) all ∙ drop_at (each ls) (lines after) (script_lines (lines text)) n);
    }

-- The text is parted behind the first line that begins with 7F.
pub parted : (text rest line after script back : List ℕ) → Gone text rest → no_end line → rest ≡ line ++ (0x0A ∷ after) → true ≡ begins_last line
    → script ≡ take (length text - length after) text → back ≡ drop (length text - length after) text → Parted text script back
parted text rest line after script back g n e b s k =
    let ls : List (List ℕ) = g.before ++ (line ∷ []) in
    let is : text ≡ ended ls ++ after = with_line text rest line after g.before g.is e in
    let long : length text ≡ length (ended ls) + length after = ap length is ∙ length-append (ended ls) after in
    let m : length (ended ls) ≡ length text - length after = omega arith in
    let front : script ≡ ended ls = s ∙ ap (take (length text - length after)) is ∙ take_at (ended ls) after (length text - length after) m in
    let rear : back ≡ after = k ∙ ap (drop (length text - length after)) is ∙ drop_at (ended ls) after (length text - length after) m in
    rw (front, rear) (parted_at ls text after (ends g.before line g.plain n) is (count_all g.before line after g.plain b))

-- Where no line is left, or one that has no end.
lines_left : (rest : List ℕ) → no_end rest → script_lines (lines rest) ≡ length (lines rest)
unfolding script_lines lines
lines_left [] h = refl
lines_left (b ∷ l) h = rw (lines_cut b l h)

-- No line begins with 7F: all of the text is the script.
pub not_parted : (text rest : List ℕ) → Gone text rest → no_end rest → Parted text text []
unfolding lines
not_parted text rest g h =
    let all : lines text ≡ each g.before ++ lines rest = ap lines g.is ∙ lines_ended g.before rest (unended g.before g.plain) in
    let count : script_lines (lines text) ≡ length g.before + length (lines rest) =
    ap script_lines all ∙ count_before g.before (lines rest) g.plain ∙ ap (λ n. length g.before + n) (lines_left rest h) in
    let long : length (lines text) ≡ length g.before + length (lines rest) =
    ap length all ∙ length-append (each g.before) (lines rest) ∙ ap (λ n. n + length (lines rest)) (length-map g.before (λ (l : List ℕ). some l)) in
    record {
      whole = append-nil text;
      front = sym (take_all (script_lines (lines text)) (lines text) (omega arith));
      back = sym (drop_all (script_lines (lines text)) (lines text) (omega arith));
    }
