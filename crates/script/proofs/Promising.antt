-- What the verdict on lines means, and that what was read comes back.
use Rattle.std.proofs.Common.{◌≡◌, ℕ, suc, ◌+◌, ◌<◌, Bool, true, false, cond, ltb, ◌⊎◌, List, [], ◌∷◌, ◌++◌, length, drop, Ok, Err, Result, sym, refl, ap, ◌∙◌, inl, inr, arith, ltb-true}
use mathlib.Core.Option.{Option as Perhaps, none, some}
use Rattle.lattice.specs.Levels.{Levels}
use Rattle.codec.specs.Frames.{Frame, Read}
use Rattle.script.specs.Format.{Phase, Seen, Verdict, fault, is_ended, judged, nothing_seen, phase_after, phase_through, read_lines, read_script, read_text, seen_after, through}
use Rattle.script.specs.Format.Phase.{start}
use Rattle.script.specs.Format.Verdict.{refused, accepted}
use Rattle.script.specs.Trees.{script_frames}
use Rattle.script.specs.Text.{text_of}
use Rattle.script.specs.Promises.{ComesBack, FirstFault, Passed, ReadAs, ReadGives, Reads, TooShort, ValidText, WriteGives, Writes, by_test, next_fault}
use Rattle.script.specs.declared.Accepted.{Accepted}
use Rattle.script.specs.declared.faults.RunFault.{RunFault}
use Rattle.script.proofs.Filling.{frames_after}
use Rattle.script.proofs.Holding.{kept}
use Rattle.script.proofs.Text.{text_accepted, text_read}
use Rattle.script.proofs.Unique.{one_tree}

-- The first fault

module _ (kind : ℕ) (k : Levels) where
  -- Where reading from a state on ends in a fault, and how it came there.
  record Ends (p : Phase) (s : Seen) (ls : List (ℕ ⊎ Read)) (n l : ℕ) : Type 0 where
    frames : List Frame
    rest : List (ℕ ⊎ Read)
    passed : Passed kind k p s ls frames rest
    at : l ≡ suc (s.frames + length frames)
    told : next_fault kind k (phase_through p frames) (through s frames) rest ≡ some n

  at_once : (p : Phase) (s : Seen) (ls : List (ℕ ⊎ Read)) (m n l : ℕ) → next_fault kind k p s ls ≡ some m → refused m (suc s.frames) ≡ refused n l → Ends p s ls n l
  at_once p s ls m n l t e =
      let same : m ≡ n = cc in
      let here : suc s.frames ≡ l = cc in
      record { frames = []; rest = ls; passed = refl; at = omega arith; told = t ∙ ap some same }

  ends : (ls : List (ℕ ⊎ Read)) (p : Phase) (s : Seen) (n l : ℕ) → read_lines kind k p s ls ≡ refused n l → Ends p s ls n l
  unfolding read_lines
  ends [] p s n l e = go (is_ended p) refl e
    where
      go : (b : Bool) → is_ended p ≡ b → cond b (accepted []) (refused 5 (suc s.frames)) ≡ refused n l → Ends p s [] n l
      go true q h = cc
      go false q h = at_once p s [] 5 n l (rw q) h
  ends (inl m ∷ ls) p s n l e = at_once p s (inl m ∷ ls) m n l refl e
  ends (inr r ∷ ls) p s n l e = go (fault kind k p s r) refl (read_lines kind k (phase_after p r.frame) (seen_after s r.frame) ls) (ends ls (phase_after p r.frame) (seen_after s r.frame) n l) e
    where
      go : (o : Perhaps ℕ) → fault kind k p s r ≡ o → (v : Verdict) → (v ≡ refused n l → Ends (phase_after p r.frame) (seen_after s r.frame) ls n l) → judged (suc s.frames) r.frame o v ≡ refused n l → Ends p s (inr r ∷ ls) n l
      go (some m) q v later h = at_once p s (inr r ∷ ls) m n l q h
      go none q (accepted fs) later h = cc
      go none q (refused m j) later h =
          let t = later h in
          record { frames = r.frame ∷ t.frames; rest = t.rest; passed = (refl, q, t.passed); at = omega (arith, t.at, frames_after s r.frame); told = t.told }

  first_fault : (lines : List ℕ) (n l : ℕ) → read_script kind k lines ≡ refused n l → FirstFault kind k lines n l
  unfolding read_script
  first_fault lines n l e =
      let t = ends (read_text lines) start nothing_seen n l e in
      record { frames = t.frames; rest = t.rest; passed = t.passed; at = omega (arith, t.at); told = t.told }

  -- Texts of valid scripts

  valid_text : (lines : List ℕ) (fs : List Frame) → read_script kind k lines ≡ accepted fs → ValidText kind k lines
  valid_text lines fs e =
      let t = text_accepted kind k lines fs e in
      record {
        script = t.script;
        valid = t.valid;
        writable = t.writable;
        text = t.text_is;
        only = λ sc v w h.
            let read = sym (text_read kind k sc v w) ∙ ap (read_script kind k) h ∙ e in
            let same : script_frames sc ≡ fs = cc in
            one_tree sc t.script (record { tracks = v.track_sizes; channels = v.channel_sizes }) (record { tracks = t.valid.track_sizes; channels = t.valid.channel_sizes }) (same ∙ sym t.frames_are);
      }

  refused_text : (lines : List ℕ) (n l : ℕ) → read_script kind k lines ≡ refused n l → ValidText kind k lines → ⊥
  refused_text lines n l e t = cc (sym e ∙ ap (read_script kind k) (sym t.text) ∙ text_read kind k t.script t.valid t.writable)

  -- Reading

  module _ {K : Type 0} (lines slab end : List ℕ) where
    verdict_reads : (v : Verdict) (r : Result (Accepted K) RunFault) → read_script kind k lines ≡ v → ReadAs v slab end r → ReadGives kind k lines slab end r → Reads kind k lines slab end r
    verdict_reads (refused n l) (Ok a) e w gives = absurd w.1
    verdict_reads (refused n l) (Err f) e w gives = record {
      gives = gives;
      exactly = λ _. refused_text lines n l e;
      first = λ _. record { number = n; line = l; tells = w.1; first = first_fault lines n l e };
    }
    verdict_reads (accepted fs) (Ok a) e w gives = record { gives = gives; exactly = valid_text lines fs e; first = tt }
    verdict_reads (accepted fs) (Err f) e w gives = absurd w.1

    short_reads : (r : Result (Accepted K) RunFault) → length slab < 26112 → TooShort slab end r → ReadGives kind k lines slab end r → Reads kind k lines slab end r
    short_reads (Ok a) h w gives = absurd w.1
    short_reads (Err f) h w gives = record { gives = gives; exactly = λ room. absurd (omega arith); first = λ room. absurd (omega arith) }

    pub reads : (r : Result (Accepted K) RunFault) → ReadGives kind k lines slab end r → Reads kind k lines slab end r
    reads r gives = go (ltb (length slab) 26112) refl gives
      where
        go : (b : Bool) → ltb (length slab) 26112 ≡ b → by_test b (TooShort slab end r) (ReadAs (read_script kind k lines) slab end r) → Reads kind k lines slab end r
        go true q w = short_reads r (ltb-true (length slab) 26112 q) w gives
        go false q w = verdict_reads (read_script kind k lines) r refl w gives

  -- Writing

  module _ (slab out end : List ℕ) where
    comes_back : (r : Result ℕ RunFault) → WriteGives kind k slab out end r → ComesBack kind k slab out end r
    comes_back (Ok n) w lines rest fs e es fits =
        let b = kept kind k lines slab rest fs e es in
        let text : text_of w.frames ≡ lines = ap text_of (sym (w.only fs b.holds)) ∙ b.text in
        let long : n ≡ length lines = w.long ∙ ap length text in
        (ap Ok long, w.is ∙ (λ i. text i ++ drop (long i) out))
    comes_back (Err f) w lines rest fs e es fits =
        let b = kept kind k lines slab rest fs e es in
        absurd (omega (arith, w.lacks fs b.holds, ap length b.text))

    pub writes : (r : Result ℕ RunFault) → WriteGives kind k slab out end r → Writes kind k slab out end r
    writes r gives = record { gives = gives; back = comes_back r gives }
