-- A slab that holds a script.
use Rattle.std.proofs.Common.{◌≡◌, ℕ, ◌+◌, ◌-◌, ◌*◌, ◌<◌, ◌≤◌, Bool, List, ◌++◌, length, take, drop, replicate, Option, None, Some, MatchOption, Ok, sym, ap, ◌∙◌, subst, append_assoc, arith, length-append, le-ltb}
use lib.ListN.{length-replicate}
use borrow.Rule.Slice.PartMut.{put_mid}
use Rattle.std.proofs.lemmas.List.{drop-drop, length-take-le, take_at}
use Rattle.std.specs.List.{AllByRecursion}
use Rattle.lattice.specs.Levels.{Levels}
use Rattle.codec.specs.Frames.{Frame}
use Rattle.script.specs.Format.{Seen, Verdict, read_script}
use Rattle.codec.specs.Writable.{Writable}
use Rattle.script.proofs.Text.{text_accepted}
use Rattle.script.specs.declared.Accepted.{Accepted}
use Rattle.script.specs.declared.state.State.{State}
use Rattle.script.specs.Takings.{Fills}
use Rattle.script.specs.Slabs.{slots_of, Declares, slab_of, Holds}
use Rattle.script.specs.Promises.{Held, ReadAs, ReadGives, TooShort, Wrote, by_test}
use Rattle.script.specs.Writings.{AllPut}
use Rattle.script.specs.declared.Declarations.{Declarations}
use Rattle.script.specs.Stages.{declaring}
use Rattle.script.specs.Text.{text_of}
use Rattle.script.specs.Format.Verdict.{accepted}
use Rattle.script.proofs.Texting.{slots_long}

-- The slots that are left, filled with zeros.
pub filled : (fs : List Frame) (a : ℕ) (mid z slab : List ℕ) → a ≤ 26112 → 26112 ≤ length mid → take a mid ≡ slots_of fs → z ≡ replicate (26112 - a) 0 → drop 26112 mid ≡ drop 26112 slab
    → put_mid a (26112 - a) mid z ≡ slab_of fs ++ drop 26112 slab
filled fs a mid z slab h l e ez ep =
    let n : length (slots_of fs) ≡ a = sym (ap length e) ∙ length-take-le a mid (omega arith) in
    let s : a + (26112 - a) ≡ 26112 = omega arith in
    (λ i. e i ++ (ez i ++ drop (26112 - a) (drop a mid)))
    ∙ ap (λ (d : List ℕ). slots_of fs ++ (replicate (26112 - a) 0 ++ d)) (drop-drop (26112 - a) a mid ∙ ap (λ (m : ℕ). drop m mid) s ∙ ep)
    ∙ sym (append_assoc (slots_of fs) (replicate (26112 - a) 0) (drop 26112 slab))
    ∙ ap (λ (m : ℕ). (slots_of fs ++ replicate (26112 - m) 0) ++ drop 26112 slab) (sym n)

pub read_ok : {K : Type 0} (kind : ℕ) (k : Levels) (lines slab mid z : List ℕ) (t : State) (a : Accepted K) → 26112 ≤ length slab → length mid ≡ length slab → Fills kind k lines slab mid t
    → z ≡ replicate (26112 - t.frames * 51) 0
    → a.declarations ≡ declaring t
    → ReadGives {K = K} kind k lines slab (put_mid (t.frames * 51) (26112 - t.frames * 51) mid z) (Ok a)
read_ok kind k lines slab mid z t a room same w ez ea =
    let few = w.few in
    let end = put_mid (t.frames * 51) (26112 - t.frames * 51) mid z in
    subst (λ (b : Bool). by_test b (TooShort slab end (Ok a)) (ReadAs (read_script kind k lines) slab end (Ok a))) (sym (le-ltb (length slab) 26112 room))
    (subst (λ (v : Verdict). ReadAs v slab end (Ok a)) (sym w.verdict) (
      filled w.frames (t.frames * 51) mid z slab (omega arith) (omega arith) w.slots ez w.past,
      subst (Declares w.frames) (sym ea) (record {
        head_is = ap (λ (n : Seen). n.head) w.declares;
        samples_are = ap (λ (n : Seen). n.track_room) w.declares;
        entries_are = ap (λ (n : Seen). n.channel_room) w.declares;
        frames_are = sym w.count;
      }),
    ))

-- A slab as reading leaves it holds the script that was read, and the lines of that script are those that were read.
pub record Kept (kind : ℕ) (k : Levels) (lines slab : List ℕ) (fs : List Frame) : Type 0 where
  pub holds : Holds kind k slab fs
  pub text : text_of fs ≡ lines

pub kept : (kind : ℕ) (k : Levels) (lines slab rest : List ℕ) (fs : List Frame) → read_script kind k lines ≡ accepted fs → slab ≡ slab_of fs ++ rest → Kept kind k lines slab fs
kept kind k lines slab rest fs e es =
    let t = text_accepted kind k lines fs e in
    let all = subst (AllByRecursion Writable) t.frames_are t.writable in
    let few = t.valid.frames in
    let n : length (slots_of fs) ≤ 26112 = omega (arith, slots_long fs all, ap length t.frames_are) in
    let long : length (slab_of fs) ≡ 26112 = simp (length-append, length-replicate) (omega arith) in
    let text : text_of fs ≡ lines = ap text_of (sym t.frames_are) ∙ t.text_is in
    record {
      holds = record {
        room = omega (arith, ap length es, length-append (slab_of fs) rest);
        slots = ap (take 26112) es ∙ take_at (slab_of fs) rest 26112 long;
        accepts = ap (read_script kind k) text ∙ e;
      };
      text = text;
    }

-- A script that a slab holds can be written, and has at most 512 frames.
pub held_writable : (kind : ℕ) (k : Levels) (slab : List ℕ) (fs : List Frame) → Holds kind k slab fs → AllByRecursion Writable fs
held_writable kind k slab fs h = let t = text_accepted kind k (text_of fs) fs h.accepts in subst (AllByRecursion Writable) t.frames_are t.writable

pub held_few : (kind : ℕ) (k : Levels) (slab : List ℕ) (fs : List Frame) → Holds kind k slab fs → length fs ≤ 512
held_few kind k slab fs h =
    let t = text_accepted kind k (text_of fs) fs h.accepts in
    let few = t.valid.frames in
    omega (arith, ap length t.frames_are)

-- The script that a slab holds, put or not: it is the only one.
pub written : (kind : ℕ) (k : Levels) (slab out end : List ℕ) (d : Declarations) (r : Option ℕ) (h : Held kind k slab d) → MatchOption r (length out < length (text_of h.frames)) (AllPut h.frames out end)
    → MatchOption r ((fs : List Frame) → Holds kind k slab fs → length out < length (text_of fs)) (Wrote kind k slab out end)
written kind k slab out end d None h short = λ fs v. subst (λ (gs : List Frame). length out < length (text_of gs)) (sym (h.only fs v)) short
written kind k slab out end d (Some n) h p = record { frames = h.frames; holds = h.holds; only = h.only; long = p.long; is = p.is }
