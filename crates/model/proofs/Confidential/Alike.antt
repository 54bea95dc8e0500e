-- Two runs that look the same, and the status of their threads.
use Rattle.std.proofs.Common.{◌≡◌, ℕ, suc, Bool, false, not, ◌&&◌, T, List, [], ◌∷◌, length, get_or, ℤ, sym, refl, ap, ◌∙◌, ap₂, ⊎_elim, arith, length-set}
use lib.Bits.{bit_or}
use Rattle.model.specs.Levels.{is_open}
use Rattle.codec.specs.Expressions.{Expr}
use Rattle.script.specs.Code.{Code}
use Rattle.model.specs.Stretches.{fixed_time, needs}
use Rattle.script.specs.Code.Code.{done, skip, assign, put, branch, loop, lock}
use Rattle.model.specs.Threads.{Open, Pace, Thread, ended, clash, against, context}
use Rattle.model.specs.Machine.{State, Status, status_at, status, chosen_status, level_of, value_of, set_thread, each_from, ready_set, all_finished, all_true, status_is_ready, status_is_finished, rules}
use Rattle.model.specs.Threads.Pace.{running, idling}
use Rattle.model.proofs.Confidential.Slots.{set_rel, T_false, either_way}
use Rattle.model.proofs.Confidential.View.{View, LR, lr_same, lr_join, lr_open, seen_open}
use Rattle.model.proofs.Confidential.Agree.{Agree, Ex, ex, agree_sym, agree_trans}
use Rattle.model.proofs.Confidential.Stack.{HadStack, Sound}
use Rattle.model.proofs.Confidential.SoundStep.{context_had}
use Rattle.model.proofs.Confidential.Quiet.{quiet_ready}
use Rattle.model.proofs.Confidential.Threads.{TR, against_alike}
use Rattle.model.proofs.Confidential.Threads.TR.{same, apart}

pub record Alike (v : View) (s t : State) : Type 0 where
  pub agree : Agree v s t
  pub long : length s.threads ≡ length t.threads
  pub threads : (i : ℕ) → TR v (get_or s.threads i ended) (get_or t.threads i ended)

abbrev pub Safe : View → State → Type 0
Safe v s = Sound v s.cells s.threads

module _ (v : View) where
  pub alike_thread : {s t : State} (i : ℕ) (a b : Thread) → Alike v s t → TR v a b → Alike v (set_thread s i a) (set_thread t i b)
  alike_thread {s} {t} i a b h r = record {
    agree = record {
      cells_long = h.agree.cells_long;
      cells = h.agree.cells;
      tracks_long = h.agree.tracks_long;
      tracks = h.agree.tracks;
      channels_long = h.agree.channels_long;
      channels = h.agree.channels;
      turns = h.agree.turns;
    };
    long = length-set s.threads i a ∙ h.long ∙ sym (length-set t.threads i b);
    threads = λ j. set_rel (TR v) s.threads t.threads i j a b ended ended h.long (h.threads j) (λ _. r);
  }

  -- Changes on either side that are not seen, with the threads as they were.
  pub alike_around : {s t s' t' : State} → Alike v s t → Agree v s s' → Agree v t t' → s'.threads ≡ s.threads → t'.threads ≡ t.threads → Alike v s' t'
  alike_around {s} {t} {s'} {t'} h p q e f = record {
    agree = agree_trans v (agree_sym v p) (agree_trans v h.agree q);
    long = ap length e ∙ h.long ∙ ap length (sym f);
    threads = λ i. rw (e, f) (h.threads i);
  }

  module _ (s t : State) (h : Alike v s t) (hs : Safe v s) (ht : Safe v t) where
    abbrev lev : State → Expr → ℕ
    lev = level_of v.k v.sc

    abbrev val : State → Expr → ℤ
    val = value_of v.k v.sc

    pub looks : (e : Expr) → Ex v (lev s e) (lev t e) (val s e) (val t e)
    looks e = ex v s t hs.cells ht.cells h.agree e

    pub branch_level : (os : List Open) (e : Expr) → HadStack v os → LR v (v.k.join (context os) (lev s e)) (v.k.join (context os) (lev t e))
    branch_level os e g = lr_join v (lr_same v (context_had v os g)) (looks e).levels

    barring : (i : ℕ) → against i s.threads ≡ against i t.threads
    barring i = against_alike v i s.threads t.threads h.long h.threads

    status-alike-at : (i : ℕ) (c : Code) (r : Pace) (os : List Open) → HadStack v os → status_at v.k v.sc s i c r os ≡ status_at v.k v.sc t i c r os
    status-alike-at i c (idling n) os g = refl
    status-alike-at i done running [] g = refl
    status-alike-at i done running (o ∷ os) g = refl
    status-alike-at i (skip c) running os g = refl
    status-alike-at i (assign x e c) running os g = refl
    status-alike-at i (put n e c) running os g = refl
    status-alike-at i (branch e p q c) running os g =
        ap₂ (λ (b : Bool) (m : ℕ). chosen_status (not (fixed_time p && fixed_time q) && not b) ((is_open (context os) && not b) && clash (bit_or (needs p) (needs q)) m))
        (lr_open v (branch_level os e g)) (barring i)
    status-alike-at i (loop e b c) running os g = ap (λ (z : Bool). chosen_status (not z) false) (lr_open v (looks e).levels)
    status-alike-at i (lock m e b c) running os g = ⊎_elim opens shut (either_way (is_open (lev s e)))
      where
        opens : T (is_open (lev s e)) → status_at v.k v.sc s i (lock m e b c) running os ≡ status_at v.k v.sc t i (lock m e b c) running os
        opens z = cc (lr_open v (looks e).levels, (looks e).values (seen_open v (lev s e) z), barring i)

        shut : (T (is_open (lev s e)) → ⊥) → status_at v.k v.sc s i (lock m e b c) running os ≡ status_at v.k v.sc t i (lock m e b c) running os
        shut z = let e1 = T_false (is_open (lev s e)) z in rw (e1, sym (lr_open v (looks e).levels) ∙ e1) refl

    pub status_alike : (i : ℕ) → status v.k v.sc s i ≡ status v.k v.sc t i
    status_alike i = go (get_or s.threads i ended) (get_or t.threads i ended) (hs.guards i).had (h.threads i)
      where
        go : (a b : Thread) → HadStack v a.inside → TR v a b → status_at v.k v.sc s i a.code a.pace a.inside ≡ status_at v.k v.sc t i b.code b.pace b.inside
        go a b g (same e f) = status-alike-at i a.code a.pace a.inside g ∙ ap (λ (z : Thread). status_at v.k v.sc t i z.code z.pace z.inside) e
        go a b g (apart y n l l' w w' x x' m f q q') = quiet_ready v s i x q ∙ sym (quiet_ready v t i x' q')

    from-alike : (f : Status → Bool) (i : ℕ) (ts us : List Thread) → length ts ≡ length us
        → each_from (λ j. f (status v.k v.sc s j)) i ts ≡ each_from (λ j. f (status v.k v.sc t j)) i us
    from-alike f i [] [] n = refl
    from-alike f i [] (u ∷ us) n = absurd (omega arith)
    from-alike f i (a ∷ ts) [] n = absurd (omega arith)
    from-alike f i (a ∷ ts) (u ∷ us) n = ap₂ {B = List Bool} {C = List Bool} ◌∷◌ (ap f (status_alike i)) (from-alike f (suc i) ts us (omega arith))

    pub ready_alike : ready_set (rules v.k v.sc) s ≡ ready_set (rules v.k v.sc) t
    ready_alike = from-alike status_is_ready 0 s.threads t.threads h.long

    pub finished_alike : all_finished (rules v.k v.sc) s ≡ all_finished (rules v.k v.sc) t
    finished_alike = ap all_true (from-alike status_is_finished 0 s.threads t.threads h.long)
