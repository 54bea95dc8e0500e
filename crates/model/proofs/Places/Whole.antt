-- All threads of a run together.
use Rattle.std.proofs.Common.{◌≡◌, ℕ, zero, suc, ◌<◌, false, T, eqb, List, [], ◌∷◌, length, get_or, sym, refl, ap, ◌∙◌, subst, arith, eqb→eq}
use lib.Dec.{eqb_refl}
use Rattle.lattice.specs.Levels.{Levels}
use Rattle.script.specs.Code.{Script}
use Rattle.codec.specs.Frames.{Frame}
use Rattle.script.specs.Trees.{script_frames, head_of, ValidScript}
use Rattle.model.specs.Threads.{Thread, ended}
use Rattle.model.specs.Places.{ValidThread}
use Rattle.model.specs.Fitting.{Account, thread_fits, all_fit, Accounts, AllAccounts, behind_thread}
use Rattle.model.proofs.Tests.{and_left, and_right, both, by_test}
use Rattle.model.proofs.Places.Accounted.{account_fits, rebuilt, one_thread}

module _ (k : Levels) (fs : List Frame) (f : ℕ → Account) where
  all_of : (n : ℕ) → ((i : ℕ) → i < n → T (thread_fits k fs i (f i))) → T (all_fit k fs f n)
  unfolding all_fit
  all_of zero h = tt
  all_of (suc n) h = both (all_fit k fs f n) (thread_fits k fs n (f n)) (all_of n (λ i l. h i (omega (arith, l)))) (h n (omega arith))

  each_of : (n : ℕ) → T (all_fit k fs f n) → (i : ℕ) → i < n → T (thread_fits k fs i (f i))
  unfolding all_fit
  each_of zero t i l = absurd (omega arith)
  each_of (suc n) t i l = by_test (eqb i n) same (other (each_of n (and_left (all_fit k fs f n) (thread_fits k fs n (f n)) t) i))
    where
      same : T (eqb i n) → T (thread_fits k fs i (f i))
      same e = subst (λ (j : ℕ). T (thread_fits k fs j (f j))) (sym (eqb→eq i n e)) (and_right (all_fit k fs f n) (thread_fits k fs n (f n)) t)

      other : (i < n → T (thread_fits k fs i (f i))) → eqb i n ≡ false → T (thread_fits k fs i (f i))
      other earlier e =
          let ne : i ≡ n → ⊥ = λ (p : i ≡ n). subst T e (subst (λ (x : ℕ). T (eqb i x)) p (eqb_refl i)) in
          earlier (omega (arith, ne))

-- Threads one by one are a list of threads.
record Gathered (m : ℕ) (P : ℕ → Thread → Type 0) : Type 0 where
  threads : List Thread
  long : length threads ≡ m
  each : (x : ℕ) → x < m → P x (get_or threads x ended)

gather : (m : ℕ) (P : ℕ → Thread → Type 0) → ((x : ℕ) → x < m → (t : Thread) × P x t) → Gathered m P
gather zero P f = record { threads = []; long = refl; each = λ x l. absurd (omega (arith, l)) }
gather (suc m) P f = with_first (f 0 (omega arith)) (gather m (λ x. P (suc x)) (λ x l. f (suc x) (omega (arith, l))))
  where
    with_first : (t : Thread) × P 0 t → Gathered m (λ x. P (suc x)) → Gathered (suc m) P
    with_first t g = record { threads = t.0 ∷ g.threads; long = ap suc g.long; each = at }
      where
        at : (x : ℕ) → x < suc m → P x (get_or (t.0 ∷ g.threads) x ended)
        at zero l = t.1
        at (suc x) l = g.each x (omega (arith, l))

same_threads : (ts us : List Thread) → length ts ≡ length us → ((i : ℕ) → i < length ts → get_or ts i ended ≡ get_or us i ended) → ts ≡ us
same_threads [] [] e h = refl
same_threads [] (u ∷ us) e h = absurd (omega arith)
same_threads (t ∷ ts) [] e h = absurd (omega arith)
same_threads (t ∷ ts) (u ∷ us) e h =
    let a : t ≡ u = h 0 (omega arith) in
    let b = same_threads ts us (omega arith) (λ i l. h (suc i) (omega (arith, l))) in
    λ j. a j ∷ b j

pub all_fits : (k : Levels) (sc : Script) (f : ℕ → Account) (ts : List Thread) → AllAccounts k sc f ts → T (all_fit k (script_frames sc) f (length sc.codes))
all_fits k sc f ts h = all_of k (script_frames sc) f (length sc.codes) (λ i l. account_fits k sc i l (f i) (get_or ts i ended) (h.each i l))

pub all_rebuilt : (kind : ℕ) (k : Levels) (sc : Script) → ValidScript kind k sc → (f : ℕ → Account) → T (all_fit k (script_frames sc) f (length sc.codes)) →
    (ts : List Thread) × AllAccounts k sc f ts × ((i : ℕ) → i < length sc.codes → ValidThread (head_of sc) (get_or ts i ended))
all_rebuilt kind k sc v f fit =
    let fs = script_frames sc in
    let g = gather (length sc.codes) (λ i t. Accounts k fs (behind_thread sc i) (f i) t × ValidThread (head_of sc) t)
    (λ i l. let t = rebuilt kind k sc v i l (f i) (each_of k fs f (length sc.codes) fit i l) in (t.0, (t.1, t.2))) in
    (g.threads, record { long = g.long; each = λ i l. (g.each i l).0 }, λ i l. (g.each i l).1)

pub all_one : (k : Levels) (sc : Script) (f : ℕ → Account) (ts us : List Thread) → AllAccounts k sc f ts → AllAccounts k sc f us → ts ≡ us
all_one k sc f ts us h g =
    same_threads ts us (h.long ∙ sym g.long)
    (λ i l. let n : i < length sc.codes = omega (arith, l, h.long) in (one_thread k (script_frames sc) _ _ (f i) (get_or ts i ended) (get_or us i ended) (h.each i n) (g.each i n)).0)
