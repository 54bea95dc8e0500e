-- Locks stay within what is reserved as a thread goes into blocks and out of them.
use Rattle.std.proofs.Common.{ℕ, zero, suc, Bool, true, false, cond, not, ◌&&◌, T, List, ◌∷◌}
use lib.Bits.{bit_or}
use Rattle.model.specs.Levels.{is_open}
use Rattle.codec.specs.Expressions.{Expr}
use Rattle.script.specs.Code.{Code}
use Rattle.model.specs.Stretches.{needs}
use Rattle.script.specs.Code.Code.{done, skip, assign, put, branch, loop, lock}
use Rattle.model.specs.Threads.{Open, context, reserved}
use Rattle.model.specs.Machine.{close_branch}
use Rattle.model.specs.Threads.Open.{in_branch, in_loop, in_lock}
use Rattle.model.proofs.Confidential.Masks.{Lies, lies_zero, lies_trans, lies_left, lies_right}
use Rattle.model.proofs.Confidential.Threads.{Fit, FitIn, Fits, FitMask}

fit_part : {c d : Code} {os : List Open} → Lies (needs d) (needs c) → Fit c os → Fit d os
fit_part i h = record { is = λ n. lies_trans i (h.is n) }

fit_done : (os : List Open) → Fit done os
fit_done os = record { is = λ n. lies_zero (reserved os) }

pub fits_done : {os : List Open} → FitIn os → Fits done os
fits_done {os} h = record { fit = fit_done os; deep = h }

pub fits_skip : (c : Code) {os : List Open} → Fits (skip c) os → Fits c os
fits_skip c h = record { fit = record { is = h.fit.is }; deep = h.deep }

pub fits_assign : (x : ℕ) (e : Expr) (c : Code) {os : List Open} → Fits (assign x e c) os → Fits c os
fits_assign x e c h = record { fit = record { is = h.fit.is }; deep = h.deep }

pub fits_put : (x : ℕ) (e : Expr) (c : Code) {os : List Open} → Fits (put x e c) os → Fits c os
fits_put x e c h = record { fit = record { is = h.fit.is }; deep = h.deep }

pub fits_close : (n : ℕ) (l : ℕ) (w : Bool) (p q c : Code) (os : List Open) → FitIn (in_branch l w p q c ∷ os)
    → Fits (close_branch n (in_branch l w p q c) os c).code (close_branch n (in_branch l w p q c) os c).inside
fits_close zero l w p q c os h = record { fit = h.0; deep = h.1 }
fits_close (suc n) l w p q c os h = fits_done h

pub fits_loop_out : (e : Expr) (b c : Code) {os : List Open} → Fits (loop e b c) os → Fits c os
fits_loop_out e b c h = record { fit = fit_part (lies_right (needs b) (needs c)) h.fit; deep = h.deep }

pub fits_loop_in : (e : Expr) (b c : Code) {os : List Open} → Fits (loop e b c) os → Fits b (in_loop e b c ∷ os)
fits_loop_in e b c h = record { fit = record { is = λ n. lies_trans (lies_left (needs b) (needs c)) (h.fit.is n) }; deep = (h.fit, h.deep) }

pub fits_lock : (m : ℕ) (e : Expr) (b c : Code) {os : List Open} → Fits (lock m e b c) os → Fits b (in_lock m c ∷ os)
fits_lock m e b c h = record {
  fit = record { is = λ n. lies_trans (lies_trans (lies_right m (needs b)) (lies_left (bit_or m (needs b)) (needs c))) (h.fit.is n) };
  deep = (fit_part (lies_right (bit_or m (needs b)) (needs c)) h.fit, h.deep);
}

pub fits_next : (e : Expr) (p q c : Code) {os : List Open} → Fits (branch e p q c) os → Fits c os
fits_next e p q c h = record { fit = fit_part (lies_right (bit_or (needs p) (needs q)) (needs c)) h.fit; deep = h.deep }

pub fits_mask : (e : Expr) (p q c : Code) (os : List Open) → Fits (branch e p q c) os → FitMask (record { p = p; q = q; next = c; rest = os })
fits_mask e p q c os h = record { is = λ n. lies_trans (lies_left (bit_or (needs p) (needs q)) (needs c)) (h.fit.is n) }

one_lies : (w : Bool) (p q : Code) → Lies (needs (cond w p q)) (bit_or (needs p) (needs q))
one_lies true p q = lies_left (needs p) (needs q)
one_lies false p q = lies_right (needs p) (needs q)

pub fits_branch : (e : Expr) (l : ℕ) (w : Bool) (p q c : Code) {os : List Open} → Fits (branch e p q c) os → Fits (cond w p q) (in_branch l w p q c ∷ os)
fits_branch e l w p q c {os} h = record {
  fit = record { is = λ n. lies_trans (one_lies w p q) (go (is_open (context os)) (is_open l) n (λ z. lies_trans (lies_left (bit_or (needs p) (needs q)) (needs c)) (h.fit.is z))) };
  deep = ((fits_next e p q c h).fit, h.deep);
}
  where
    go : (a b : Bool) → (T b → ⊥) → ((T a → ⊥) → Lies (bit_or (needs p) (needs q)) (reserved os)) → Lies (bit_or (needs p) (needs q)) (bit_or (cond (a && not b) (bit_or (needs p) (needs q)) 0) (reserved os))
    go true true n f = absurd (n tt)
    go true false n f = lies_left (bit_or (needs p) (needs q)) (reserved os)
    go false b n f = f (λ t. t)
