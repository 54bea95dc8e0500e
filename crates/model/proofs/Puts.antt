-- A put touches neither threads nor variables.
use Rattle.std.proofs.Common.{◌≡◌, ℕ, Bool, true, false, cond, List, get_or, refl}
use Rattle.lattice.specs.Levels.{Levels}
use Rattle.codec.specs.Expressions.{Expr}
use Rattle.script.specs.Code.{Script}
use Rattle.model.specs.Threads.{Open, context}
use Rattle.model.specs.Machine.{Channel, State, set_channel, do_put}

module _ (k : Levels) (sc : Script) (s : State) (i h : ℕ) (e : Expr) (os : List Open) where
  pub put_threads : (do_put k sc s i h e os).threads ≡ s.threads
  unfolding do_put
  put_threads = go (k.flows (context os) (get_or sc.channel_levels h 0)) _
    where
      go : (b : Bool) (ch : Channel) → (cond b (set_channel s h ch) s).threads ≡ s.threads
      go true ch = refl
      go false ch = refl

  pub put_cells : (do_put k sc s i h e os).cells ≡ s.cells
  unfolding do_put
  put_cells = go (k.flows (context os) (get_or sc.channel_levels h 0)) _
    where
      go : (b : Bool) (ch : Channel) → (cond b (set_channel s h ch) s).cells ≡ s.cells
      go true ch = refl
      go false ch = refl
