-- The worked examples, by computation.
use Rattle.std.proofs.Common.{refl}
use Rattle.std.specs.Int.{int_wrap}
use Rattle.model.specs.Values.{apply_binary}
use Rattle.model.specs.Machine.{step_at, do_put}
use Rattle.model.specs.Examples.{Examples}

pub examples : Examples
unfolding apply_binary step_at do_put int_wrap
examples = record {
  toward_zero = refl;
  by_nought = refl;
  if_lasts = λ e p q hp hq. rw (hp, hq) refl;
  with_lasts = λ m e p q hp hq. rw (hp, hq) refl;
  marks = λ sc s i h e c os a b d. rw (a, b, d) refl;
  leaves_out = λ sc s i h e c os a d. rw (a, d) refl;
  joins = refl;
  flows_not = refl;
}
