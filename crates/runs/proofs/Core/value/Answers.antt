use Rattle.std.proofs.Common.{◌≡◌, T, length, pos, sym, ap, ◌∙◌, subst, arith, w32, rules}
use Rattle.std.proofs.lemmas.Int.{to_z-of_z}
use Rattle.codec.specs.Expressions.{Expr}
use Rattle.codec.specs.Operations.{left}
use Rattle.codec.specs.Sound.{declared, leaves_one}
use Rattle.model.specs.Values.{eval, top}
use Rattle.runs.specs.declared.stack.Stack.{Stack}
use Rattle.runs.specs.Operations.{numbers_from}
use Rattle.runs.specs.Flat.{cells_of, tracks_of, head_of_core}
use Rattle.runs.proofs.Levels.{named_first}
use Rattle.runs.proofs.Stacks.{room_first, eval_more, one_left, top_is}
use Rattle.runs.proofs.Core.value.Goals as goal

pub apply-numbers-requires : goal.apply-numbers-requires
apply-numbers-requires c =
    let h = head_of_core c.args.self.now in
    let n = c.loop-op.numbers.held in
    let o = c.in-Some.op in
    let e = left c.next.new.self in
    let more = c.in-Some.ensures.steps in
    let D : Expr → Type 0 = λ z. T (declared h z) in
    let L : Expr → Type 0 = λ z. T (leaves_one n z) in
    let r = room_first o e n c.loop-op.invariant.2 (subst L more c.loop-op.invariant.1) in
    record {
      tracks = c.requires.tracks;
      named = (named_first h o e (subst D more c.loop-op.invariant.0)).0;
      held = (r.few, r.room);
      room = (c.loop-op.invariant.2, c.loop-op.invariant.3);
    }

pub loop-op-preserved : goal.loop-op-preserved
loop-op-preserved c =
    let s = c.args.self.now in
    let n = c.loop-op.numbers.held in
    let b = c.loop-op.numbers.base in
    let w = c.loop-op.work in
    let o = c.in-Some.op in
    let e = left c.next.new.self in
    let cells = cells_of s in
    let tracks = tracks_of s c.args.samples.now in
    let more = c.in-Some.ensures.steps in
    let D : Expr → Type 0 = λ z. T (declared (head_of_core s) z) in
    let L : Expr → Type 0 = λ z. T (leaves_one n z) in
    let N : Stack → Type 0 = λ z. T (leaves_one z.held e) in
    let r = room_first o e n c.loop-op.invariant.2 (subst L more c.loop-op.invariant.1) in
    let numbers = c.apply-numbers.ensures.numbers in
    let base : c.apply-numbers.result.base ≡ b = ap (λ (z : Stack). z.base) numbers in
    let held = ap (λ (z : Stack). z.held) numbers in
    let work = c.apply-numbers.ensures.work in
    let long : length w ≡ 16 = search rules in
    let zero = c.loop-op.invariant.3 in (
      (named_first (head_of_core s) o e (subst D more c.loop-op.invariant.0)).1,
      subst N (sym numbers) r.later,
      (let room = r.room in omega arith),
      base ∙ zero,
      (λ j. eval cells tracks e (numbers_from (numbers j).base (numbers j).held (work j)))
          ∙ eval_more cells tracks b o e n w r.few r.room (omega arith)
          ∙ ap (λ (z : Expr). eval cells tracks z (numbers_from b n w)) (sym more) ∙ c.loop-op.invariant.4,
    )

pub item-requires : goal.item-requires
item-requires c =
    let n = c.loop-op.numbers.held in
    let L : Expr → Type 0 = λ z. T (leaves_one n z) in
    let one = one_left n (subst L (c.in-None.ensures.steps.0) c.loop-op.invariant.1) in
    let room = c.loop-op.invariant.3 in
    (omega arith, (omega arith, omega arith))

pub returns : goal.returns
returns c =
    let s = c.args.self.now in
    let n = c.loop-op.numbers.held in
    let b = c.loop-op.numbers.base in
    let w = c.loop-op.work in
    let none = c.in-None.ensures.steps.0 in
    let L : Expr → Type 0 = λ z. T (leaves_one n z) in
    let one = one_left n (subst L none c.loop-op.invariant.1) in
    to_z-of_z w32 c.item.result (record { sfits = c.item.type_inv })
    ∙ c.item.ensures (pos 0)
    ∙ top_is b n w one
    ∙ ap (λ (z : Expr). top (eval (cells_of s) (tracks_of s c.args.samples.now) z (numbers_from b n w))) (sym none)
    ∙ ap top c.loop-op.invariant.4
