use Rattle.std.proofs.Common.{get_or, drop, refl, sym, ap, ◌∙◌, w32, rules}
use Rattle.std.proofs.lemmas.Int.{to_z-of_z}
use Rattle.codec.specs.Expressions.Op.{constant, variable, sample, held}
use Rattle.codec.specs.Expressions.{operation, takes}
use Rattle.codec.specs.Operations.{op_of}
use Rattle.codec.proofs.Postfix.{first_is, none_is, constant_is, operand_is, plain_is, cut_is}
use Rattle.codec.proofs.expressions.first_op.Goals as goal

pub returns-in-1 : goal.returns-in-1
returns-in-1 c =
    let z = to_z-of_z w32 c.from_be_bytes.result (record { sfits = c.from_be_bytes.type_inv }) ∙ c.from_be_bytes.ensures in
    first_is c.args.code.now _ 4 (search rules) (constant_is c.args.code.now (search rules) (search rules) ∙ ap (λ n. takes (constant n) 4) (sym z))

pub returns-in-2 : goal.returns-in-2
unfolding operation
returns-in-2 c = first_is c.args.code.now _ 1 (search rules) (operand_is variable 2 c.args.code.now (λ bs. refl) (search rules) (search rules))

pub returns-in-3 : goal.returns-in-3
unfolding operation
returns-in-3 c = first_is c.args.code.now _ 1 (search rules) (operand_is sample 3 c.args.code.now (λ bs. refl) (search rules) (search rules))

pub returns-in-4 : goal.returns-in-4
unfolding operation
returns-in-4 c = first_is c.args.code.now _ 1 (search rules) (operand_is held 4 c.args.code.now (λ bs. refl) (search rules) (search rules))

pub returns-in_ok-plain_op-in-len1-up : goal.returns-in_ok-plain_op-in-len1-up
returns-in_ok-plain_op-in-len1-up c =
    let o = op_of c.in_ok-plain_op-in-len1-up.field-0 in
    first_is c.args.code.now o 0 (search rules) (plain_is (get_or c.args.code.now 0 0) (drop 1 c.args.code.now) o c.in_ok-plain_op-in-len1-up.ensures)

pub returns-in_err-plain_op-in-len1-up : goal.returns-in_err-plain_op-in-len1-up
returns-in_err-plain_op-in-len1-up c =
    rw c.from_residual.ensures
    (λ h. none_is c.args.code.now h (cut_is c.args.code.now c.in_err-plain_op-in-len1-up.ensures (λ k l. search rules) (λ k l. search rules) (λ k l. search rules) (λ k l. search rules)))
