use Rattle.std.proofs.Common.{true, false, rules}
use Rattle.survey.proofs.Literals.{read_alone}
use Rattle.survey.proofs.literal_one.Goals as goal

pub returns-in-Some-Constant-eq1-empty : goal.returns-in-Some-Constant-eq1-empty
returns-in-Some-Constant-eq1-empty c = read_alone c.args.code.now c.first_op.result true c.first_op.ensures (search rules)

pub returns-in_default : goal.returns-in_default
returns-in_default c = read_alone c.args.code.now c.first_op.result false c.first_op.ensures (search rules)

pub returns-in_default-4 : goal.returns-in_default-4
returns-in_default-4 c = read_alone c.args.code.now c.first_op.result false c.first_op.ensures (search rules)
