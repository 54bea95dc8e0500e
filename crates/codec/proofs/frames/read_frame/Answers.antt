use Rattle.std.proofs.Common.{refl, rules}
use Rattle.std.proofs.lemmas.List.{take_rest}
use Rattle.codec.proofs.FrameKinds.{via, missed}
use Rattle.codec.proofs.frames.read_frame.Goals as goal

pub returns-in-1 : goal.returns-in-1
returns-in-1 c = via _ c.args.bytes.now (search rules)

pub returns-in-2 : goal.returns-in-2
returns-in-2 c = via _ c.args.bytes.now (search rules)

pub returns-in-3 : goal.returns-in-3
returns-in-3 c = via _ c.args.bytes.now (search rules)

pub returns-in-32 : goal.returns-in-32
returns-in-32 c = via _ c.args.bytes.now (search rules)

pub returns-in-33 : goal.returns-in-33
returns-in-33 c = via _ c.args.bytes.now (search rules)

pub returns-in-48 : goal.returns-in-48
returns-in-48 c = via _ c.args.bytes.now (search rules)

pub returns-in-49 : goal.returns-in-49
returns-in-49 c = via _ c.args.bytes.now (rw take_rest (search rules))

pub returns-in-50 : goal.returns-in-50
returns-in-50 c = via _ c.args.bytes.now (rw take_rest (search rules))

pub returns-in-64 : goal.returns-in-64
returns-in-64 c = via _ c.args.bytes.now (rw take_rest (search rules))

pub returns-in-65 : goal.returns-in-65
returns-in-65 c = via _ c.args.bytes.now (search rules)

pub returns-in-66 : goal.returns-in-66
returns-in-66 c = via _ c.args.bytes.now (search rules)

pub returns-in-67 : goal.returns-in-67
returns-in-67 c = via _ c.args.bytes.now (rw take_rest (search rules))

pub returns-in-68 : goal.returns-in-68
returns-in-68 c = via _ c.args.bytes.now (search rules)

pub returns-in-69 : goal.returns-in-69
returns-in-69 c = via _ c.args.bytes.now (rw take_rest (search rules))

pub returns-in-70 : goal.returns-in-70
returns-in-70 c = via _ c.args.bytes.now (search rules)

pub returns-in-127 : goal.returns-in-127
returns-in-127 c = via _ c.args.bytes.now (search rules)

pub returns-in_default : goal.returns-in_default
returns-in_default c =
    missed _ c.args.bytes.now refl (record {
      not_1 = λ z n. search rules;
      not_2 = λ z n. search rules;
      not_3 = λ z n. search rules;
      not_32 = λ z n. search rules;
      not_33 = λ z n. search rules;
      not_48 = λ z n. search rules;
      not_49 = λ z n f. search rules;
      not_50 = λ z n f. search rules;
      not_64 = λ z n f. search rules;
      not_65 = λ z n. search rules;
      not_66 = λ z n. search rules;
      not_67 = λ z n f. search rules;
      not_68 = λ z n. search rules;
      not_69 = λ z n f. search rules;
      not_70 = λ z n. search rules;
      not_127 = λ z n. search rules;
    })
