use Rattle.std.proofs.Common.{◌≡◌, ◌&&◌, [], ◌∷◌, refl, ap, ◌∙◌, rules}
use Rattle.std.specs.List.{list_all}
use Rattle.std.proofs.lemmas.Iterator.Consumers.{YieldsList-from_first}
use Rattle.std.proofs.lemmas.Iterator.Search.{all_from_yields_List}
use borrow.Author.Tests.{tests}
use Rattle.codec.specs.Expressions.{Expr, decode}
use Rattle.codec.specs.Frames.{Head}
use Rattle.codec.specs.Operations.{left, op_of}
use Rattle.codec.specs.Shapes.{head_of}
use Rattle.codec.specs.Sound.{declared, op_declared}
use Rattle.codec.proofs.expressions.names_declared.Goals as goal

declared_is : (h : Head) (e : Expr) → list_all (op_declared h) e ≡ declared h e
declared_is h [] = refl
declared_is h (o ∷ e) = ap (λ t. op_declared h o && t) (declared_is h e)

pub returns : goal.returns
returns c =
    all_from_yields_List (op_declared (head_of c.args.head.now)) c.all.new.self _ c.all.result c.all.ensures.ran
    (YieldsList-from_first op_of left (decode 0 c.args.code.now).ops c.new.ensures)
    (λ x b q k. search (rules, tests))
    ∙ declared_is (head_of c.args.head.now) (decode 0 c.args.code.now).ops
