use Rattle.std.proofs.Common.{get_or, ℤ, sym, ap, ◌∙◌, subst, w32, SFits, rules}
use Rattle.std.proofs.lemmas.Int.{to_z-of_z}
use Rattle.codec.specs.declared.expressions.Op.{Op}
use Rattle.runs.specs.Operations.{Named}
use Rattle.runs.specs.Flat.{nil_cell, made_at}
use Rattle.runs.proofs.Readings.{cell_value_at, held_is}
use Rattle.runs.proofs.Core.made.Goals as goal

pub returns-in-Variable : goal.returns-in-Variable
returns-in-Variable c =
    let s = c.args.self.now in
    let x = c.in-Variable.x in
    let P : Op → Type 0 = Named s.head.variables s.head.tracks in
    let value : ℤ = (get_or s.cells x nil_cell).value in
    let fits : SFits w32 value = search rules in
    to_z-of_z w32 value fits ∙ cell_value_at s x (subst P c.in-Variable.is c.requires.named)
    ∙ ap (λ (o : Op). made_at s c.args.samples.now o c.args.numbers c.args.work.now) (sym c.in-Variable.is)

pub returns-in-Held : goal.returns-in-Held
returns-in-Held c =
    let s = c.args.self.now in
    let t = c.in-Held.t in
    let P : Op → Type 0 = Named s.head.variables s.head.tracks in
    let lt = subst P c.in-Held.is c.requires.named in
    held_is s c.args.samples.now t lt (c.requires.tracks t lt).0 (c.requires.tracks t lt).1
    ∙ ap (λ (o : Op). made_at s c.args.samples.now o c.args.numbers c.args.work.now) (sym c.in-Held.is)
