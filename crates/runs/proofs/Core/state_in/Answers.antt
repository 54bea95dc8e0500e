use Rattle.std.proofs.Common.{◌≡◌, ◌≤◌, length, sym, rules}
use Rattle.runs.specs.Memory.{memory}
use Rattle.runs.proofs.Found.{fit_told, long_from, none_other}
use Rattle.runs.proofs.Core.state_in.Goals as goal

pub returns-then-not-declares : goal.returns-then-not-declares
returns-then-not-declares g c =
    let tracks : length c.args.self.now.tracks ≡ 8 = search rules in
    let channels : length c.args.self.now.channels ≡ 8 = search rules in
    none_other g.K.Lattice.kind g.K.Lattice.order g.met.K.Lattice.lawful (memory c.args.self.now c.args.script.now c.args.samples.now c.args.entries.now c.args.marks.now) c.in_ok-declared.declared c.in_ok-declared.ensures
    tracks channels (sym c.if-not-declares.ensures)

pub fits-requires : goal.fits-requires
fits-requires g c =
    let m = memory c.args.self.now c.args.script.now c.args.samples.now c.args.entries.now c.args.marks.now in
    record { room = (long_from m (sym c.if-not-long_enough.ensures)).marks }

pub returns : goal.returns
returns g c =
    let m = memory c.args.self.now c.args.script.now c.args.samples.now c.args.entries.now c.args.marks.now in
    let tracks : length c.args.self.now.tracks ≡ 8 = search rules in
    let channels : length c.args.self.now.channels ≡ 8 = search rules in
    let long : 512 ≤ length c.tabulate.new.table = search rules in
    rw c.then_some.ensures
    (fit_told g.K.Lattice.kind g.K.Lattice.order g.met.K.Lattice.lawful m c.in_ok-declared.declared c.in_ok-declared.ensures
    tracks channels c.tabulate.new.table c.tabulate.ensures long c.fits.result c.fits.ensures c.requires.coded _ (search rules) (sym c.if-not-declares.ensures) (long_from m (sym c.if-not-long_enough.ensures)))
