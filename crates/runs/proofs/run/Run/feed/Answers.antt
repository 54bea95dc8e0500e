use Rattle.std.proofs.Common.{Err, Result, subst, ◌≡◌, ◌<◌, length, refl, ap, arith, w32, rules}
use Rattle.std.proofs.lemmas.Int.{to_z-of_z}
use Rattle.script.specs.declared.faults.RunFault.{RunFault}
use Rattle.runs.specs.Calls.{Feeds}
use Rattle.runs.specs.declared.Port.{Port}
use Rattle.runs.proofs.Feeding.{counted, fed_beyond, fed_found, fed_missing, held_same, laid_same, room_kept, size_in, slot_in}
use Rattle.runs.proofs.run.Run.feed.Goals as goal

pub returns-in_err-port : goal.returns-in_err-port
returns-in_err-port g c =
    let run = c.args.self.now in
    let fault : ◌≡◌ {A = Result _ RunFault} (Err c.in_err-port.field-0.0) c.from_residual.result = search rules in
    subst (Feeds g.K.Lattice.kind g.K.Lattice.order g.S.Scheduler.meaning c.args.track c.args.sample run.core run.scheduler c.args.samples.now run.core run.scheduler c.args.samples.now) fault (fed_missing _ _ _ c.args.track c.args.sample run.core _ _ refl c.args.samples.now _ c.in_err-port.ensures)

pub returns-then-port : goal.returns-then-port
returns-then-port g c =
    let run = c.args.self.now in
    let tracks : length run.core.tracks ≡ 8 = search rules in
    let few = run.core.few.2 in
    fed_beyond _ _ _ c.args.track c.args.sample run.core _ _ refl c.args.samples.now _ c.in_ok-port.ensures (omega arith) run.tracks run.fed c.if-port.true

-- The sample's slot lies in what the tracks hold together, which is at most 2048.
pub overflow_add-sample : goal.overflow_add-sample
overflow_add-sample g c =
    let run = c.args.self.now in
    let small = run.small.0 in
    let inside = slot_in _ _ _ _ _ c.in_ok-port.ensures run.tracks _ c.if-port.false in
    record { fits = omega arith }

pub offset_bounds-samples-port : goal.offset_bounds-samples-port
offset_bounds-samples-port g c =
    let run = c.args.self.now in
    let small = run.small.0 in
    let inside = slot_in _ _ _ _ _ c.in_ok-port.ensures run.tracks _ c.if-port.false in
    record { fits = omega arith }

pub bounds-samples-port : goal.bounds-samples-port
bounds-samples-port g c =
    let inside = slot_in _ _ _ _ _ c.in_ok-port.ensures c.args.self.now.tracks _ c.if-port.false in
    let enough = c.in_ok-port.ensures.enough in
    omega arith

-- The tracks lie as they did, and the one that was fed holds no more than its part.
pub invariant_of-self : goal.invariant_of-self
invariant_of-self g c =
    let run = c.args.self.now in
    let tracks : length run.core.tracks ≡ 8 = search rules in
    let few = run.core.few.2 in
    let below = c.in_ok-port.ensures.below in
    let within : c.args.track < length run.core.tracks = omega arith in
    let q = counted run.core c.args.track c.in_ok-port.port.count in
    let same = room_kept run.core.tracks c.args.track q within refl run.core.head.tracks in
    let small = run.small.0 in
    let free = c.if-port.false in
    let size = ap (λ (p : Port). p.size) c.in_ok-port.ensures.is in (
      tt,
      (run.core.few, tt),
      (
        (omega arith, run.small.1, run.small.2),
        (
          laid_same run.core.tracks c.args.track q within refl refl run.core.head.tracks run.tracks,
          (
            held_same run.core.tracks c.args.track q within (omega arith) run.core.head.tracks run.fed,
            (run.channels, (run.put, (run.missed, (run.coded, tt)))),
          ),
        ),
      ),
    )

pub overflow_cast-result : goal.overflow_cast-result
overflow_cast-result g c =
    let run = c.args.self.now in
    let part = size_in _ _ _ _ _ c.in_ok-port.ensures run.tracks in
    let small = run.small.0 in
    let free = c.if-port.false in
    record { fits = omega arith }

pub returns : goal.returns
returns g c =
    let run = c.args.self.now in
    let tracks : length run.core.tracks ≡ 8 = search rules in
    let few = run.core.few.2 in
    fed_found _ _ _ c.args.track c.args.sample run.core _ _ refl c.args.samples.now _ c.in_ok-port.ensures (omega arith) run.tracks run.fed c.if-port.false _ _ (to_z-of_z w32 c.args.sample (search rules))
