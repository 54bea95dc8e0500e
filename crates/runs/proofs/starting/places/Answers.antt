use Rattle.std.proofs.Common.{ℕ, ◌<◌, length, sym, ◌∙◌, subst, add-one, arith, length-set, length-take}
use Rattle.runs.specs.Starting.{BeginsAt}
use Rattle.runs.proofs.Begun.{begins_next, places_front, places_more}
use Rattle.runs.proofs.starting.places.Goals as goal

pub loop-place-preserved : goal.loop-place-preserved
loop-place-preserved c =
    let was = c.loop-place.invariant in
    let long = was.0 in
    let i = c.loop-place.place-index in
    let within : i < length c.loop-place.threads = omega (arith, c.loop-place-test.true) in (
      length-set c.loop-place.threads i c.come_to.result ∙ long,
      places_more c.args.script.now c.args.first i c.loop-place.at c.loop-place.threads c.come_to.result within was.1 was.2 c.come_to.ensures,
      λ kind k sc held begins.
          let P : ℕ → Type 0 = λ n. BeginsAt sc n c.next_thread-at.result in
          subst P (sym (add-one i)) (begins_next c.args.script.now kind k sc i c.loop-place.at c.next_thread-at.result held c.next_thread-at.ensures (was.2 kind k sc held begins)),
    )

pub returns : goal.returns
returns c =
    let was = c.loop-place.invariant in
    let long = was.0 in
    let all = simp length-take at c.loop-place-test.false in
    let few = c.requires in
    places_front c.args.script.now c.args.first c.args.n c.loop-place.threads _ (omega arith) (λ kind k sc held begins i lt. was.1 kind k sc held begins i (omega arith))
