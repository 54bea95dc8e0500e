use Rattle.std.proofs.Common.{◌≡◌, ℕ, ◌+◌, ◌*◌, ◌<◌, List, length, take, drop, Bor, Option, None, Some, MatchOption, ap, ◌∙◌, arith}
use Rattle.std.proofs.lemmas.List.{length-take-le, take_rest}
use Rattle.std.specs.Array.{IsFirstChunk}
use Rattle.script.specs.Slabs.{SlotFound}
use Rattle.script.proofs.finding.slot_in.Goals as goal

at_front : (slab rest : List ℕ) (i : ℕ) (r : Option (Bor (List ℕ))) → i < 512 → rest ≡ drop (i * 51) slab → length rest + i * 51 ≡ length slab
    → MatchOption r (length rest < 51) (λ s. IsFirstChunk rest s.now 51)
    → MatchOption r (i < 512 → length slab < i * 51 + 51) (λ s. SlotFound slab i s.now)
at_front slab rest i None few e n h = λ _. omega (arith, n, h)
at_front slab rest i (Some s) few e n h = record { few = few; room = omega (arith, n, h.enough); is = h.same ∙ ap (take 51) e; long = ap length h.same ∙ length-take-le 51 rest h.enough }

pub returns : goal.returns
returns c =
    let found = rw c.from.ensures at c.in_ok-get.ensures.lookup in
    at_front c.args.slab.now c.in_ok-get.field-0.now c.args.i c.first_chunk.result (omega (arith, c.if-i-ge-FRAMES.false)) (found.0.2 ∙ take_rest c.args.slab.now (c.args.i * 51)) found.0.3 c.first_chunk.ensures.cases
