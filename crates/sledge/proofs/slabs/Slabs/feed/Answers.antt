use Rattle.std.proofs.Common.{ℕ, List, ℤ, length, take, drop, ◌++◌, refl, sym, ap, ◌∙◌, subst, w32}
use Rattle.std.proofs.Math.Seq.{take-append_seam}
use Rattle.std.proofs.lemmas.Int.{to_z-of_z}
use Rattle.runs.specs.Calls.{Feeds}
use Rattle.sledge.proofs.slabs.Slabs.feed.Goals as goal

-- The samples are written back whole, since the call leaves their slab as long as it was; the other slabs aren't lent.
pub returns : goal.returns
returns g c =
    let run = c.args.run.now in
    let now = c.feed.new.self in
    let new = c.feed.new.samples in
    let rest = drop (length new) c.args.self.now.samples.items in
    let F : ℤ → List ℤ → List ℤ → Type 0 = λ z was is. Feeds g.K.Lattice.kind g.K.Lattice.order g.S.Scheduler.meaning c.args.track z run.core run.scheduler was now.core now.scheduler is c.feed.result in
    let whole = ap (λ (n : ℕ). take n (new ++ rest)) (sym (c.feed.auto.samples ∙ c.deref_mut.ensures.len)) ∙ take-append_seam new rest in
    let fed : F c.args.sample c.deref_mut.result.now new = subst (λ (z : ℤ). F z c.deref_mut.result.now new) (to_z-of_z w32 c.args.sample c.ranges.sample) c.feed.ensures in
    let kept : F c.args.sample c.args.self.now.samples.items new = subst (λ (was : List ℤ). F c.args.sample was new) c.deref_mut.ensures.value fed in
    record { fed = subst (F c.args.sample c.args.self.now.samples.items) (sym whole) kept; rest = ((refl, refl), (refl, refl)) }
