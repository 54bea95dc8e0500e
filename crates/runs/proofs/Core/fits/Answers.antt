use Rattle.std.proofs.Common.{ℕ, ◌∙◌, arith, rules, tests}
use Rattle.std.proofs.lemmas.Iterator.{YieldsList-from_range}
use Rattle.std.proofs.lemmas.Iterator.Search.{all_from_yields_List}
use Rattle.script.specs.Trees.{script_frames}
use Rattle.runs.specs.Fitted.{OfScript, thread_right}
use Rattle.runs.proofs.Firsts.{all_ranged}
use Rattle.runs.proofs.Matching.{threads_are}
use Rattle.runs.proofs.Core.fits.Goals as goal

pub returns : goal.returns
returns g c = record {
  told = λ sc h code v t.
      let s = c.args.self.now in
      let n = s.head.threads in
      let right = λ (i : ℕ). thread_right g.K.Lattice.order s c.args.marks.now i in
      all_from_yields_List (λ (i : ℕ). right i (script_frames sc)) _ _ _ c.all.ensures.ran (YieldsList-from_range 0 n n (cc) (omega arith))
      (λ x b q k.
      let here : OfScript g.K.Lattice.kind g.K.Lattice.order c.args.table.now (right x) b = search rules in
      (search (rules, tests), here.told sc h code v t))
      ∙ all_ranged (λ (i : ℕ). right i (script_frames sc)) n
      ∙ threads_are g.K.Lattice.order s c.args.marks.now (script_frames sc) n;
}
