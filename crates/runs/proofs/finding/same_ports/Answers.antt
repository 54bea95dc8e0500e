use Rattle.std.proofs.Common.{◌≡◌, length, get_or, ap, ◌∙◌, arith, rules, tests}
use Rattle.std.specs.List.{zip}
use Rattle.std.proofs.lemmas.Slice.Zip.{get_or-zip, length-zip}
use Rattle.std.proofs.lemmas.Iterator.{YieldsList-from_slice, YieldsList-from_take, YieldsList-from_zip}
use Rattle.std.proofs.lemmas.Iterator.Search.{all_from_yields_List}
use Rattle.runs.specs.declared.Port.{Port}
use Rattle.runs.specs.Flat.{nil_port}
use Rattle.runs.specs.Finding.{ports_agree}
use Rattle.runs.proofs.Firsts.{all_taken}
use Rattle.runs.proofs.finding.same_ports.Goals as goal

pub returns : goal.returns
returns c =
    let a = c.args.a in
    let b = c.args.b in
    let la : length a ≡ 8 = search rules in
    let lb : length b ≡ 8 = search rules in
    let few = c.requires in
    all_from_yields_List {s = c.take.result} (λ (p : Port × Port). ports_agree p.0 p.1) c.all.new.self _ c.all.result c.all.ensures.ran
    (YieldsList-from_take c.args.n (YieldsList-from_zip (YieldsList-from_slice c.args.a (cc)) (YieldsList-from_slice c.args.b (cc))) (cc)) (λ x b q k. search (rules, tests))
    ∙ all_taken (λ (p : Port × Port). ports_agree p.0 p.1) (λ h. ports_agree (get_or a h nil_port) (get_or b h nil_port)) (zip a b) (nil_port, nil_port) c.args.n (simp length-zip (omega arith))
    (λ i lt. ap (λ (p : Port × Port). ports_agree p.0 p.1) (get_or-zip a b i (nil_port, nil_port) (omega arith) (omega arith)))
