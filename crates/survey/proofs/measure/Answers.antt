use Rattle.survey.proofs.measure.Goals as goal

pub returns : goal.returns
returns c kind k fs h code r e closed =
    let s = c.stretch_at-stretch.ensures kind k fs h code r e closed in
    (s.0.fixed, s.0.duration)
