use Rattle.std.proofs.Common.{◌-◌}
use Rattle.survey.proofs.+survey_from.Given as goal

abbrev pub decreases-survey_from : goal.decreases-survey_from
decreases-survey_from l = 512 - l.at
