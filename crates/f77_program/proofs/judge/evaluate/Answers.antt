use Rattle.std.proofs.Common.{ap, ◌∙◌}
use Rattle.f77_program.specs.Surveys.{survey_of}
use Rattle.f77_program.specs.Wholes.{given_of}
use Rattle.f77_program.proofs.Pieced.{stays}
use Rattle.f77_program.proofs.judge.evaluate.Goals as goal

pub returns-in_ok-survey-in_default : goal.returns-in_ok-survey-in_default
returns-in_ok-survey-in_default c =
    let t = stays (given_of c.args.whole.now) c.args.known.now c.args.statement.now c.in_default.not-Parameter in
    record { survey = c.in_ok-survey-in_default.ensures ∙ ap survey_of t.0; known = t.1 }
