use Rattle.std.proofs.Common.{◌≡◌, map, take}
use Rattle.f77_program.specs.Operands.{forms_of}
use Rattle.f77_program.specs.Surveys.{survey_view, survey_of}
use Rattle.f77_program.proofs.survey.survey_at.Given as goal

abbrev pub invariant-loop-e : goal.invariant-loop-e
invariant-loop-e l = survey_view l.survey ≡ survey_of (map (λ e. (l.known, e)) (forms_of (take l.e-index l.expressions)))
