use Rattle.std.proofs.Common.{◌≡◌, map, take}
use Rattle.f77_forms.specs.View.{definition_of}
use Rattle.f77_scene.specs.Statements.{definition_spots, with_constants}
use Rattle.f77_program.specs.Surveys.{survey_view, survey_of}
use Rattle.f77_program.specs.Wholes.{given_of}
use Rattle.f77_program.proofs.survey.define.Given as goal

abbrev pub invariant-loop-definition : goal.invariant-loop-definition
invariant-loop-definition l = record {
  survey : survey_view l.survey ≡ survey_of (definition_spots (given_of l.whole) l.initial.known (map definition_of (take l.definition-index l.definitions)));
  known : l.known ≡ with_constants (given_of l.whole) l.initial.known (map definition_of (take l.definition-index l.definitions));
}
