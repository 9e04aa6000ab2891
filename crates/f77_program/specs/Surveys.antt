-- What the expressions of a statement come to.
use Rattle.std.specs.Prelude.{List, map}
use Rattle.f77_scene.specs.Statements.{Spot}
use Rattle.f77_program.specs.declared.marks.Marks.{Marks}
use Rattle.f77_program.specs.declared.measure.Measure.{Measure}
use Rattle.f77_program.specs.declared.survey.Survey.{Survey}
use Rattle.f77_program.specs.Marks.{marks_of}
use Rattle.f77_program.specs.Measures.{measure_of}

-- what holds of some part, and what each expression comes to
pub record SurveyOf : Type 0 where
  pub marks : Marks
  pub measures : List Measure

abbrev pub survey_view : Survey → SurveyOf
survey_view s = record { marks = s.marks; measures = s.measures.items }

abbrev pub measures_of : List Spot → List Measure
measures_of spots = map (λ (spot : Spot). measure_of spot.0 spot.1) spots

-- of expressions, each with what is known in front of it
abbrev pub survey_of : List Spot → SurveyOf
survey_of spots = record { marks = marks_of spots; measures = measures_of spots }
