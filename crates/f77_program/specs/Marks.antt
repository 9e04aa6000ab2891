-- What holds of some part of expressions.
use Rattle.std.specs.Prelude.{ℕ, ◌==◌, Bool, false, ◌&&◌, ◌||◌, not, List, length}
use Rattle.std.specs.List.{list_any}
use Rattle.f77_forms.specs.Form.{ExpressionForm}
use Rattle.f77_scene.specs.Scene.{Name, Scene, is_array, bounds_named}
use Rattle.f77_scene.specs.Statements.{Spot}
use Rattle.f77_scene.specs.Tests.{somewhere, is_lone_call, is_unknown_call, is_read_outside, has_wrong_subscripts}
use Rattle.f77_program.specs.declared.marks.Marks.{Marks}

-- in expressions, each with what is known in front of it
abbrev pub marks_of : List Spot → Marks
marks_of spots = record {
  lone_call = somewhere is_lone_call spots;
  unknown_call = somewhere is_unknown_call spots;
  read_outside = somewhere is_read_outside spots;
  wrong_subscripts = somewhere has_wrong_subscripts spots;
}

-- ---- the private functions over again

abbrev pub no_marks : Marks
no_marks = record {
  lone_call = false;
  unknown_call = false;
  read_outside = false;
  wrong_subscripts = false;
}

abbrev pub also_marks : Marks → Marks → Marks
also_marks a b = record {
  lone_call = a.lone_call || b.lone_call;
  unknown_call = a.unknown_call || b.unknown_call;
  read_outside = a.read_outside || b.read_outside;
  wrong_subscripts = a.wrong_subscripts || b.wrong_subscripts;
}

-- among the parts of one expression
abbrev pub marks_among : Scene → List ExpressionForm → Marks
marks_among s ps = record {
  lone_call = list_any (is_lone_call s) ps;
  unknown_call = list_any (is_unknown_call s) ps;
  read_outside = list_any (is_read_outside s) ps;
  wrong_subscripts = list_any (has_wrong_subscripts s) ps;
}

-- an array with another number of dimensions
abbrev pub has_other_rank : Scene → Name → ℕ → Bool
has_other_rank s n count = is_array s n && not (count == length (bounds_named s.arrays n))
