-- What is known behind a statement without a fault.
use Rattle.std.specs.Prelude.{ℕ, ◌+◌, Bool, true, ◌||◌, not, List, [], ◌∷◌, ◌++◌, map, filter}
use Rattle.f77_forms.specs.Characters.{decimal}
use Rattle.f77_forms.specs.Form.{DeclaratorForm, DoForm, StatementForm, program, integer, dimension, parameter, do_loop}
use Rattle.f77_scene.specs.Scene.{Name, Given, Array, Scene, with_names, is_constant_name, is_array, is_open}
use Rattle.f77_scene.specs.Statements.{declarator_names, bounded, with_constants, names_of}
use Rattle.f77_scene.specs.Tests.{left_open}
use Rattle.f77_scene.specs.Limits.{bounds_of}

abbrev pub arrays_of : Scene → List DeclaratorForm → List Array
arrays_of s ds = map (λ (d : DeclaratorForm).
    record { name = d.name; bounds = map (bounds_of s) d.bounds }) (bounded ds)

-- behind a DO statement its loop is open
abbrev pub behind_do : Scene → DoForm → Scene
behind_do s d =
    record s {
      executes = true;
      loop_variables = s.loop_variables ++ d.variable ∷ [];
      loops = s.loops + 1;
      opened = record {
        variable = d.variable;
        label = decimal d.label;
        number = s.loops + 1;
      } ∷ s.opened;
    }

-- a name in an executable statement that is no array, no named constant and no variable of a loop is a scalar
abbrev pub is_scalar : Scene → Name → Bool
is_scalar s n = not (is_array s n || is_constant_name s n || is_open s n)

-- behind an executable statement but DO the loops that end with its label are closed
abbrev pub behind_work : Scene → ℕ → StatementForm → Scene
behind_work s label f = record s {
  executes = true;
  scalars = with_names s.scalars (filter (is_scalar s) (names_of s f));
  opened = left_open label s.opened;
}

abbrev pub behind_form : Given → Scene → ℕ → StatementForm → Scene
behind_form given s label (program n) = s
behind_form given s label (integer ds) =
    record s { integers = s.integers ++ declarator_names ds; arrays = s.arrays ++ arrays_of s ds }
behind_form given s label (dimension ds) = record s { arrays = s.arrays ++ arrays_of s ds }
behind_form given s label (parameter ds) = with_constants given s ds
behind_form given s label (do_loop d) = behind_do s d
behind_form given s label f = behind_work s label f

-- the statement is counted, and its label and its names are known
abbrev pub noted : Scene → ℕ → StatementForm → Scene
noted s label f = record s {
  count = s.count + 1;
  labels = s.labels ++ label ∷ [];
  names = with_names s.names (names_of s f);
}

-- what is known behind a statement with this label
abbrev pub behind : Given → Scene → ℕ → StatementForm → Scene
behind given s label f = noted (behind_form given s label f) label f
