-- What is known behind a statement, by what is known behind its values.
use Rattle.std.specs.Prelude.{ℕ, List, ◌++◌, filter}
use Rattle.f77_forms.specs.Form.{StatementForm, program, integer, dimension, parameter, do_loop}
use Rattle.f77_scene.specs.Behind.{arrays_of, behind_do, is_scalar, behind_work, noted}
use Rattle.f77_scene.specs.Scene.{Name, Scene, Array}
use Rattle.f77_scene.specs.Statements.{declarator_names}
use Rattle.f77_program.specs.declared.pass.Declared.{Declared}

abbrev pub array_of : Declared → Array
array_of d = record { name = d.name.now; bounds = d.bounds.items }

abbrev pub entered : Scene → ℕ → StatementForm → Scene
entered s label (program n) = s
entered s label (integer ds) =
    record s { integers = s.integers ++ declarator_names ds; arrays = s.arrays ++ arrays_of s ds }
entered s label (dimension ds) = record s { arrays = s.arrays ++ arrays_of s ds }
entered s label (parameter ds) = s
entered s label (do_loop d) = behind_do s d
entered s label f = behind_work s label f

abbrev pub passed : Scene → ℕ → StatementForm → Scene
passed s label f = noted (entered s label f) label f

-- names that are scalars
abbrev pub scalars_among : Scene → List Name → List Name
scalars_among s names = filter (is_scalar s) names
