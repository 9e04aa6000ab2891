-- Names that are declared.
use Rattle.std.specs.Prelude.{Bool, List, [], ◌∷◌, ◌++◌, if◌then◌else◌, ◌||◌, not, nat_lt, length}
use Rattle.f77_forms.specs.Form.{DeclaratorForm}
use Rattle.f77_scene.specs.Scene.{Name, Scene, array_names, constant_names}

-- those of INTEGER statements, or those with a declarator or a value
abbrev pub base_of : Scene → Bool → List Name
base_of s integer = if integer then s.integers else array_names s ++ constant_names s

-- the names of declarators, or of those that declare an array
abbrev pub names_declared : Bool → List DeclaratorForm → List Name
names_declared bounded [] = []
names_declared bounded (d ∷ ds) = (if not bounded || nat_lt 0 (length d.bounds)
    then d.name ∷ []
    else []) ++ names_declared bounded ds
