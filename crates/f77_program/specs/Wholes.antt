-- What holds of a whole source, as the reader keeps it.
use Rattle.std.specs.Prelude.{ℤ, List, map, reverse}
use Rattle.nest_tree.specs.Tree.{Constant}
use Rattle.f77_scene.specs.Scene.{Name, Given}
use Rattle.f77_program.specs.declared.whole.Whole.{Whole}

abbrev pub pair_of : Constant → Name × ℤ
pair_of c = (c.name, c.value)

-- settings that are kept the last one first
abbrev pub settings_of : List Constant → List (Name × ℤ)
settings_of constants = reverse (map pair_of constants)

abbrev pub given_of : Whole → Given
given_of w = record { settings = settings_of w.settings; integers = w.integers }
