-- What is known at a statement, as the reader keeps it.
use Rattle.std.specs.Prelude.{ℕ, ℤ, ◌==◌, Bool, false, List, [], ◌∷◌, map, Option, Some, None, if◌then◌else◌}
use Rattle.std.specs.Global.{Vec}
use Rattle.std.specs.List.{list_any}
use Rattle.std.specs.Str.{bytes_eq}
use Rattle.nest_tree.specs.Tree.{Constant}
use Rattle.f77_scene.specs.Scene.{Name, Array, Open, loop_named}
use Rattle.f77_program.specs.declared.opened.Opened.{Opened}

-- names and their values
abbrev pub constants_from : List Name → List ℤ → List Constant
constants_from [] values = []
constants_from (n ∷ names) [] = []
constants_from (n ∷ names) (z ∷ values) =
    record { name = n; value = z } ∷ constants_from names values

abbrev pub names_of_constants : List Constant → List Name
names_of_constants constants = map (λ (c : Constant). c.name) constants

-- names and their bounds
abbrev pub arrays_from : List Name → List (Vec (ℤ × ℤ)) → List Array
arrays_from [] bounds = []
arrays_from (n ∷ names) [] = []
arrays_from (n ∷ names) (b ∷ bounds) =
    record { name = n; bounds = b.items } ∷ arrays_from names bounds

abbrev pub names_of_arrays : List Array → List Name
names_of_arrays arrays = map (λ (a : Array). a.name) arrays

abbrev pub open_of : Opened → Open
open_of o = record { variable = o.variable.items; label = o.label; number = o.number }

-- the number of the open loop with this variable
abbrev pub opened_as : List Open → Name → Option ℕ
opened_as opened n = if list_any (λ (o : Open). bytes_eq o.variable n) opened
    then Some (loop_named opened n)
    else None

-- the innermost of open loops ends with this label
abbrev pub ends_first : ℕ → List Open → Bool
ends_first label [] = false
ends_first label (o ∷ opened) = o.label == label
