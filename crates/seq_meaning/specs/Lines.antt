-- The text of an item of a PRINT, and what its loads give.
use Rattle.std.specs.Prelude.{ℕ, ℤ, Bool, true, List, ◌∷◌, take, length, sum_by}
use Rattle.std.specs.List.{flat_map}
use Rattle.nest_tree.specs.Layout.{bounds_of, element_count}
use Rattle.nest_tree.specs.Loads.{loads_in}
use Rattle.nest_tree.specs.Tree.{Printed, value, whole, text, Tree, param_values}
use Rattle.nest_tree.specs.WellFormed.{is_number_of}
use Rattle.nest_model.specs.Meaning.{has_value, value_of}
use Rattle.nest_model.specs.Memory.{number_text}

-- how many values the loads of an item give
abbrev pub item_load_count : Tree → Printed → ℕ
item_load_count tree (value e) = length (loads_in e)
item_load_count tree (whole variable) = element_count (bounds_of tree variable)
item_load_count tree (text characters) = 0

abbrev pub items_load_count : Tree → List Printed → ℕ
items_load_count tree items = sum_by (item_load_count tree) items

-- the text of an item, from what the loads from it on gave
abbrev pub item_text : Tree → List ℤ → Printed → List ℤ → List ℕ
item_text tree loops (value e) loaded = number_text (value_of e loops (param_values tree) loaded)
item_text tree loops (whole variable) loaded =
    flat_map number_text (take (element_count (bounds_of tree variable)) loaded)
item_text tree loops (text characters) loaded = 32 ∷ characters

-- an item has a text where there are so many loops: its value exists, or its array is there
abbrev pub has_text : Tree → ℕ → Printed → Bool
has_text tree loops (value e) = has_value loops (length (param_values tree)) e
has_text tree loops (whole variable) = is_number_of (length tree.variables) variable
has_text tree loops (text characters) = true
