-- Memory in front of each instance and behind the last, and the output.
use Rattle.std.specs.Prelude.{ℕ, ℤ, pos, Option, Some, None, List, [], ◌∷◌, ◌++◌, map, take, drop, length, fold, replicate, slice_set, slice_index_or}
use Rattle.std.specs.List.{flat_map}
use Rattle.std.specs.Fmt.{signed_decimal}
use Rattle.nest_tree.specs.Layout.{cell_count, element_count, bounds_of}
use Rattle.nest_tree.specs.Tree.{Printed, value, whole, text, Work, assign, print, Tree}
use Rattle.nest_tree.specs.Loads.{loads_in}
use Rattle.nest_model.specs.Meaning.{value_of}
use Rattle.nest_tree.specs.Tree.{param_values}
use Rattle.nest_model.specs.Instances.{Instance, instances}
use Rattle.nest_model.specs.Accesses.{loads_of, store_of}

-- the value of a cell, 0 where there is none
abbrev pub cell_value : List ℤ → ℕ → ℤ
cell_value memory cell = slice_index_or memory cell (pos 0)

-- what an instance's loads give in a memory
abbrev pub loaded_in : Tree → List ℤ → Instance → List ℤ
loaded_in tree memory i = map (cell_value memory) (loads_of tree i)

-- the value that a piece of work stores, from what its loads gave; a PRINT stores none
abbrev pub assigned : Tree → List ℤ → Work → List ℤ → ℤ
assigned tree loops (assign a) loaded = value_of a.value loops (param_values tree) loaded
assigned tree loops (print p) loaded = pos 0

abbrev pub assigned_value : Tree → Instance → List ℤ → ℤ
assigned_value tree i loaded = assigned tree i.loops i.what loaded

-- a memory behind an instance
abbrev pub with_store : List ℤ → Option ℕ → ℤ → List ℤ
with_store memory None v = memory
with_store memory (Some cell) v = slice_set memory cell v

abbrev pub memory_after : Tree → List ℤ → Instance → List ℤ
memory_after tree memory i =
    with_store memory (store_of tree i) (assigned_value tree i (loaded_in tree memory i))

-- all cells are 0 at first
abbrev pub first_memory : Tree → List ℤ
first_memory tree = replicate (cell_count tree) (pos 0)

-- memory in front of the instance with this place, from 0
abbrev pub memory_before : Tree → ℕ → List ℤ
memory_before tree k = fold (memory_after tree) (first_memory tree) (take k (instances tree))

-- memory behind the last instance
abbrev pub last_memory : Tree → List ℤ
last_memory tree = fold (memory_after tree) (first_memory tree) (instances tree)

-- one blank and a number
abbrev pub number_text : ℤ → List ℕ
number_text z = 32 ∷ signed_decimal z

-- the text of the items of a PRINT, from what its loads gave: each is one blank and its text, a whole array each of its elements
abbrev pub items_text : Tree → List ℤ → List Printed → List ℤ → List ℕ
items_text tree loops [] loaded = []
items_text tree loops (value e ∷ rest) loaded =
    number_text (value_of e loops (param_values tree) loaded)
    ++ items_text tree loops rest (drop (length (loads_in e)) loaded)
items_text tree loops (whole variable ∷ rest) loaded =
    let count = element_count (bounds_of tree variable) in
    flat_map number_text (take count loaded) ++ items_text tree loops rest (drop count loaded)
items_text tree loops (text characters ∷ rest) loaded =
    32 ∷ (characters ++ items_text tree loops rest loaded)

-- the line that a piece of work prints, with its line end; an assignment prints none
abbrev pub printed_text : Tree → List ℤ → Work → List ℤ → List ℕ
printed_text tree loops (assign a) loaded = []
printed_text tree loops (print p) loaded = items_text tree loops p.items loaded ++ 10 ∷ []

abbrev pub line_of : Tree → Instance → List ℤ → List ℕ
line_of tree i loaded = printed_text tree i.loops i.what loaded

-- the lines of these instances from a memory on
abbrev pub output_from : Tree → List ℤ → List Instance → List ℕ
output_from tree memory [] = []
output_from tree memory (i ∷ rest) =
    line_of tree i (loaded_in tree memory i) ++ output_from tree (memory_after tree memory i) rest

-- the output of the program
abbrev pub output_of : Tree → List ℕ
output_of tree = output_from tree (first_memory tree) (instances tree)
