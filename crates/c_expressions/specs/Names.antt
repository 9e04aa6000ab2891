-- How things are called in the text.
use Rattle.std.specs.Prelude.{ℕ, ◌-◌, List, ◌++◌, map, Option, Some, None, slice_get, if◌then◌else◌, codes}
use Rattle.std.specs.Fmt.{decimal}
use Rattle.nest_tree.specs.Tree.{Declaration, Tree}
use Rattle.c_expressions.specs.declared.sum.Term.{Term}
use Rattle.c_expressions.specs.declared.sum.Term.TheVariants.{Loop, Last, Processor}
use Rattle.c_expressions.specs.Grammar.{is_name_byte}

-- a byte of a FORTRAN name stands as it is, any other as an underscore
abbrev pub cleaned : ℕ → ℕ
cleaned b = if is_name_byte b then b else 95

-- the variable with this number, from 1; one that isn't there by its number
abbrev pub name_in : ℕ → Option Declaration → List ℕ
name_in n (Some v) = map cleaned v.name
name_in n None = decimal n

abbrev pub variable_name : Tree → ℕ → List ℕ
variable_name tree n = name_in n (slice_get tree.variables (n - 1))

-- the cell that all share, and a processor's own
abbrev pub shared_cell : Tree → ℕ → List ℕ
shared_cell tree n = codes "v_" ++ variable_name tree n

abbrev pub own_cell : Tree → ℕ → List ℕ
own_cell tree n = codes "o_" ++ variable_name tree n

-- the value of a loop, by the loop's number; of the loop at hand in its last trip; the processor's number
abbrev pub loop_name : ℕ → List ℕ
loop_name n = codes "i" ++ decimal n

abbrev pub term_name : Term → List ℕ
term_name (Loop n) = loop_name n
term_name Last = codes "z"
term_name Processor = codes "p"
