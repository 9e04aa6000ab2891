-- From the declared types to the tree as plain data.
use Rattle.nest_tree.specs.Tree.{Tree}
use Rattle.nest_tree.specs.Nodes.{tree_with}
use Rattle.nest_tree.specs.declared.program.Draft.{Draft}
use Rattle.nest_tree.specs.declared.program.Program.{Program}
pub use Rattle.nest_tree.specs.Nodes.{expression_of, expressions_of, expressions_from, printed_of, statement_of, statements_of, statements_from, head_of, loop_of, constant_of, declaration_of}

-- a program that was read, and one within its limits, as plain data
abbrev pub tree_of_draft : Draft → Tree
tree_of_draft d = tree_with d.items.items d.params.items d.variables.items

abbrev pub tree_of : Program → Tree
tree_of p = tree_with p.items.items p.params.items p.variables.items
