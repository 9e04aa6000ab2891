use Rattle.std.proofs.Common.{◌≡◌, map, take}
use Rattle.nest_tree.specs.Layout.{cells_in}
use Rattle.nest_tree.specs.View.{declaration_of}
use Rattle.nest_tree.proofs.layout.Layout.first_cell.Given as goal

abbrev pub invariant-loop-before : goal.invariant-loop-before
invariant-loop-before l = l.cells ≡ cells_in (take l.before-index (map declaration_of l.self.program.now.variables.items))
