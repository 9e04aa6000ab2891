-- The program whose layout it is.
use Rattle.nest_tree.specs.Tree.{Tree}
use Rattle.nest_tree.specs.View.{tree_of}
use Rattle.nest_tree.specs.declared.layout.Layout.{Layout}

abbrev pub laid_out : Layout → Tree
laid_out l = tree_of l.program.now
