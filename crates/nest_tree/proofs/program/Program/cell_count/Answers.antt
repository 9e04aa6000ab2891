use Rattle.std.proofs.Common.{map, ap, ◌∙◌}
use Rattle.nest_tree.specs.Layout.{cells_in}
use Rattle.nest_tree.specs.Limits.{capped}
use Rattle.nest_tree.specs.View.{declaration_of, tree_of}
use Rattle.nest_tree.proofs.Cells.{well_formed_parts}
use Rattle.nest_tree.proofs.program.Program.cell_count.Goals as goal

pub capped_cells-requires : goal.capped_cells-requires
capped_cells-requires c = rw c.deref.ensures.value (well_formed_parts (tree_of c.args.self.now) c.args.self.now.formed).variables

pub returns : goal.returns
returns c = c.capped_cells.ensures ∙ ap (λ vs. capped (cells_in (map declaration_of vs))) c.deref.ensures.value
