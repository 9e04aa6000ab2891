use Rattle.std.proofs.Common.{arith}
use Rattle.nest_tree.specs.View.{tree_of}
use Rattle.obligation_numbers.proofs.Counted.{all_counted}
use Rattle.obligation_numbers.proofs.PathCounts.{paths_counted}
use Rattle.obligation_numbers.proofs.StoredFirst.{stored_first}
use Rattle.obligation_numbers.proofs.count.obligation_count.Goals as goal

pub returns : goal.returns
returns c =
    let tree = tree_of c.args.program.now in
    let plan = c.args.plan.now in
    let counted = all_counted tree plan (stored_first tree plan c.args.program.now.formed c.requires.shape) (paths_counted tree plan c.args.program.now.formed c.requires.shape) in
    omega (arith, counted, c.phases_weight-trips.ensures, c.phases_weight-slots.ensures, c.phases_weight-paths.ensures, c.saturating_add.ensures, c.saturating_add-2.ensures)
