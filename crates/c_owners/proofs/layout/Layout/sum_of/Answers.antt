use Rattle.std.proofs.Common.{◌*ℤ◌, pos}
use Rattle.nest_tree.specs.View.{tree_of}
use Rattle.c_expressions.proofs.Summed.{one_times, sums_more, sums_same}
use Rattle.c_owners.specs.Owners.{spot_at}
use Rattle.c_owners.proofs.layout.Layout.sum_of.Goals as goal

pub returns : goal.returns
returns c =
    let spot = c.args.spot.now in
    let tree = tree_of c.args.self.now.program.now in
    let all = spot_at tree spot.constant spot.loops.now spot.params.now spot.last in
    sums_same c.add_spot.new.sum (λ v. pos 1 *ℤ all v) all (λ v. one_times (all v)) (sums_more c.new-sum.result c.add_spot.new.sum (λ v. pos 1 *ℤ all v) c.new-sum.ensures c.in_ok-add_spot.ensures)
