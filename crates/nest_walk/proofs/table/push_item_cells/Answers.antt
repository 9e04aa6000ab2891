use Rattle.std.proofs.Common.{List, OnOk, ap, sym, subst}
use Rattle.nest_tree.specs.View.{printed_of, tree_of}
use Rattle.nest_walk.specs.Grown.{GrewBy}
use Rattle.nest_walk.specs.Places.{numbers_of}
use Rattle.nest_walk.specs.RoundsOf.{rounds_of}
use Rattle.nest_walk.specs.Tables.{AreLoadCells, Loaded, array, loaded_in_item}
use Rattle.nest_walk.proofs.Grown.{grew-one}
use Rattle.nest_walk.proofs.table.push_item_cells.Goals as goal

pub returns-in-Value : goal.returns-in-Value
returns-in-Value c =
    let R = AreLoadCells (tree_of c.args.program.now) (numbers_of (rounds_of c.args.path.now)) in
    subst (λ (xs : List Loaded). OnOk c.push_loads.result (GrewBy R xs c.args.loads.now.items c.push_loads.new.loads.items)) (sym (ap (λ i. loaded_in_item (printed_of i)) c.in-Value.is)) c.push_loads.ensures

pub returns-in_ok-push-in-Whole : goal.returns-in_ok-push-in-Whole
returns-in_ok-push-in-Whole c =
    let around = numbers_of (rounds_of c.args.path.now) in
    let R = AreLoadCells (tree_of c.args.program.now) around in
    subst (λ (xs : List Loaded). GrewBy R xs c.args.loads.now.items c.push.new.self.items) (sym (ap (λ i. loaded_in_item (printed_of i)) c.in-Whole.is))
    (grew-one R (array c.in-Whole.variable) c.args.loads.now.items c.push.new.self.items c.whole_cells.result (c.whole_cells.ensures around) c.in_ok-push-in-Whole.ensures.items)
