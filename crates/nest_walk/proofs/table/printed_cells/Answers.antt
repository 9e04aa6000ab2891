use Rattle.std.proofs.Common.{◌≡◌, List, map, take, sym, subst}
use Rattle.std.specs.List.{flat_map}
use Rattle.std.proofs.lemmas.List.{take_all}
use Rattle.nest_tree.specs.View.{printed_of, tree_of}
use Rattle.nest_tree.specs.WellFormed.{scope_of}
use Rattle.nest_walk.specs.Grown.{GrewBy}
use Rattle.nest_walk.specs.Places.{numbers_of}
use Rattle.nest_walk.specs.RoundsOf.{rounds_of}
use Rattle.nest_walk.specs.Tables.{AreLoadCells, Loaded, loaded_in_item}
use Rattle.nest_walk.proofs.Grown.{grew-both, grew-from_none}
use Rattle.nest_walk.proofs.TableParts.{good_item, items_taken}
use Rattle.nest_walk.proofs.table.printed_cells.Goals as goal

pub push_item_cells-requires : goal.push_item_cells-requires
push_item_cells-requires c =
    record {
      good = good_item (scope_of (tree_of c.args.program.now)) (numbers_of (rounds_of c.args.path.now)) c.args.items.now c.loop-item.item-index c.item-item.result c.loop-item-test.true c.item-item.is c.requires.good;
    }

pub loop-item-preserved : goal.loop-item-preserved
loop-item-preserved c =
    let R = AreLoadCells (tree_of c.args.program.now) (numbers_of (rounds_of c.args.path.now)) in
    let more = items_taken loaded_in_item c.args.items.now c.loop-item.item-index c.item-item.result c.loop-item-test.true c.item-item.is in
    subst (λ (xs : List Loaded). GrewBy R xs c.new-loads.result.items c.push_item_cells.new.loads.items) (sym more) (grew-both R _ _ _ _ _ c.loop-item.invariant c.in_ok-push_item_cells.ensures)

pub returns : goal.returns
returns c =
    let R = AreLoadCells (tree_of c.args.program.now) (numbers_of (rounds_of c.args.path.now)) in
    let all : take c.loop-item.item-index c.args.items.now ≡ c.args.items.now = take_all c.loop-item.item-index c.args.items.now c.loop-item-test.false in
    let loads = subst (λ xs. GrewBy R (flat_map loaded_in_item (map printed_of xs)) c.new-loads.result.items c.loop-item.loads.items) all c.loop-item.invariant in
    record { loaded = grew-from_none R _ _ _ c.new-loads.ensures.items loads; stored = tt }
