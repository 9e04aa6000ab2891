use Rattle.std.proofs.Common.{◌≡◌, map, take}
use Rattle.std.specs.List.{flat_map}
use Rattle.nest_model.specs.Memory.{cell_value}
use Rattle.seq_meaning.specs.Loads.{cells_of_load}
use Rattle.seq_meaning.proofs.load.load.Given as goal

abbrev pub invariant-loop-cells : goal.invariant-loop-cells
invariant-loop-cells l = l.loaded.items ≡ map (cell_value l.memory) (flat_map (cells_of_load l.values) (take l.cells-index l.loads))
