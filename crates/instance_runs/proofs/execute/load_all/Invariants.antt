use Rattle.std.proofs.Common.{◌≡◌, ◌++◌, length, map, take}
use Rattle.std.specs.List.{flat_map}
use Rattle.seq_meaning.specs.Loads.{cells_of_load}
use Rattle.spmd_model.specs.Deeds.{loading}
use Rattle.instance_runs.specs.Loads.{widths}
use Rattle.instance_runs.proofs.execute.load_all.Given as goal

abbrev pub invariant-loop-load : goal.invariant-loop-load
invariant-loop-load g l = record {
  left : g.D.Deeds.left l.fn.deeds ≡ map loading (flat_map (cells_of_load l.values) (take l.load-index l.loads)) ++ g.D.Deeds.left l.deeds;
  registers : g.D.Deeds.registers l.deeds ≡ take l.count l.registers;
  same : length l.registers ≡ length l.fn.registers;
  count : l.count ≡ widths (take l.load-index l.loads);
  printed : g.D.Deeds.printed l.deeds ≡ g.D.Deeds.printed l.fn.deeds;
  kept : g.D.Deeds.kept l.deeds ≡ g.D.Deeds.kept l.fn.deeds;
}
