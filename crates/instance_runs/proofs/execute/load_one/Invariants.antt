use Rattle.std.proofs.Common.{◌≡◌, ◌++◌, length, map, take}
use Rattle.std.specs.List.{range_with_len}
use Rattle.spmd_model.specs.Deeds.{loading}
use Rattle.instance_runs.proofs.execute.load_one.Given as goal

abbrev pub invariant-loop-element : goal.invariant-loop-element
invariant-loop-element g l = record {
  left : g.D.Deeds.left l.fn.deeds ≡ map loading (range_with_len l.first l.element) ++ g.D.Deeds.left l.deeds;
  registers : g.D.Deeds.registers l.deeds ≡ g.D.Deeds.registers l.fn.deeds ++ take l.element l.registers;
  same : length l.registers ≡ length l.fn.registers;
  printed : g.D.Deeds.printed l.deeds ≡ g.D.Deeds.printed l.fn.deeds;
  kept : g.D.Deeds.kept l.deeds ≡ g.D.Deeds.kept l.fn.deeds;
}
