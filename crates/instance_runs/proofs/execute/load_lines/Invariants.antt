use Rattle.std.proofs.Common.{◌≡◌, ◌++◌, length, map, take}
use Rattle.spmd_model.specs.Deeds.{loading}
use Rattle.flat_code.specs.Lines.{cell_on}
use Rattle.instance_runs.proofs.execute.load_lines.Given as goal

abbrev pub invariant-loop-k : goal.invariant-loop-k
invariant-loop-k g l = record {
  left : g.D.Deeds.left l.fn.deeds ≡ map loading (map (λ line. cell_on line l.value) (take l.k l.lines)) ++ g.D.Deeds.left l.deeds;
  registers : g.D.Deeds.registers l.deeds ≡ take l.k l.registers;
  same : length l.registers ≡ length l.fn.registers;
  printed : g.D.Deeds.printed l.deeds ≡ g.D.Deeds.printed l.fn.deeds;
  kept : g.D.Deeds.kept l.deeds ≡ g.D.Deeds.kept l.fn.deeds;
}
