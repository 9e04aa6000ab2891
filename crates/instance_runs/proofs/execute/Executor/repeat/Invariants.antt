use Rattle.std.proofs.Common.{◌≡◌, ◌++◌, ℤ, IsTrue, List, [], length}
use Rattle.std.specs.List.{flat_map, list_all}
use Rattle.nest_model.specs.Ranges.{is_instance_inside}
use Rattle.nest_walk.specs.ByNumber.{with_rounds}
use Rattle.nest_walk.specs.Strips.{at_value, strip_left, strip_rounds, strip_tree}
use Rattle.seq_meaning.proofs.Written.{innermost}
use Rattle.spmd_model.specs.Deeds.{Deed, instance_deeds}
use Rattle.instance_runs.specs.Executors.{executor_tree}
use Rattle.instance_runs.proofs.execute.Executor.repeat.Given as goal

abbrev pub invariant-loop-value : goal.invariant-loop-value
invariant-loop-value g l =
    let x = l.fn.self in
    let tree = executor_tree x in
    let loops = l.self.1.1.1.1.1.0 in
    let registers = l.self.1.1.1.1.1.1.1.0 in
    let left = strip_left l.trips in
    record {
      room : length registers.items ≡ length x.registers.items;
      walked : strip_tree l.trips ≡ tree;
      stop : l.trips.stop ≡ l.fn.strip.stop;
      loop_at : innermost (strip_rounds l.trips) ≡ innermost (strip_rounds l.fn.strip);
      line : (v : ℤ) → at_value (strip_rounds l.trips) v ≡ at_value (strip_rounds l.fn.strip) v;
      written : loops.items ≡ with_rounds x.loops.items (strip_rounds l.trips);
      inside : IsTrue (list_all (is_instance_inside tree) left);
      left : (rest : List Deed) × (g.D.Deeds.left l.deeds ≡ flat_map (instance_deeds tree) left ++ rest) × (g.D.Deeds.left l.fn.deeds ≡ flat_map (instance_deeds tree) (strip_left l.fn.strip) ++ rest);
      idle : g.D.Deeds.registers l.deeds ≡ [];
      printed : g.D.Deeds.printed l.deeds ≡ g.D.Deeds.printed l.fn.deeds;
      kept : g.D.Deeds.kept l.deeds ≡ g.D.Deeds.kept l.fn.deeds;
    }

abbrev pub decreases-loop-value : goal.decreases-loop-value
decreases-loop-value g l = length (strip_left l.trips)
