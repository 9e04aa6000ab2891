use Rattle.std.proofs.Common.{◌≡◌, ◌++◌, ◌≤◌, ℤ, IsTrue, length}
use Rattle.std.specs.List.{fold, list_all}
use Rattle.nest_tree.specs.Layout.{cell_count}
use Rattle.nest_tree.specs.View.{tree_of}
use Rattle.nest_model.specs.Memory.{memory_after, output_from}
use Rattle.nest_model.specs.Ranges.{is_instance_inside}
use Rattle.nest_walk.specs.ByNumber.{with_rounds}
use Rattle.nest_walk.specs.Strips.{at_value, strip_left, strip_rounds, strip_tree}
use Rattle.flat_code.specs.CodeTables.{most_registers}
use Rattle.seq_meaning.proofs.Written.{innermost}
use Rattle.seq_meaning.proofs.run.Run.repeat.Given as goal

abbrev pub invariant-loop-value : goal.invariant-loop-value
invariant-loop-value l =
    let run = l.fn.self in
    let tree = tree_of run.program.now in
    let params = l.self.1.1.1.1.0 in
    let loops = l.self.1.1.1.1.1.0 in
    let registers = l.self.1.1.1.1.1.1.1.0 in
    let cells_now = l.self.1.1.1.1.1.1.1.1.1.0.items in
    let left = strip_left l.left in
    let all = strip_left l.fn.strip in
    record {
      params : params ≡ run.params;
      room : most_registers run.codes ≤ length registers.items;
      cells : length cells_now ≡ cell_count tree;
      walked : strip_tree l.left ≡ tree;
      stop : l.left.stop ≡ l.fn.strip.stop;
      loop_at : innermost (strip_rounds l.left) ≡ innermost (strip_rounds l.fn.strip);
      line : (v : ℤ) → at_value (strip_rounds l.left) v ≡ at_value (strip_rounds l.fn.strip) v;
      written : loops.items ≡ with_rounds run.loops.items (strip_rounds l.left);
      inside : IsTrue (list_all (is_instance_inside tree) left);
      memory : fold (memory_after tree) cells_now left ≡ fold (memory_after tree) run.memory.items all;
      output : run.output.bytes ++ output_from tree cells_now left ≡ run.output.bytes ++ output_from tree run.memory.items all;
    }

abbrev pub decreases-loop-value : goal.decreases-loop-value
decreases-loop-value l = length (strip_left l.left)
