use Rattle.std.proofs.Common.{◌≡◌, map, take}
use Rattle.nest_tree.specs.View.{tree_of}
use Rattle.plan_maker.specs.Bars.{all_attempts, open_loops}
use Rattle.reason_witness.specs.Asked.{serial_question}
use Rattle.reason_witness.specs.Reasons.{try_question}
use Rattle.reason_witness.proofs.asked.given_loops.Given as goal

abbrev pub invariant-loop-place : goal.invariant-loop-place
invariant-loop-place l = map serial_question l.loops.items ≡ map try_question (all_attempts (tree_of l.program) (open_loops 1 (take l.place l.marks)))
