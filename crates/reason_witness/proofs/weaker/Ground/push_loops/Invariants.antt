use Rattle.std.proofs.Common.{List, ◌++◌, map, take}
use Rattle.std.specs.List.{AllZip}
use Rattle.nest_tree.specs.View.{tree_of}
use Rattle.reason_witness.specs.Asked.{serial_question}
use Rattle.reason_witness.specs.Reasons.{IsAnswer, Question}
use Rattle.reason_witness.proofs.weaker.Ground.push_loops.Given as goal

abbrev pub invariant-loop-serial : goal.invariant-loop-serial
invariant-loop-serial l = (qs : List Question) → AllZip (IsAnswer (tree_of l.self.program.now) l.self.plan.now) qs l.initial.reasons.items → AllZip (IsAnswer (tree_of l.self.program.now) l.self.plan.now) (qs ++ map serial_question (take l.serial-index l.loops)) l.reasons.items
