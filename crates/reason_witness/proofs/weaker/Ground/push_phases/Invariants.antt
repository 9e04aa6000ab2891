use Rattle.std.proofs.Common.{List, ◌++◌, map, take}
use Rattle.std.specs.List.{AllZip}
use Rattle.nest_tree.specs.View.{tree_of}
use Rattle.reason_witness.specs.Asked.{candidate_question}
use Rattle.reason_witness.specs.Reasons.{IsAnswer, Question}
use Rattle.reason_witness.proofs.weaker.Ground.push_phases.Given as goal

abbrev pub invariant-loop-candidate : goal.invariant-loop-candidate
invariant-loop-candidate l = (qs : List Question) → AllZip (IsAnswer (tree_of l.self.program.now) l.self.plan.now) qs l.initial.reasons.items → AllZip (IsAnswer (tree_of l.self.program.now) l.self.plan.now) (qs ++ map candidate_question (take l.candidate-index l.phases)) l.reasons.items
