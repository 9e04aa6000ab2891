use Rattle.std.proofs.Common.{◌≡◌, ◌++◌, map, take}
use Rattle.plan_maker.specs.Bars.{attempt}
use Rattle.reason_witness.specs.Asked.{serial_question}
use Rattle.reason_witness.specs.Reasons.{try_question}
use Rattle.reason_witness.proofs.asked.push_tries.Given as goal

abbrev pub invariant-loop-tried : goal.invariant-loop-tried
invariant-loop-tried l = map serial_question l.loops.items ≡ map serial_question l.initial.loops.items ++ map try_question (map (attempt l.number) (take l.tried-index l.tried-items))
