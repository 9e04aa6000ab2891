use Rattle.std.proofs.Common.{refl}
use Rattle.nest_tree.specs.View.{tree_of}
use Rattle.spmd_answer.specs.Due.{written}
use Rattle.spmd_answer.proofs.Answering.{of_verify}
use Rattle.spmd_answer.proofs.answer.verified.Goals as goal
use Rattle.spmd_answer.proofs.answer.verified.Goals.{in-Ok+in_ok-accepted-in-Ok, in-Err+in_ok-refusal-in-Err}

pub returns-clause-due : goal.returns-clause-due
returns-clause-due g c = elim c.match-given_plan.branch [
  | in-Ok+in_ok-accepted-in-Ok w ↦ rw w.result-is (λ settings at. written _ (w.in-Ok.field-0, w.in-Ok.ensures.taken, refl) w.in_ok-accepted-in-Ok.ensures)
  | in-Err+in_ok-refusal-in-Err w ↦ rw w.result-is (λ settings at. of_verify settings (tree_of c.args.program.now) at c.args.bytes.now w.in-Err.error _ w.in-Err.ensures.refused w.in_ok-refusal-in-Err.ensures)
]
