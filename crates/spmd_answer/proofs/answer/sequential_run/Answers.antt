use Rattle.std.proofs.Common.{sym, true≢false}
use Rattle.spmd_answer.specs.Due.{written}
use Rattle.spmd_answer.proofs.answer.sequential_run.Goals as goal

pub returns-clause-due : goal.returns-clause-due
returns-clause-due c = λ settings at bytes. written _ c.in_ok-sequential_output.ensures c.done.ensures

pub returns-clause-receipt : goal.returns-clause-receipt
returns-clause-receipt c = λ settings bytes shared. absurd (true≢false (sym shared))
