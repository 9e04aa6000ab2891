use Rattle.std.proofs.Common.{refl}
use Rattle.nest_tree.specs.View.{tree_of}
use Rattle.command_words.specs.Wanted.{run}
use Rattle.plan_checker.proofs.AcceptedOrder.{accepted_ordered}
use Rattle.spmd_answer.specs.Due.{written}
use Rattle.spmd_answer.proofs.Answering.{none_of_run, of_run, run_left}
use Rattle.spmd_answer.proofs.answer.planned_run.Goals as goal

pub text_of_run-requires-clause-fits : goal.text_of_run-requires-clause-fits
text_of_run-requires-clause-fits g c = λ κs lives. c.in-Ok.ensures.accepted.fits

pub text_of_run-requires-clause-ordered : goal.text_of_run-requires-clause-ordered
text_of_run-requires-clause-ordered g c = λ κs lives. accepted_ordered (tree_of c.args.program.now) c.in-Ok.plan c.args.program.now.formed c.requires.ranges c.in-Ok.ensures.accepted

pub returns-in_ok-text-in-Ok-clause-due : goal.returns-in_ok-text-in-Ok-clause-due
returns-in_ok-text-in-Ok-clause-due g c = λ settings at. written _ (c.in-Ok.plan, (c.in-Ok.ensures.plan, c.in_ok-text-in-Ok.ensures.text)) c.done.ensures

pub returns-in_ok-text-in-Ok-clause-receipt : goal.returns-in_ok-text-in-Ok-clause-receipt
returns-in_ok-text-in-Ok-clause-receipt g c =
    λ settings.
    run_left (run c.args.run.workers c.args.run.choice c.args.run.engine settings) (tree_of c.args.program.now) c.args.input.now.behind.now c.in_ok-text-in-Ok.text.items c.in_ok-text-in-Ok.receipt c.done.result refl
    (record { plan = c.in-Ok.plan; left = c.in_ok-text-in-Ok.ensures.receipt; written = (c.in-Ok.ensures.plan, c.in_ok-text-in-Ok.ensures.text) }) c.done.ensures

pub returns-in_ok-refusal-in-Err-clause-due : goal.returns-in_ok-refusal-in-Err-clause-due
returns-in_ok-refusal-in-Err-clause-due g c =
    λ settings at.
    of_run c.args.run.workers c.args.run.choice c.args.run.engine settings (tree_of c.args.program.now) at c.args.input.now.behind.now c.in-Err.error _ c.in-Err.ensures.refused c.in_ok-refusal-in-Err.ensures

pub returns-in_ok-refusal-in-Err-clause-receipt : goal.returns-in_ok-refusal-in-Err-clause-receipt
returns-in_ok-refusal-in-Err-clause-receipt g c =
    λ settings.
    none_of_run c.args.run.workers c.args.run.choice c.args.run.engine settings (tree_of c.args.program.now) c.args.input.now.behind.now c.in-Err.error _ c.in-Err.ensures.refused c.in_ok-refusal-in-Err.ensures
