use Rattle.std.proofs.Common.{◌∙◌, ap₂}
use Rattle.std.proofs.lemmas.Result.{IfOk-weaker}
use Rattle.nest_tree.specs.View.{tree_of}
use Rattle.command_words.specs.Sweeps.{sweep_of}
use Rattle.plan_checker.specs.Proved.{first_unproved}
use Rattle.plan_input.proofs.Plans.{of_reason, of_syntax}
use Rattle.plan_input.specs.Errors.{IsTextOf}
use Rattle.spmd_answer.specs.Due.{swept_text, written}
use Rattle.spmd_answer.specs.Inputs.{readings_of}
use Rattle.spmd_answer.specs.Answers.{due_in}
use Rattle.spmd_answer.proofs.Answering.{of_sweep}
use Rattle.spmd_answer.proofs.sweep.swept.Goals as goal

pub returns-in-Err : goal.returns-in-Err
returns-in-Err g c =
    λ settings.
    let tree = tree_of c.args.program.now in
    let bytes = c.args.input.now.behind.now in
    IfOk-weaker c.refusal.result _ _
    (λ a told. of_sweep (sweep_of c.args.sweep.now) settings tree (readings_of c.args.input.now) bytes c.from.result (due_in a) (of_syntax (first_unproved tree) bytes c.in-Err.syntax c.from.result c.in-Err.ensures.refused c.from.ensures) told)
    c.refusal.ensures

pub returns-in-Ok-prove : goal.returns-in-Ok-prove
returns-in-Ok-prove g c =
    λ settings.
    let over = sweep_of c.args.sweep.now in
    let at = readings_of c.args.input.now over in
    let proved = c.in-Ok-prove.ensures in
    let text : IsTextOf c.in-Ok.plan c.args.input.now.behind.now = record { shown = c.in-Ok.ensures.shown; bytes_are = c.in-Ok.ensures.plan } in
    written _ (
      c.in-Ok.plan,
      record { text = text; proved = proved.proved },
      c.in_ok-lines-in-Ok-prove.ensures ∙ ap₂ (λ program plan. swept_text (tree_of program) plan at over) proved.program proved.plan,
    ) c.done.ensures

pub returns : goal.returns
returns g c =
    λ settings.
    let tree = tree_of c.args.program.now in
    let bytes = c.args.input.now.behind.now in
    let text : IsTextOf c.in-Ok.plan bytes = record { shown = c.in-Ok.ensures.shown; bytes_are = c.in-Ok.ensures.plan } in
    IfOk-weaker c.refusal-in-Err-prove.result _ _
    (λ a told. of_sweep (sweep_of c.args.sweep.now) settings tree (readings_of c.args.input.now) bytes c.from-in-Err-prove.result (due_in a) (of_reason (first_unproved tree) bytes c.in-Ok.plan c.in-Err-prove.reason c.from-in-Err-prove.result text c.in-Err-prove.ensures.refused c.from-in-Err-prove.ensures) told)
    c.refusal-in-Err-prove.ensures
