use Rattle.std.proofs.Common.{◌∙◌, ap, map}
use Rattle.std.proofs.lemmas.Result.{IfOk-weaker}
use Rattle.nest_tree.specs.View.{tree_of}
use Rattle.command_words.specs.Wanted.{wanted}
use Rattle.f77_source.specs.Sources.{setting_of}
use Rattle.spmd_answer.specs.Answers.{due_in}
use Rattle.spmd_answer.proofs.Answering.{none_due, none_of_error, of_program, of_error, receipt_of_program, refusal_due}
use Rattle.spmd_answer.proofs.answer.answer_to.Goals as goal

pub returns-in-Ok-clause-due : goal.returns-in-Ok-clause-due
returns-in-Ok-clause-due g c =
    let all = map setting_of c.deref.result.now in
    let none = none_due c.behind_of-stands.result c.args.bytes.now all c.is_alone.result c.is_alone.ensures c.in-Ok.ensures.none in
    IfOk-weaker c.answer_on.result _ _
    (λ r h. of_program (wanted c.args.request.now) (map setting_of c.args.settings.now) all c.args.bytes.now c.behind_of-stands.result (tree_of c.in-Ok.read.0) c.in-Ok.read.1 c.from_place-behind.result.now (due_in r.0) (ap (map setting_of) c.deref.ensures.value ∙ c.in_ok-given.ensures) c.behind_of-stands.ensures none c.in-Ok.ensures.program.reads.stands c.in-Ok.ensures.rest c.from_place-behind.ensures.rest h)
    c.answer_on.ensures.due

pub returns-in-Ok-clause-receipt : goal.returns-in-Ok-clause-receipt
returns-in-Ok-clause-receipt g c =
    IfOk-weaker c.answer_on.result _ _
    (λ r h. receipt_of_program (wanted c.args.request.now) (map setting_of c.args.settings.now) (map setting_of c.deref.result.now) c.args.bytes.now (tree_of c.in-Ok.read.0) c.in-Ok.read.1 c.from_place-behind.result.now (due_in r.0) r.1 (ap (map setting_of) c.deref.ensures.value ∙ c.in_ok-given.ensures) c.in-Ok.ensures.program.reads.stands c.in-Ok.ensures.rest c.from_place-behind.ensures.rest h)
    c.answer_on.ensures.receipt

pub returns-clause-due : goal.returns-clause-due
returns-clause-due g c =
    let all = map setting_of c.deref.result.now in
    of_error (wanted c.args.request.now) (map setting_of c.args.settings.now) all c.args.bytes.now c.behind_of-stands.result _ (ap (map setting_of) c.deref.ensures.value ∙ c.in_ok-given.ensures) c.behind_of-stands.ensures
    (refusal_due c.behind_of-stands.result c.args.bytes.now all c.is_alone.result c.in-Err.error c.told_as.result _ c.is_alone.ensures c.in-Err.ensures.refused c.told_as.ensures c.in_ok-refusal-in-Err.ensures)

pub returns-clause-receipt : goal.returns-clause-receipt
returns-clause-receipt g c =
    let all = map setting_of c.deref.result.now in
    none_of_error (wanted c.args.request.now) (map setting_of c.args.settings.now) all c.args.bytes.now c.behind_of-stands.result _
    (refusal_due c.behind_of-stands.result c.args.bytes.now all c.is_alone.result c.in-Err.error c.told_as.result _ c.is_alone.ensures c.in-Err.ensures.refused c.told_as.ensures c.in_ok-refusal-in-Err.ensures)
