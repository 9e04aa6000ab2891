use Rattle.std.proofs.Common.{map, refl}
use Rattle.std.proofs.lemmas.Result.{IfOk-weaker}
use Rattle.f77_source.specs.Sources.{setting_of}
use Rattle.nest_tree.specs.View.{tree_of}
use Rattle.spmd_answer.specs.declared.source.Behind.TheVariants.{SweptPlan}
use Rattle.spmd_answer.proofs.Answering.{reading_fits, reading_refused, refusal_due}
use Rattle.spmd_answer.proofs.sweep.reading_text.Goals as goal

pub returns-in-Ok : goal.returns-in-Ok
returns-in-Ok c =
    let proven = c.args.proven.now in
    IfOk-weaker c.fit_text.result _ _ (λ t h. reading_fits (tree_of proven.program.now) proven.plan.now c.args.bytes.now (map setting_of c.args.settings.now) (tree_of c.in-Ok.program) t.items c.in-Ok.ensures.none c.in-Ok.ensures.program.reads.stands h) c.fit_text.ensures

pub returns-in_ok-refusal-in-Err : goal.returns-in_ok-refusal-in-Err
returns-in_ok-refusal-in-Err c =
    let proven = c.args.proven.now in
    let all = map setting_of c.args.settings.now in
    reading_refused (tree_of proven.program.now) proven.plan.now c.args.bytes.now all _
    (refusal_due SweptPlan c.args.bytes.now all _ c.in-Err.error c.told_as.result _ refl c.in-Err.ensures.refused c.told_as.ensures c.in_ok-refusal-in-Err.ensures)
