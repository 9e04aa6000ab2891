use Rattle.std.proofs.Common.{◌∙◌, ap, sym, if◌then◌else◌}
use Rattle.clap.specs.Walk.{texts}
use Rattle.command_words.specs.Wanted.{wanted}
use Rattle.plan_input.specs.declared.error.InputError.TheVariants.{BadSweep, BadWords}
use Rattle.spmd_answer.specs.Due.{due_for}
use Rattle.spmd_tool.proofs.Answering.{from-asked, from-faulty, from-shown}
use Rattle.spmd_tool.proofs.answer.answer_in.Goals as goal

pub returns-in-Ok-clause-due : goal.returns-in-Ok-clause-due
returns-in-Ok-clause-due g c =
    from-asked (texts c.args.words.now) (g.S.Source.left c.args.source.now) (wanted c.in-Ok.request) c.answer_for.result c.in-Ok.ensures.taken c.answer_for.ensures.due

pub returns-in_ok-shown-in-Err-Shown-clause-due : goal.returns-in_ok-shown-in-Err-Shown-clause-due
returns-in_ok-shown-in-Err-Shown-clause-due g c =
    from-shown (texts c.args.words.now) _ _ (rw c.in-Err-Shown.field-0-is at c.in-Err-Shown.ensures.refused) c.in_ok-shown-in-Err-Shown.ensures

pub returns-in_ok-refusal-in-Err-Faulty-clause-due : goal.returns-in_ok-refusal-in-Err-Faulty-clause-due
returns-in_ok-refusal-in-Err-Faulty-clause-due g c =
    let refused = rw c.in-Err-Faulty.field-0-is at c.in-Err-Faulty.ensures.refused in
    from-faulty (texts c.args.words.now) _ _ refused.0 (c.in_ok-refusal-in-Err-Faulty.ensures.1 ∙ ap (λ b. due_for (if b then BadSweep else BadWords)) (sym refused.1))

pub returns-in_ok-refusal-in-Err-WrongSweep-clause-due : goal.returns-in_ok-refusal-in-Err-WrongSweep-clause-due
returns-in_ok-refusal-in-Err-WrongSweep-clause-due g c =
    let refused = rw c.in-Err-WrongSweep.field-0-is at c.in-Err-WrongSweep.ensures.refused in
    from-faulty (texts c.args.words.now) _ _ refused.0 (c.in_ok-refusal-in-Err-WrongSweep.ensures.1 ∙ ap (λ b. due_for (if b then BadSweep else BadWords)) (sym refused.1))
