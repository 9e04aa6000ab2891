use Rattle.std.proofs.Common.{◌≡◌, inl, sym, subst, ◌⊎◌, ⊎_elim, ◌∙◌}
use Rattle.clap.specs.Walk.{texts}
use Rattle.spmd_answer.specs.Answers.{due_in}
use Rattle.plan_input.specs.declared.status.Status.{Status}
use Rattle.plan_input.specs.declared.status.Status.TheVariants.{Done, NoMemory, PlanRefused, SourceRefused, WriteFault}
use Rattle.spmd_tool.specs.Due.{IsOrNoMemory}
use Rattle.whole_streams.specs.Streams.{WritesPart}
use Rattle.spmd_tool.specs.Written.{WritesReceipt}
use Rattle.spmd_tool.proofs.Answering.{due_from}
use Rattle.spmd_tool.proofs.Endings.{bench_runs, is_done, receipt-none, receipt-said, from-done, from-refused, from-unfit, from-unnamed, from-wrong, run-said, said-due, said_or_fault, status-exact, unfit-said, where_runnable, where_unplanned}
use Rattle.spmd_tool.proofs.tool.carry_out.Goals as goal

pub returns-in-Ok-clause-headline : goal.returns-in-Ok-clause-headline
returns-in-Ok-clause-headline g c =
    λ w takes done.
    run-said (texts c.args.words.now) _ c.in-Ok.answer.status c.say-status.result c.in-Ok.answer.text.items c.deref.result.now w _ _ (due_from (texts c.args.words.now) _ (due_in c.in-Ok.answer) c.in-Ok.receipt c.in-Ok.ensures.due) c.deref.ensures.value c.say-status.ensures.outcome c.say-status.ensures.said takes done

pub returns-in-Ok-clause-end : goal.returns-in-Ok-clause-end
returns-in-Ok-clause-end g c =
    λ w takes read done.
    let status : c.in-Ok.answer.status ≡ Done = sym (c.say-status.ensures.outcome (λ f. absurd (cc))) ∙ done in
    c.in-Ok.ensures.end w (record { reads_are = read; asked = from-done (texts c.args.words.now) _ (due_in c.in-Ok.answer) w (due_from (texts c.args.words.now) _ (due_in c.in-Ok.answer) c.in-Ok.receipt c.in-Ok.ensures.due) takes status }) (λ long. absurd (cc))

pub returns-in-Ok-clause-exact : goal.returns-in-Ok-clause-exact
returns-in-Ok-clause-exact g c =
    λ none.
    status-exact (texts c.args.words.now) _ (due_in c.in-Ok.answer) c.say-status.result IsOrNoMemory (due_from (texts c.args.words.now) _ (due_in c.in-Ok.answer) c.in-Ok.receipt c.in-Ok.ensures.due)
    (λ s e. inl (c.say-status.ensures.outcome (λ f. none.1 (c.say-status.ensures.fault f)) ∙ sym e))

pub returns-in-Ok-clause-complete : goal.returns-in-Ok-clause-complete
returns-in-Ok-clause-complete g c =
    λ none.
    where_runnable (texts c.args.words.now) _ (due_in c.in-Ok.answer) c.say-status.result IsOrNoMemory (due_from (texts c.args.words.now) _ (due_in c.in-Ok.answer) c.in-Ok.receipt c.in-Ok.ensures.due)
    (λ s e. inl (c.say-status.ensures.outcome (λ f. none.1 (c.say-status.ensures.fault f)) ∙ sym e))

pub returns-in-Ok-clause-complete_bench : goal.returns-in-Ok-clause-complete_bench
returns-in-Ok-clause-complete_bench g c =
    λ none workers points sweeps takes.
    inl
    (c.say-status.ensures.outcome (λ f. none.1 (c.say-status.ensures.fault f))
    ∙ bench_runs (texts c.args.words.now) _ (due_in c.in-Ok.answer) workers points sweeps (due_from (texts c.args.words.now) _ (due_in c.in-Ok.answer) c.in-Ok.receipt c.in-Ok.ensures.due) takes)

pub returns-in-Ok-clause-unplanned : goal.returns-in-Ok-clause-unplanned
returns-in-Ok-clause-unplanned g c =
    λ none.
    where_unplanned (texts c.args.words.now) _ (due_in c.in-Ok.answer) c.say-status.result IsOrNoMemory (due_from (texts c.args.words.now) _ (due_in c.in-Ok.answer) c.in-Ok.receipt c.in-Ok.ensures.due)
    (λ s e. inl (c.say-status.ensures.outcome (λ f. none.1 (c.say-status.ensures.fault f)) ∙ sym e))

pub returns-in-Ok-clause-refused_plan : goal.returns-in-Ok-clause-refused_plan
returns-in-Ok-clause-refused_plan g c =
    λ w takes refused.
    unfit-said (texts c.args.words.now) _ c.in-Ok.answer.status c.say-status.result c.in-Ok.answer.text.items c.deref.result.now w _ _ (due_from (texts c.args.words.now) _ (due_in c.in-Ok.answer) c.in-Ok.receipt c.in-Ok.ensures.due) c.deref.ensures.value c.say-status.ensures.outcome c.say-status.ensures.said takes refused

pub returns-in-Ok-clause-wrong_words : goal.returns-in-Ok-clause-wrong_words
returns-in-Ok-clause-wrong_words g c =
    λ wrong.
    subst (λ (s : Status). (c.say-status.result ≡ s) ⊎ ((c.say-status.result ≡ WriteFault) ⊎ (c.say-status.result ≡ NoMemory)))
    (from-wrong (texts c.args.words.now) _ (due_in c.in-Ok.answer) (due_from (texts c.args.words.now) _ (due_in c.in-Ok.answer) c.in-Ok.receipt c.in-Ok.ensures.due) wrong)
    (said_or_fault c.say-status.result c.in-Ok.answer.status c.say-status.ensures.outcome)

pub returns-in-Ok-clause-right_words : goal.returns-in-Ok-clause-right_words
returns-in-Ok-clause-right_words g c =
    λ w ask none bad.
    from-unnamed (texts c.args.words.now) _ (due_in c.in-Ok.answer) w (due_from (texts c.args.words.now) _ (due_in c.in-Ok.answer) c.in-Ok.receipt c.in-Ok.ensures.due) ask none (sym (c.say-status.ensures.outcome (λ f. absurd (cc))) ∙ bad)

pub returns-in-Ok-clause-end_refused : goal.returns-in-Ok-clause-end_refused
returns-in-Ok-clause-end_refused g c =
    λ refused.
    let status : c.in-Ok.answer.status ≡ SourceRefused = sym (c.say-status.ensures.outcome (λ f. absurd (cc))) ∙ refused in
    let ask = from-refused (texts c.args.words.now) _ (due_in c.in-Ok.answer) (due_from (texts c.args.words.now) _ (due_in c.in-Ok.answer) c.in-Ok.receipt c.in-Ok.ensures.due) status in
    c.in-Ok.ensures.end ask.0 ask.1 (λ long. absurd (cc))

pub returns-in-Ok-clause-end_unplanned : goal.returns-in-Ok-clause-end_unplanned
returns-in-Ok-clause-end_unplanned g c =
    λ refused.
    let status : c.in-Ok.answer.status ≡ PlanRefused = sym (c.say-status.ensures.outcome (λ f. absurd (cc))) ∙ refused in
    let ask = from-unfit (texts c.args.words.now) _ (due_in c.in-Ok.answer) (due_from (texts c.args.words.now) _ (due_in c.in-Ok.answer) c.in-Ok.receipt c.in-Ok.ensures.due) status in
    c.in-Ok.ensures.end ask.0 ask.1 (λ long. absurd (cc))

pub returns-in-Ok-clause-receipt : goal.returns-in-Ok-clause-receipt
returns-in-Ok-clause-receipt g c =
    λ w takes runs done.
    let status : c.in-Ok.answer.status ≡ Done = sym (c.say-status.ensures.outcome (λ f. absurd (cc))) ∙ done in
    subst (WritesReceipt w _ _ _) (sym (c.kept.ensures.done done))
    (receipt-said (texts c.args.words.now) _ c.in-Ok.answer.status c.say-status.result c.in-Ok.answer.text.items c.deref.result.now c.in-Ok.receipt w _ _ c.in-Ok.ensures.due c.deref.ensures.value status
    (c.say-status.ensures.said (λ f. absurd (cc))) takes runs)

pub returns-in-Ok-clause-no_receipt : goal.returns-in-Ok-clause-no_receipt
returns-in-Ok-clause-no_receipt g c =
    λ never.
    ⊎_elim
    (λ (done : c.say-status.result ≡ Done).
    let status : c.in-Ok.answer.status ≡ Done = sym (c.say-status.ensures.outcome (λ f. absurd (cc))) ∙ done in
    c.kept.ensures.done done ∙ receipt-none (texts c.args.words.now) _ c.in-Ok.answer.status c.in-Ok.answer.text.items c.in-Ok.receipt c.in-Ok.ensures.due status (λ w takes runs. never w takes runs done))
    (λ other. c.kept.ensures.undone other)
    (is_done c.say-status.result)

pub returns-in-Ok-clause-due : goal.returns-in-Ok-clause-due
returns-in-Ok-clause-due g c =
    λ said.
    said-due (texts c.args.words.now) _ c.in-Ok.answer.status c.say-status.result c.in-Ok.answer.text.items c.deref.result.now _ _ (due_from (texts c.args.words.now) _ (due_in c.in-Ok.answer) c.in-Ok.receipt c.in-Ok.ensures.due) c.deref.ensures.value c.say-status.ensures.outcome c.say-status.ensures.said said

pub returns-in-Ok-clause-part : goal.returns-in-Ok-clause-part
returns-in-Ok-clause-part g c =
    λ fault. record {
      due = due_in c.in-Ok.answer;
      is_due = due_from (texts c.args.words.now) _ (due_in c.in-Ok.answer) c.in-Ok.receipt c.in-Ok.ensures.due;
      written = subst (WritesPart _ _) c.deref.ensures.value (c.say-status.ensures.part fault);
    }
