use Rattle.std.proofs.Common.{Err, ap, map, ◌∙◌}
use Rattle.clap.specs.Walk.{texts}
use Rattle.command_words.specs.Wanted.{wanted}
use Rattle.f77_source.specs.Sources.{setting_of}
use Rattle.spmd_tool.proofs.Answering.{long-of, read-of, wrong-of}
use Rattle.spmd_tool.proofs.answer.answer_for.Goals as goal

pub returns-in-Err-Word-clause-due : goal.returns-in-Err-Word-clause-due
returns-in-Err-Word-clause-due g c =
    wrong-of (wanted c.args.request.now) _ (texts c.settings_in.result.now) c.in-Err-Word.index _ c.settings_in.ensures
    (rw c.in-Err-Word.field-0-is at c.in-Err-Word.ensures.refused) c.in_ok-refusal-in-Err-Word.ensures.1

pub returns-in-Ok-source_of-clause-due : goal.returns-in-Ok-source_of-clause-due
returns-in-Ok-source_of-clause-due g c =
    let same = ap (map setting_of) c.deref.ensures.value in
    read-of (wanted c.args.request.now) _ c.in-Ok-source_of.bytes.items c.in-Ok-source_of.ensures.bytes c.deref-in-Ok-source_of.result.now (texts c.settings_in.result.now) (map setting_of c.deref.result.now) _ _ c.settings_in.ensures
    (c.in-Ok.ensures.read.0, same ∙ c.in-Ok.ensures.read.1) c.deref-in-Ok-source_of.ensures.value c.in-Ok-source_of.ensures.short
    c.in_ok-answer_to-in-Ok-source_of.ensures.due c.in_ok-answer_to-in-Ok-source_of.ensures.receipt

pub returns-in-Err-TooLong-clause-due : goal.returns-in-Err-TooLong-clause-due
returns-in-Err-TooLong-clause-due g c =
    long-of (wanted c.args.request.now) _ _ (texts c.settings_in.result.now) _ c.settings_in.ensures c.in-Ok.ensures.read.0
    (c.in-Err-TooLong.ensures.long (ap Err c.in-Err-TooLong.field-0-is)) c.in_ok-refusal-in-Err-TooLong.ensures.1
