use Rattle.std.proofs.Common.{sym}
use Rattle.std.proofs.lemmas.Result.{err_from_is_err_and}
use Rattle.plan_input.proofs.Firsts.{no_stray, of_line_fault, of_stray}
use Rattle.plan_input.proofs.reading.lines_of.Goals as goal

pub returns-in_err-lines-clause-refused : goal.returns-in_err-lines-clause-refused
returns-in_err-lines-clause-refused c =
    let told = err_from_is_err_and c.from_residual.result c.from_residual.ensures.1 in
    rw told.1 (of_line_fault c.args.alone c.args.bytes.now c.in_err-lines.field-0.0 told.0 c.in_err-lines.ensures.refused told.2)

pub returns-in-None-clause-none : goal.returns-in-None-clause-none
returns-in-None-clause-none c = no_stray c.args.alone c.args.bytes.now c.in_ok-lines.ensures.lists.faultless (sym c.in-None.ensures)

pub returns-in-Some-clause-refused : goal.returns-in-Some-clause-refused
returns-in-Some-clause-refused c = λ memoryful. of_stray c.args.alone c.args.bytes.now c.in-Some.line c.in_ok-lines.ensures.lists.faultless (sym c.in-Some.ensures)
