use Rattle.f77_lines.proofs.Refused.{first_fault-refuses, refused-from}
use Rattle.f77_lines.proofs.list.statements.Goals as goal

pub returns-in_err-rest-clause-refused : goal.returns-in_err-rest-clause-refused
returns-in_err-rest-clause-refused c =
    let fault = c.in_err-rest.field-0.0 in
    let refuses = first_fault-refuses c.args.bytes.now fault c.in_err-rest.ensures.fault in
    refused-from c.from_residual.result c.args.bytes.now fault c.from_residual.ensures.1 refuses
