use Rattle.std.proofs.Common.{sym}
use Rattle.spmd_answer.proofs.Answering.{told_same}
use Rattle.spmd_answer.proofs.due.told_as.Goals as goal

pub returns-in_default : goal.returns-in_default
returns-in_default c = sym (told_same c.args.behind c.args.error c.in_default.not-Statement)
