use Rattle.std.proofs.lemmas.Result.{on_ok_weaker}
use Rattle.c_statements.proofs.Writing.{joined}
use Rattle.c_statements.proofs.body.Body.put_summed.Goals as goal

pub returns : goal.returns
returns c = on_ok_weaker c.put_flag.result (λ e. joined c.in_ok-put_code.ensures (joined c.in_ok-put_additions.ensures e)) c.put_flag.ensures
