use Rattle.std.proofs.lemmas.Result.{on_ok_weaker}
use Rattle.c_statements.proofs.Writing.{joined, value_written}
use Rattle.c_statements.proofs.body.Body.put_term.Goals as goal

pub returns : goal.returns
returns c = on_ok_weaker c.put_code.result (λ e. joined c.in_ok-put_total.ensures (joined (value_written c.in_ok-put_value.ensures) e)) c.put_code.ensures
