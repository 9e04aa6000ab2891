use Rattle.std.proofs.lemmas.Result.{on_ok_weaker}
use Rattle.c_statements.proofs.Writing.{cell_written, joined, value_written}
use Rattle.c_statements.proofs.body.Body.put_stored.Goals as goal

pub returns : goal.returns
returns c = on_ok_weaker c.put_code-2.result (λ e. joined (cell_written c.in_ok-put_access.ensures) (joined c.in_ok-put_code.ensures (joined (value_written c.in_ok-put_value.ensures) e))) c.put_code-2.ensures
