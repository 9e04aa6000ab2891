use Rattle.std.proofs.lemmas.Result.{on_ok_weaker}
use Rattle.c_statements.proofs.Writing.{counted, joined}
use Rattle.c_statements.proofs.body.Body.put_whole.Goals as goal

pub returns : goal.returns
returns c = on_ok_weaker c.put_code.result (λ e. joined c.in_ok-put_array.ensures (joined (counted c.element_count.result c.in_ok-put_natural.ensures) e)) c.put_code.ensures
