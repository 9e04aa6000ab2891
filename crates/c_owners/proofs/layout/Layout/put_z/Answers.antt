use Rattle.std.proofs.lemmas.Result.{on_ok_weaker}
use Rattle.c_statements.proofs.Writing.{joined}
use Rattle.c_owners.proofs.layout.Layout.put_z.Goals as goal

pub returns : goal.returns
returns c = on_ok_weaker c.put_code-2.result (λ e. joined c.in_ok-put_indent.ensures (joined c.in_ok-put_code.ensures (joined c.in_ok-put_last_trip.ensures e))) c.put_code-2.ensures
