use Rattle.std.proofs.lemmas.Result.{on_ok_weaker}
use Rattle.c_statements.proofs.Writing.{joined}
use Rattle.c_owners.proofs.layout.Layout.put_total_begins.Goals as goal

pub returns : goal.returns
returns c = on_ok_weaker c.put_named-2.result (λ e. joined c.in_ok-put_indent.ensures (joined c.in_ok-put_named.ensures e)) c.put_named-2.ensures
