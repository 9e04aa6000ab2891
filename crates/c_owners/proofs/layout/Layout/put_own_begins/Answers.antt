use Rattle.std.proofs.lemmas.Result.{on_ok_weaker}
use Rattle.c_statements.proofs.Writing.{joined}
use Rattle.c_owners.proofs.layout.Layout.put_own_begins.Goals as goal

pub returns : goal.returns
returns c = on_ok_weaker c.put_named.result (λ e. joined c.in_ok-put_indent.ensures e) c.put_named.ensures
