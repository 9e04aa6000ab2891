use Rattle.std.proofs.lemmas.Result.{on_ok_weaker}
use Rattle.c_statements.proofs.Writing.{joined}
use Rattle.c_owners.proofs.layout.Layout.put_cells.Goals as goal

pub returns : goal.returns
returns c = on_ok_weaker c.put_own_begin.result (λ e. joined c.in_ok-put_totals_begin.ensures e) c.put_own_begin.ensures
