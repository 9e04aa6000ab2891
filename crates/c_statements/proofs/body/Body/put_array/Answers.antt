use Rattle.std.proofs.lemmas.Result.{on_ok_weaker}
use Rattle.c_statements.proofs.Writing.{exactly, three}
use Rattle.c_statements.proofs.body.Body.put_array.Goals as goal

pub returns : goal.returns
returns c = on_ok_weaker c.put_text-2.result (λ e. exactly _ (three _ _ _ _ _ _ _ c.in_ok-put_text.ensures c.in_ok-put_name.ensures e)) c.put_text-2.ensures
