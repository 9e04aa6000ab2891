use Rattle.std.proofs.lemmas.Result.{IfOk-weaker}
use Rattle.clap.specs.Words.{found_of, rows_of}
use Rattle.plan_words.specs.Wanted.{wanted}
use Rattle.plan_words.proofs.Counted.{in_counted}
use Rattle.plan_words.proofs.read.request.Goals as goal

pub returns-in-Some-clause-counted : goal.returns-in-Some-clause-counted
returns-in-Some-clause-counted c =
    IfOk-weaker c.request_in.result _ _ (λ r h. in_counted c.in-Some.name.now (rows_of (found_of c.in-Some.inner.now)) (wanted r) h) c.request_in.ensures.taken
