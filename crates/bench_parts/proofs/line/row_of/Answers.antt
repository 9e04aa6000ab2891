use Rattle.std.proofs.Common.{rules, IsTrue}
use Rattle.std.proofs.lemmas.List.Elements.{All-push}
use Rattle.farkas_cert.specs.Combination.{is_narrow}
use Rattle.bench_parts.proofs.RowWords.{with_coefs-word}
use Rattle.bench_parts.proofs.line.row_of.Goals as goal

pub loop-place-preserved : goal.loop-place-preserved
loop-place-preserved c = record {
  row = search (rules, with_coefs-word);
  narrow = search (rules, All-push (λ a. IsTrue (is_narrow a)) c.loop-place.coefs c.in-Some.coef c.loop-place.invariant.narrow);
}
