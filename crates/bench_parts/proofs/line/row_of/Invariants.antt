use Rattle.std.proofs.Common.{◌≡◌, ◌+◌, drop, map, IsTrue}
use Rattle.std.specs.List.{All}
use Rattle.farkas_cert.specs.Combination.{is_narrow}
use Rattle.bench_parts.specs.Lines as spec
use Rattle.bench_parts.proofs.RowWords.{with_coefs}
use Rattle.bench_parts.proofs.line.row_of.Given as goal

-- the row is that of the words left, behind the coefficients so far
abbrev pub invariant-loop-place : goal.invariant-loop-place
invariant-loop-place l = record {
  row : spec.row_from 1 (map (λ w. w.now) l.words) ≡ with_coefs l.coefs (spec.row_from (l.place + 1) (map (λ w. w.now) (drop l.place l.words)));
  narrow : All (λ a. IsTrue (is_narrow a)) l.coefs;
}
