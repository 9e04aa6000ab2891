-- The source that `bench` runs is short.
use Rattle.std.proofs.Common.{arith, ◌≡◌, ◌≤◌, ◌<◌, ◌+◌, ◌^◌, ℕ, List, [], ◌∷◌, ◌++◌, length, codes}
use Rattle.std.specs.Fmt.{decimal}
use Rattle.std.proofs.lemmas.Fmt.{length-decimal-le}
use Rattle.std.proofs.lemmas.List.{length-append}
use Rattle.spmd_answer.specs.Bench.{bench_source}

-- a line of five parts, a text before it and one behind it
line_length : (f a d b e c t : List ℕ) → length (f ++ (((a ++ (d ++ (b ++ (e ++ c)))) ++ 10 ∷ []) ++ t)) ≡ length f + (length a + (length d + (length b + (length e + length c))) + 1 + length t)
line_length f a d b e c t = omega (
  arith,
  length-append f (((a ++ (d ++ (b ++ (e ++ c)))) ++ 10 ∷ []) ++ t),
  length-append ((a ++ (d ++ (b ++ (e ++ c)))) ++ 10 ∷ []) t,
  length-append (a ++ (d ++ (b ++ (e ++ c)))) (10 ∷ []),
  length-append a (d ++ (b ++ (e ++ c))),
  length-append d (b ++ (e ++ c)),
  length-append b (e ++ c),
  length-append e c,
)

pub bench_short : (points sweeps : ℕ) → points < 2 ^ 32 → sweeps < 2 ^ 32 → length (bench_source points sweeps) ≤ 4194304
bench_short points sweeps few fewer =
    let d : length (decimal points) ≤ 10 = length-decimal-le 10 points (omega arith) (omega (arith, few)) (omega (arith, few)) in
    let e : length (decimal sweeps) ≤ 10 = length-decimal-le 10 sweeps (omega arith) (omega (arith, fewer)) (omega (arith, fewer)) in
    let whole = line_length (codes "      PROGRAM BENCH\n      INTEGER N, M\n") (codes "      PARAMETER (N=") (decimal points) (codes ", M=") (decimal sweeps) (codes ")")
    (codes "      INTEGER A(0:N+1), B(0:N+1)\n      DO 10 I = 0, N+1\n   10 A(I) = 7*I - I*I\n      DO 40 IT = 1, M\n      DO 20 I = 1, N\n   20 B(I) = (A(I-1)+A(I+1))/2\n      DO 30 I = 1, N\n   30 A(I) = B(I)\n   40 CONTINUE\n      PRINT *, A(1), A(N)\n      END\n") in
    let same : length (bench_source points sweeps) ≡ 39 + (19 + (length (decimal points) + (4 + (length (decimal sweeps) + 1))) + 1 + 243) = whole in
    omega (arith, d, e, same)
