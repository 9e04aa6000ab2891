use Rattle.std.proofs.Common.{ℕ, sym, subst}
use Rattle.std.specs.Int.{IsGcd}
use Rattle.std.proofs.Math.Nat.{one-dvd}
use Rattle.std.proofs.lemmas.Nat.Gcd.{IsGcd-swap}
use Rattle.elim_rows.proofs.reduction.greatest_common_divisor.Goals as goal
use Rattle.elim_rows.proofs.reduction.greatest_common_divisor.Goals.{then-a-eq1-via-then-a-eq1, then-a-eq1-via-else-a-eq1+then-b-eq1}

with_one : (b : ℕ) → IsGcd 1 b 1
with_one b = (one-dvd 1, one-dvd b, λ d one other. one)

pub returns-then-a-eq1-clause-common : goal.returns-then-a-eq1-clause-common
returns-then-a-eq1-clause-common c =
    let a = c.args.a in
    let b = c.args.b in
    let is : IsGcd a b 1 = elim c.then-a-eq1.branch [
      | then-a-eq1-via-then-a-eq1 w ↦ subst (λ n. IsGcd n b 1) (sym w.if-a-eq1.true) (with_one b)
      | then-a-eq1-via-else-a-eq1+then-b-eq1 w ↦ subst (λ n. IsGcd a n 1) (sym w.if-b-eq1.true) (IsGcd-swap 1 a 1 (with_one a))
    ] in
    is
