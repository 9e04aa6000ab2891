use Rattle.std.proofs.Common.{rules, arith, ◌≡◌, None, sym, ◌∙◌}
use Rattle.bench_parts.proofs.Digits.{within-digit}
use Rattle.bench_parts.proofs.number.natural_up_to.Goals as goal

pub returns-in_err-checked_mul-clause-number : goal.returns-in_err-checked_mul-clause-number
returns-in_err-checked_mul-clause-number c =
    let none : c.from_residual.result ≡ None = search rules in
    none ∙ sym (within-digit c.args.limit c.loop-byte.number c.args.word.now c.loop-byte.byte-index (omega (arith, c.loop-byte-test.true)) (search (arith, c.ranges.limit.fits)) c.loop-byte.invariant.rest)

pub returns-in_err-number-clause-number : goal.returns-in_err-number-clause-number
returns-in_err-number-clause-number c =
    let none : c.from_residual-in_err-number.result ≡ None = search rules in
    none ∙ sym (within-digit c.args.limit c.loop-byte.number c.args.word.now c.loop-byte.byte-index (omega (arith, c.loop-byte-test.true)) (search (arith, rules)) c.loop-byte.invariant.rest)

pub returns-then-number-limit-clause-number : goal.returns-then-number-limit-clause-number
returns-then-number-limit-clause-number c =
    sym (within-digit c.args.limit c.loop-byte.number c.args.word.now c.loop-byte.byte-index (omega (arith, c.loop-byte-test.true)) (search (arith, rules)) c.loop-byte.invariant.rest)
