use Rattle.std.proofs.Common.{◌<◌, length, arith}
use Rattle.std.proofs.lemmas.Bool.Decides.{nat_tests}
use Rattle.f77_forms.proofs.Digits.{past_limit, one_further, all_digits}
use Rattle.f77_forms.proofs.number.number_of.Goals as goal

pub returns-then-value-digit : goal.returns-then-value-digit
returns-then-value-digit c = past_limit c.args.text.now c.loop-byte.byte-index c.loop-byte.value c.from-digit.result (omega arith) c.loop-byte.invariant.same c.from-digit.ensures (omega arith)

pub loop-byte-preserved : goal.loop-byte-preserved
loop-byte-preserved c = one_further c.args.text.now c.loop-byte.byte-index c.loop-byte.value c.from-digit.result (omega arith) c.loop-byte.invariant (grind (arith, nat_tests)) c.from-digit.ensures (omega arith)

pub returns : goal.returns
returns c =
    let some : 0 < length c.args.text.now = grind (arith, nat_tests) in
    all_digits c.args.text.now c.loop-byte.byte-index c.loop-byte.value some (omega arith) (omega arith) c.loop-byte.invariant
