use Rattle.std.proofs.Common.{rules, w64, FitsSigned, arith}
use Rattle.std.proofs.lemmas.Int.{ints}
use Rattle.spmd_answer.proofs.Sweeps.{bounds_are}
use Rattle.spmd_answer.proofs.sweep.count_in.Goals as goal

pub overflow_cast-result : goal.overflow_cast-result
overflow_cast-result c =
    let low = c.args.sweep.now.low in
    let high = c.args.sweep.now.high in
    let bounds = bounds_are low high c.requires in
    let first : FitsSigned w64 low = search rules in
    let last : FitsSigned w64 high = search rules in
    (omega (arith, ints, bounds.0, bounds.1, first, last), omega (arith, ints, bounds.0, bounds.1, first, last))

pub returns-clause-within : goal.returns-clause-within
returns-clause-within c =
    let low = c.args.sweep.now.low in
    let high = c.args.sweep.now.high in
    let bounds = bounds_are low high c.requires in
    let first : FitsSigned w64 low = search rules in
    let last : FitsSigned w64 high = search rules in
    omega (arith, ints, bounds.0, bounds.1, first, last)
