use Rattle.std.proofs.Common.{rules, ◌≡◌, ◌+◌, ◌*ℤ◌, [], drop, get_or, pos, FitsSigned, to_z, of_z, w64, ap, subst}
use Rattle.std.proofs.lemmas.Int.{to_z-of_z}
use Rattle.std.proofs.lemmas.List.{drop_all}
use Rattle.c_expressions.specs.Names.{term_name}
use Rattle.c_expressions.specs.Sums.{Adds}
use Rattle.c_expressions.proofs.Summed.{left_next, left_none, times_none}
use Rattle.c_owners.specs.Owners.{loops_in, term_in}
use Rattle.c_owners.proofs.Owning.{loops_next}
use Rattle.c_owners.proofs.places.add_terms.Goals as goal

pub loop-number-preserved : goal.loop-number-preserved
loop-number-preserved c =
    let times = to_z w64 (of_z w64 c.args.times) in
    let last = c.args.last in
    let item = get_or c.args.loops.now c.loop-number.number-index (0, pos 0) in
    let fi : FitsSigned w64 item.1 = search rules in
    let first = subst (λ t. Adds c.loop-number.sum c.add_term.new.self (λ v. to_z w64 (of_z w64 item.1) *ℤ times *ℤ v (term_name t))) c.term_in.ensures c.in_ok-add_term.ensures in
    let more = subst (λ z. Adds c.loop-number.sum c.add_term.new.self (λ v. z *ℤ times *ℤ v (term_name (term_in last item.0)))) (to_z-of_z w64 item.1 fi) first in
    left_next c.args.sum.now c.loop-number.sum c.add_term.new.self (λ v. times *ℤ loops_in last v (drop c.loop-number.number-index c.args.loops.now)) (λ v. item.1 *ℤ times *ℤ v (term_name (term_in last item.0)))
    (λ v. times *ℤ loops_in last v (drop (c.loop-number.number-index + 1) c.args.loops.now)) (λ v. times *ℤ loops_in last v c.args.loops.now) c.loop-number.invariant more
    (λ v. loops_next last v c.args.loops.now c.loop-number.number-index (0, pos 0) times c.loop-number-test.true)

pub returns : goal.returns
returns c =
    let ft : FitsSigned w64 c.args.times = c.ranges.times in
    let times = to_z w64 (of_z w64 c.args.times) in
    let last = c.args.last in
    let rest = drop c.loop-number.number-index c.args.loops.now in
    let none : rest ≡ [] = drop_all c.loop-number.number-index c.args.loops.now c.loop-number-test.false in
    let all = left_none c.args.sum.now c.loop-number.sum (λ v. times *ℤ loops_in last v rest) (λ v. times *ℤ loops_in last v c.args.loops.now) c.loop-number.invariant (λ v. times_none times (loops_in last v rest) (ap (loops_in last v) none)) in
    subst (λ t. Adds c.args.sum.now c.loop-number.sum (λ v. t *ℤ loops_in last v c.args.loops.now)) (to_z-of_z w64 c.args.times ft) all
