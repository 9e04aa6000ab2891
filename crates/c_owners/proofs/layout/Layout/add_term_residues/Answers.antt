use Rattle.std.proofs.Common.{rules, ◌≡◌, ◌+◌, ◌<◌, ◌+ℤ◌, ◌*ℤ◌, [], drop, get_or, pos, FitsSigned, to_z, of_z, w64, ap, subst, ◌∙◌, arith}
use Rattle.std.specs.Int.{int_rem_euclid}
use Rattle.std.proofs.lemmas.Int.{to_z-of_z}
use Rattle.std.proofs.lemmas.List.{drop_all}
use Rattle.c_expressions.specs.Names.{term_name}
use Rattle.c_expressions.specs.Sums.{Adds}
use Rattle.c_owners.specs.Owners.{loops_in, term_in}
use Rattle.c_owners.proofs.Likeness.{left_first, left_over, left_step, term_alike}
use Rattle.c_owners.proofs.Owning.{loops_step}
use Rattle.c_owners.proofs.layout.Layout.add_term_residues.Goals as goal

pub loop-number-init : goal.loop-number-init
loop-number-init c = λ all x. left_first c.args.self.now.workers c.args.sum.now all (λ v. loops_in c.args.last v c.args.loops.now) x

pub loop-number-preserved : goal.loop-number-preserved
loop-number-preserved c = λ all x.
    let workers = c.args.self.now.workers in
    let last = c.args.last in
    let item = get_or c.args.loops.now c.loop-number.number-index (0, pos 0) in
    let i = c.loop-number.number-index in
    let some : 0 < workers = omega (arith, c.args.self.now.some) in
    let fi : FitsSigned w64 item.1 = search rules in
    let fr : FitsSigned w64 c.residue.result = search rules in
    let coefficient : to_z w64 (of_z w64 c.residue.result) ≡ int_rem_euclid item.1 (pos workers) = to_z-of_z w64 c.residue.result fr ∙ c.residue.ensures ∙ ap (λ z. int_rem_euclid z (pos workers)) (to_z-of_z w64 item.1 fi) in
    let more = subst (λ t. Adds c.loop-number.sum c.add_term.new.self (λ v. to_z w64 (of_z w64 c.residue.result) *ℤ pos 1 *ℤ v (term_name t))) c.term_in.ensures c.in_ok-add_term.ensures in
    left_step workers c.loop-number.sum c.add_term.new.self (λ v. loops_in last v (drop i c.args.loops.now)) (λ v. to_z w64 (of_z w64 c.residue.result) *ℤ pos 1 *ℤ v (term_name (term_in last item.0))) (λ v. item.1 *ℤ v (term_name (term_in last item.0)))
    (λ v. loops_in last v (drop (i + 1) c.args.loops.now)) (λ v. all v +ℤ loops_in last v c.args.loops.now) (c.loop-number.invariant all x) more
    (λ v. loops_step last v c.args.loops.now i (0, pos 0) c.loop-number-test.true)
    (λ v. term_alike workers (to_z w64 (of_z w64 c.residue.result)) item.1 (v (term_name (term_in last item.0))) some coefficient)

pub returns : goal.returns
returns c = λ all x.
    let workers = c.args.self.now.workers in
    let rest = drop c.loop-number.number-index c.args.loops.now in
    let none : rest ≡ [] = drop_all c.loop-number.number-index c.args.loops.now c.loop-number-test.false in
    left_over workers c.loop-number.sum (λ v. loops_in c.args.last v rest) (λ v. all v +ℤ loops_in c.args.last v c.args.loops.now) (c.loop-number.invariant all x) (λ v. ap (loops_in c.args.last v) none)
