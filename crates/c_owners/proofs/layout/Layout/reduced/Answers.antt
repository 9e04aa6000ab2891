use Rattle.std.proofs.Common.{rules, ◌≡◌, ◌+◌, ◌<◌, ◌*ℤ◌, [], drop, get_or, pos, FitsSigned, to_z, of_z, w64, ap, ◌∙◌, arith}
use Rattle.std.specs.Int.{int_rem_euclid}
use Rattle.std.proofs.lemmas.Int.{to_z-of_z}
use Rattle.std.proofs.lemmas.List.{drop_all}
use Rattle.c_expressions.specs.Names.{term_name}
use Rattle.c_expressions.specs.Sums.{terms_at, total}
use Rattle.c_expressions.specs.declared.sum.Term.TheVariants.{Loop}
use Rattle.c_owners.proofs.Likeness.{adds_alike, constant_alike, left_over, left_start, left_step, nothing_alike, term_alike}
use Rattle.c_owners.proofs.Owning.{terms_step}
use Rattle.c_owners.proofs.layout.Layout.reduced.Goals as goal

pub loop-term-init : goal.loop-term-init
loop-term-init c =
    let workers = c.args.self.now.workers in
    let some : 0 < workers = omega (arith, c.args.self.now.some) in
    let sum = c.args.sum.now in
    let fc : FitsSigned w64 c.constant.result = search rules in
    let fr : FitsSigned w64 c.residue.result = search rules in
    let constant : to_z w64 (of_z w64 c.residue.result) ≡ int_rem_euclid sum.constant (pos workers) =
    to_z-of_z w64 c.residue.result fr ∙ c.residue.ensures ∙ ap (λ z. int_rem_euclid z (pos workers)) (to_z-of_z w64 c.constant.result fc ∙ c.constant.ensures) in
    let first = adds_alike workers c.new-new.result c.add.new.self (λ v. pos 0) (λ v. to_z w64 (of_z w64 c.residue.result) *ℤ pos 1) (λ v. sum.constant) (nothing_alike workers c.new-new.result c.new-new.ensures) c.add.ensures
    (λ v. constant_alike workers (to_z w64 (of_z w64 c.residue.result)) sum.constant some constant) in
    left_start workers c.add.new.self sum c.terms-term-items.result.now c.terms-term-items.ensures first

pub loop-term-preserved : goal.loop-term-preserved
loop-term-preserved c =
    let workers = c.args.self.now.workers in
    let some : 0 < workers = omega (arith, c.args.self.now.some) in
    let items = c.terms-term-items.result.now in
    let i = c.loop-term.term-index in
    let item = get_or items i (Loop 0, pos 0) in
    let fi : FitsSigned w64 item.1 = search rules in
    let fr : FitsSigned w64 c.residue-in-loop-term.result = search rules in
    let coefficient : to_z w64 (of_z w64 c.residue-in-loop-term.result) ≡ int_rem_euclid item.1 (pos workers) =
    to_z-of_z w64 c.residue-in-loop-term.result fr ∙ c.residue-in-loop-term.ensures ∙ ap (λ z. int_rem_euclid z (pos workers)) (to_z-of_z w64 item.1 fi) in
    left_step workers c.loop-term.new c.add_term.new.self (λ v. terms_at v (drop i items)) (λ v. to_z w64 (of_z w64 c.residue-in-loop-term.result) *ℤ pos 1 *ℤ v (term_name item.0)) (λ v. item.1 *ℤ v (term_name item.0))
    (λ v. terms_at v (drop (i + 1) items)) (λ v. total v c.args.sum.now) c.loop-term.invariant c.in_ok-add_term.ensures
    (λ v. terms_step v items i (Loop 0, pos 0) c.loop-term-test.true)
    (λ v. term_alike workers (to_z w64 (of_z w64 c.residue-in-loop-term.result)) item.1 (v (term_name item.0)) some coefficient)

pub returns : goal.returns
returns c =
    let items = c.terms-term-items.result.now in
    let rest = drop c.loop-term.term-index items in
    let none : rest ≡ [] = drop_all c.loop-term.term-index items c.loop-term-test.false in
    left_over c.args.self.now.workers c.loop-term.new (λ v. terms_at v rest) (λ v. total v c.args.sum.now) c.loop-term.invariant (λ v. ap (terms_at v) none)
