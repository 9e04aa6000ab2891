use Rattle.std.proofs.Common.{rules, ◌≡◌, ◌+ℤ◌, FitsSigned, Some, slice_get, slice_set, to_z, of_z, w64, ap, refl, ◌∙◌}
use Rattle.std.proofs.lemmas.Int.{to_z-of_z}
use Rattle.nest_tree.specs.Values.{wrapped}
use Rattle.c_expressions.proofs.Summed.{adds_pushed, adds_up}
use Rattle.c_expressions.proofs.sum.Sum.add_multiple.Goals as goal

pub returns-in-Some : goal.returns-in-Some
returns-in-Some c =
    let fk : FitsSigned w64 c.args.coefficient = c.ranges.coefficient in
    let fb : FitsSigned w64 c.in-Some.before = search rules in
    let fr : FitsSigned w64 c.both-both.result = search rules in
    let at : slice_get c.args.self.now.terms.items c.in-Some.place ≡ Some (c.args.term, c.in-Some.before) = c.in-Some.ensures in
    let value : c.both-both.result ≡ wrapped (c.in-Some.before +ℤ c.args.coefficient) = simp to_z-of_z at c.both-both.ensures.value in
    adds_up c.args.self.now _ c.in-Some.place c.args.term c.in-Some.before c.args.coefficient c.both-both.result at value c.both-both.ensures.constant
    (ap (λ t. slice_set t.items c.in-Some.place (c.args.term, to_z w64 (of_z w64 c.both-both.result))) c.both-both.ensures.terms ∙ ap (λ z. slice_set c.args.self.now.terms.items c.in-Some.place (c.args.term, z)) (to_z-of_z w64 c.both-both.result fr))
    (λ h. let x = c.both-both.ensures.exact h in let exact : c.both-both.result ≡ c.in-Some.before +ℤ c.args.coefficient = simp to_z-of_z at x.1 in (x.0, exact))

pub returns-in_ok-push-in-None : goal.returns-in_ok-push-in-None
returns-in_ok-push-in-None c =
    let fk : FitsSigned w64 c.args.coefficient = c.ranges.coefficient in
    let items = simp to_z-of_z at c.in_ok-push-in-None.ensures.items in
    adds_pushed c.args.self.now _ c.args.term c.args.coefficient refl items (λ h. h)
