use Rattle.std.proofs.Common.{◌≡◌, ◌<◌, [], length, pos, ap, sym, ◌∙◌, subst, arith}
use Rattle.std.proofs.lemmas.Bool.{eqb-false, eqb-true}
use Rattle.std.proofs.lemmas.List.{nil_from_length}
use Rattle.std.proofs.lemmas.Result.{on_ok_weaker}
use Rattle.nest_tree.specs.Layout.{bounds_of}
use Rattle.nest_tree.specs.Tree.{param_values}
use Rattle.nest_tree.specs.View.{tree_of}
use Rattle.c_expressions.specs.Sums.{SumsUp, place_at}
use Rattle.c_expressions.proofs.Telling.{element_told, scalar_told}
use Rattle.c_expressions.proofs.scope.Scope.put_access.Goals as goal

pub returns-then-is_empty : goal.returns-then-is_empty
returns-then-is_empty c =
    let subscripts = c.as_slice-subscripts.result.now in
    let none : c.args.access.now.subscripts ≡ [] = sym c.as_slice-subscripts.ensures ∙ nil_from_length subscripts (eqb-true (length subscripts) 0 (sym c.if-is_empty.ensures)) in
    on_ok_weaker c.put_scalar.result (scalar_told (tree_of c.args.self.now.program.now) c.args.self.now.privates.now c.args.access.now _ _ none) c.put_scalar.ensures

pub returns-in_ok-put_sum : goal.returns-in_ok-put_sum
returns-in_ok-put_sum c =
    let tree = tree_of c.args.self.now.program.now in
    let subscripts = c.as_slice-subscripts.result.now in
    let access = c.args.access.now in
    let place = c.in_ok-place.place in
    let other = eqb-false (length subscripts) 0 (sym c.if-is_empty.ensures) in
    let same = ap length c.as_slice-subscripts.ensures in
    let some : 0 < length access.subscripts = omega (arith, other, same) in
    let first = subst (λ bs. SumsUp place (place_at (param_values tree) (pos 1) subscripts bs)) c.bounds.ensures c.in_ok-place.ensures in
    let sums = subst (λ fs. SumsUp place (place_at (param_values tree) (pos 1) fs (bounds_of tree access.variable))) c.as_slice-subscripts.ensures first in
    on_ok_weaker c.put_text-else-is_empty.result
    (element_told tree c.args.self.now.privates.now place access _ _ _ _ _ some c.in_ok-put_name.ensures c.in_ok-put_text.ensures c.in_ok-put_sum.ensures sums)
    c.put_text-else-is_empty.ensures
