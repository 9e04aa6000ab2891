use Rattle.std.proofs.Common.{◌≡◌, ◌+◌, ◌∷◌, [], ◌++◌, length, get_or, w64, FitsSigned, rules, to_z-of_z, ap, sym, ◌∙◌, List, arith}
use Rattle.std.proofs.lemmas.List.{get_or_default, length-map}
use Rattle.nest_tree.specs.Form.{Form}
use Rattle.nest_tree.specs.Tree.{Head}
use Rattle.nest_tree.specs.View.{constant_of, head_of, tree_of}
use Rattle.nest_rows.specs.declared.terms.Around.{Around}
use Rattle.nest_rows.specs.Constraints.{system_of}
use Rattle.nest_rows.specs.Groups.{at_most}
use Rattle.nest_rows.specs.Views.{heads_of}
use Rattle.range_check.specs.RangeSystems.{first_loop, no_form, standing, unknowns}
use Rattle.range_check.specs.Sites.{site_of}
use Rattle.range_check.proofs.Standing.{one_row_more}
use Rattle.range_check.proofs.systems.side_system.Goals as goal

pub returns : goal.returns
returns c = λ n view.
    let tree = tree_of c.args.program.now in
    let a = c.args.access.now in
    let sign = c.args.side.0 in
    let place = c.args.side.1 in
    let params = c.args.program.now.params in
    let items = c.args.nested.now.around.items in
    let f = c.index-as_slice-place.result in
    let S = standing tree (site_of n a) in
    let vars = c.args.vars in
    let fits : FitsSigned w64 c.args.side.2 = search rules in
    let made = simp to_z-of_z at c.in_ok-bound.ensures.is in
    let first : c.len.result + 1 ≡ first_loop tree = omega (arith, c.len.ensures, params.ok.0, length-map params.items constant_of) in
    let heads = ap heads_of c.as_slice-2.ensures.value ∙ view.1 in
    let subscript = c.index-as_slice-place.is ∙ ap (λ fs. get_or fs place f) c.as_slice.ensures ∙ get_or_default a.subscripts place f no_form c.requires.there in
    let bound = made ∙ ap (λ k. at_most sign k (heads_of c.as_slice-2.result.now) f c.args.side.2) first ∙ ap (λ (hs : List Head). at_most sign (first_loop tree) hs f c.args.side.2) heads ∙ ap (λ (g : Form). at_most sign (first_loop tree) n.around g c.args.side.2) subscript in
    let long : length items ≡ length n.around = sym (length-map items (λ (x : Around). head_of x.nest.now)) ∙ ap (λ (hs : List Head). length hs) view.1 in
    let count : vars ≡ unknowns tree (site_of n a) = omega (arith, c.requires.count, long) in
    let last = at_most sign (first_loop tree) n.around (get_or a.subscripts place no_form) c.args.side.2 in
    one_row_more vars S c.in_ok-bound.bound c.in_ok-system.system c.push.new.self (c.in_ok-system.ensures n a view) c.in_ok-push.ensures.ok
    ∙ ap (λ b. system_of vars (S ++ b ∷ [])) bound ∙ ap (λ k. system_of k (S ++ last ∷ [])) count
