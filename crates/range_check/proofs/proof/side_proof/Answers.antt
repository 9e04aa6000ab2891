use Rattle.std.proofs.Common.{◌≡◌, length, ap, sym, ◌∙◌, IfNone, IfOk, List, subst, arith}
use Rattle.std.proofs.lemmas.List.{length-map}
use Rattle.farkas_cert.specs.Inequalities.{Inequalities}
use Rattle.nest_tree.specs.Tree.{Head}
use Rattle.nest_tree.specs.View.{head_of, tree_of}
use Rattle.nest_rows.specs.declared.terms.Around.{Around}
use Rattle.presolve.specs.Presolution.{IsPresolved}
use Rattle.range_check.specs.RangeSystems.{IsKeptAs, side_system}
use Rattle.range_check.specs.Sites.{site_of}
use Rattle.range_check.proofs.Orders.{rising_few}
use Rattle.range_check.proofs.proof.side_proof.Goals as goal

pub left_proof-requires : goal.left_proof-requires
left_proof-requires c =
    let n = c.requires.seen.0 in
    let view = c.requires.seen.1 in
    let items = c.args.nested.now.around.items in
    let around = c.as_slice-around.result.now in
    let left = c.in_ok-left.left in
    let is = c.in_ok-left.ensures.presolved in
    let whole = c.in_ok-system.system in
    let columns = ap (λ (s : Inequalities). s.vars) is.system in
    let few = rising_few 0 whole.vars left.columns is.all.rising (omega arith) in
    let vars = ap (λ (s : Inequalities). s.vars) (c.in_ok-system.ensures n view) in
    let long : length items ≡ length n.around = sym (length-map items (λ (x : Around). head_of x.nest.now)) ∙ ap (λ (hs : List Head). length hs) view.1 in
    let same : length around ≡ length items = ap (λ (xs : List Around). length xs) c.as_slice-around.ensures.value in
    omega (arith, columns, few, vars, long, same, c.in-Some.ensures.count)

pub returns-clause-kept : goal.returns-clause-kept
returns-clause-kept c = λ w n view.
    let items = c.args.nested.now.around.items in
    let around = c.as_slice-around.result.now in
    let side = side_system (tree_of c.args.program.now) (site_of n c.args.access.now) c.args.side.0 c.args.side.1 c.args.side.2 in
    let long : length items ≡ length n.around = sym (length-map items (λ (x : Around). head_of x.nest.now)) ∙ ap (λ (hs : List Head). length hs) view.1 in
    let same : length around ≡ length items = ap (λ (xs : List Around). length xs) c.as_slice-around.ensures.value in
    let is = subst (λ (s : Inequalities). IsPresolved s c.in_ok-left.left) (c.in_ok-system.ensures n view) c.in_ok-left.ensures.presolved in
    subst (λ k. IfOk c.left_proof.result (λ o. IfNone o (IsKeptAs side k))) (same ∙ long) (c.left_proof.ensures.kept w side is)
