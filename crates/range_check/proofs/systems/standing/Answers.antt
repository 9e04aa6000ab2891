use Rattle.std.proofs.Common.{◌≡◌, ◌+◌, map, ap, sym, ◌∙◌, arith}
use Rattle.std.proofs.lemmas.List.{length-map}
use Rattle.nest_tree.specs.View.{constant_of, tree_of}
use Rattle.nest_tree.specs.declared.tree.Parameter.{Parameter}
use Rattle.nest_walk.proofs.CursorMoves.{values_are}
use Rattle.nest_rows.specs.Views.{heads_of}
use Rattle.range_check.specs.RangeSystems.{first_loop}
use Rattle.range_check.proofs.Standing.{standing_is}
use Rattle.range_check.proofs.systems.standing.Goals as goal

pub returns : goal.returns
returns c = λ n a view.
    let params = c.args.program.now.params in
    let values = ap (λ ps. map (λ (q : Parameter). q.value) ps) c.deref.ensures.value ∙ sym (values_are params.items) in
    let first : c.len.result + 1 ≡ first_loop (tree_of c.args.program.now) = omega (arith, c.len.ensures, params.ok.0, length-map params.items constant_of) in
    let heads = ap heads_of c.as_slice-around.ensures.value ∙ view.1 in
    standing_is (tree_of c.args.program.now) n a c.args.vars (c.len.result + 1) (map (λ (q : Parameter). q.value) c.deref.result.now) (heads_of c.as_slice-around.result.now) c.empty-system.result c.push_constants.new.self c.push_loops.new.system c.push_comparison.new.system
    c.empty-system.ensures c.push_constants.ensures c.in_ok-push_loops.ensures (c.in_ok-push_comparison.ensures n.what view.0) values first heads
