use Rattle.std.proofs.Common.{List, ◌++◌, ap, sym, ◌∙◌, length, arith}
use Rattle.std.specs.List.{flat_map}
use Rattle.nest_tree.specs.Tree.{param_values}
use Rattle.nest_tree.specs.View.{statement_of}
use Rattle.nest_model.specs.Visits.{Visit, instances_at}
use Rattle.nest_walk.specs.Cursors.{left_of, rounds_in, tree_in}
use Rattle.nest_walk.proofs.InstanceLists.{at_stop, no_instance, some_instance}
use Rattle.nest_walk.proofs.instances.Instances.next.Goals as goal

pub returns-then-is_executed-clause-instance : goal.returns-then-is_executed-clause-instance
returns-then-is_executed-clause-instance c =
    let old = c.loop-stop.self.cursor in
    let new = c.next.new.self in
    let s = c.in-Some.stop in
    let one = some_instance (tree_in new) (rounds_in new) s.first (statement_of s.item.now) (sym c.is_executed.ensures ∙ c.if-is_executed.true) in
    let both = at_stop old new s c.in-Some.ensures.stop c.next.ensures.program in
    (one.0, one.1, sym c.loop-stop.invariant.left ∙ both ∙ ap (λ xs. xs ++ flat_map (instances_at (param_values (tree_in new))) (left_of new)) one.1)

pub loop-stop-smaller : goal.loop-stop-smaller
loop-stop-smaller c = omega (arith, ap (λ (xs : List Visit). length xs) c.in-Some.ensures.stop)

pub loop-stop-preserved : goal.loop-stop-preserved
loop-stop-preserved c =
    let old = c.loop-stop.self.cursor in
    let new = c.next.new.self in
    let s = c.in-Some.stop in
    let none = no_instance (tree_in new) (rounds_in new) s.first (statement_of s.item.now) (sym c.is_executed.ensures ∙ c.if-is_executed.false) in
    let both = at_stop old new s c.in-Some.ensures.stop c.next.ensures.program in
    record {
      left = sym (both ∙ ap (λ xs. xs ++ flat_map (instances_at (param_values (tree_in new))) (left_of new)) none) ∙ c.loop-stop.invariant.left;
      program = c.next.ensures.program ∙ c.loop-stop.invariant.program;
    }

pub returns-clause-instance : goal.returns-clause-instance
returns-clause-instance c = sym c.loop-stop.invariant.left ∙ ap (flat_map (instances_at (param_values (tree_in c.loop-stop.self.cursor)))) c.in_default.ensures.stop
