use Rattle.std.proofs.Common.{◌≡◌, ◌+◌, Err, IsTrue, refl, subst, ap, sym, ◌∙◌, rules, arith}
use Rattle.std.specs.Prelude.{is_none}
use Rattle.std.specs.List.{AllByRecursion, flat_map, list_all}
use Rattle.std.specs.Option.{option_or}
use Rattle.std.specs.Result.{result_err}
use Rattle.std.proofs.lemmas.Bool.{and_parts}
use Rattle.std.proofs.lemmas.List.Folds.{list_all-append}
use Rattle.list_lemmas.proofs.Each.{all_split}
use Rattle.nest_tree.specs.Tree.{param_values}
use Rattle.nest_tree.specs.View.{statement_of, tree_of}
use Rattle.nest_tree.proofs.Wide.{first_refused}
use Rattle.nest_model.specs.Instances.{instances, works_in}
use Rattle.nest_model.specs.Ranges.{IsInRange}
use Rattle.nest_model.specs.Visits.{every}
use Rattle.nest_walk.specs.Cursors.{is_reached, left_of, loops_in, rounds_in, tree_in}
use Rattle.nest_walk.specs.Places.{numbers_of}
use Rattle.nest_walk.specs.RoundsOf.{rounds_of}
use Rattle.nest_walk.specs.Texts.{StandFrom, placed_in, works}
use Rattle.nest_walk.specs.Walks.{enters_but}
use Rattle.nest_walk.proofs.Alone.{reached}
use Rattle.nest_rows.specs.Nested.{IsNestedInstance, nested_works}
use Rattle.nest_rows.proofs.Nesting.{instance_nested}
use Rattle.range_check.specs.Outside.{instances_outside, is_small_instance}
use Rattle.range_check.specs.Stops.{instances_there, visit_instances}
use Rattle.range_check.proofs.Lists.{none-instances}
use Rattle.range_check.proofs.Sound.{instances_small}
use Rattle.range_check.proofs.StopInstances.{stops_same}
use Rattle.range_check.proofs.StopRanges.{IsWithin, certified_within, numbers_within, ok_in_range, outside-parts, stop_first}
use Rattle.range_check.proofs.check.check_others.Goals as goal

pub loop-stop-init : goal.loop-stop-init
loop-stop-init c =
    let tree = tree_of c.args.program.now in
    let all = ap (flat_map (visit_instances (param_values tree))) c.new-stops.ensures.visits ∙ stops_same tree (enters_but _) in
    record {
      walked = c.new-stops.ensures.program;
      small = ap (list_all (is_small_instance (param_values tree))) all ∙ instances_small tree c.args.program.now.formed c.args.program.now.limits;
      nested = subst (AllByRecursion (IsNestedInstance (param_values tree) (nested_works tree))) (sym all) (instance_nested tree c.args.program.now.formed);
      first = ap (instances_outside tree) all;
      own = c.none-instances.ensures.program;
    }

pub works-requires : goal.works-requires
works-requires c =
    let known = reached (tree_in c.next.new.self) (rounds_in c.next.new.self) c.in-Some.stop c.in-Some.ensures.reached in
    omega (arith, known.few)

pub overflow_add-behind : goal.overflow_add-behind
overflow_add-behind c =
    let known = reached (tree_in c.next.new.self) (rounds_in c.next.new.self) c.in-Some.stop c.in-Some.ensures.reached in
    omega (arith, known.few, c.works.ensures)

pub restart-requires-clause-reached : goal.restart-requires-clause-reached
restart-requires-clause-reached c =
    let next = c.in-Some.ensures in
    let stop = c.in-Some.stop in
    let walked = next.program ∙ c.loop-stop.invariant.walked ∙ sym c.loop-stop.invariant.own in
    let here = subst (λ rs. IsTrue (is_reached (tree_in c.next.new.self) rs stop)) (sym c.path.ensures) next.reached in
    subst (λ t. IsTrue (is_reached t (rounds_of c.path.result.now) stop)) walked here

pub restart-requires-clause-text : goal.restart-requires-clause-text
restart-requires-clause-text c =
    let next = c.in-Some.ensures in
    let stop = c.in-Some.stop in
    let walked = next.program ∙ c.loop-stop.invariant.walked ∙ sym c.loop-stop.invariant.own in
    let here = subst (λ rs. StandFrom (works (tree_in c.next.new.self)) stop.first (placed_in every (numbers_of rs) (statement_of stop.item.now))) (sym c.path.ensures) next.text.works in
    subst (λ t. StandFrom (works t) stop.first (placed_in every (numbers_of (rounds_of c.path.result.now)) (statement_of stop.item.now))) walked here

pub check_instances-requires-clause-small : goal.check_instances-requires-clause-small
check_instances-requires-clause-small c =
    let tree = tree_of c.args.program.now in
    let params = param_values tree in
    let next = c.in-Some.ensures in
    let rounds = rounds_in c.next.new.self in
    let walked = next.program ∙ c.loop-stop.invariant.walked in
    let here = instances_there tree rounds c.in-Some.stop in
    let rest = flat_map (visit_instances params) (left_of c.next.new.self) in
    let small = list_all (is_small_instance params) in
    let first = stop_first tree (tree_in c.next.new.self) rounds c.in-Some.stop (left_of c.loop-stop.stops) (left_of c.next.new.self) walked next.stop in
    let parts = and_parts (small here) (small rest) (sym (ap small first ∙ list_all-append (is_small_instance params) here rest) ∙ c.loop-stop.invariant.small) in
    let same = c.restart.ensures.instances ∙ ap (λ t. instances_there t (rounds_of c.path.result.now) c.in-Some.stop) c.loop-stop.invariant.own ∙ ap (λ rs. instances_there tree rs c.in-Some.stop) c.path.ensures in
    ap small same ∙ parts.0

pub check_instances-requires-clause-nested : goal.check_instances-requires-clause-nested
check_instances-requires-clause-nested c =
    let tree = tree_of c.args.program.now in
    let params = param_values tree in
    let next = c.in-Some.ensures in
    let rounds = rounds_in c.next.new.self in
    let walked = next.program ∙ c.loop-stop.invariant.walked in
    let here = instances_there tree rounds c.in-Some.stop in
    let rest = flat_map (visit_instances params) (left_of c.next.new.self) in
    let nested = IsNestedInstance params (nested_works tree) in
    let first = stop_first tree (tree_in c.next.new.self) rounds c.in-Some.stop (left_of c.loop-stop.stops) (left_of c.next.new.self) walked next.stop in
    let parts = all_split nested here rest (subst (AllByRecursion nested) first c.loop-stop.invariant.nested) in
    let same = c.restart.ensures.instances ∙ ap (λ t. instances_there t (rounds_of c.path.result.now) c.in-Some.stop) c.loop-stop.invariant.own ∙ ap (λ rs. instances_there tree rs c.in-Some.stop) c.path.ensures in
    subst (AllByRecursion nested) (sym same) parts.0

-- the stop's instances are all certified
pub loop-stop-preserved : goal.loop-stop-preserved
loop-stop-preserved c =
    let tree = tree_of c.args.program.now in
    let params = param_values tree in
    let next = c.in-Some.ensures in
    let stop = c.in-Some.stop in
    let rounds = rounds_in c.next.new.self in
    let walked = next.program ∙ c.loop-stop.invariant.walked in
    let here = instances_there tree rounds stop in
    let rest = flat_map (visit_instances params) (left_of c.next.new.self) in
    let small = list_all (is_small_instance params) in
    let nested = IsNestedInstance params (nested_works tree) in
    let first = stop_first tree (tree_in c.next.new.self) rounds stop (left_of c.loop-stop.stops) (left_of c.next.new.self) walked next.stop in
    let parts = and_parts (small here) (small rest) (sym (ap small first ∙ list_all-append (is_small_instance params) here rest) ∙ c.loop-stop.invariant.small) in
    let nests = all_split nested here rest (subst (AllByRecursion nested) first c.loop-stop.invariant.nested) in
    let set = c.are_certified.ensures c.if-not-are_certified.false in
    let behind : stop.first + works_in (statement_of stop.item.now) ≡ stop.first + c.works.result = ap (λ n. stop.first + n) (sym c.works.ensures) in
    let numbers = subst (λ n. AllByRecursion (IsWithin stop.first n) here) behind (numbers_within params (statement_of stop.item.now) stop.first (loops_in tree rounds)) in
    let none = certified_within tree c.args.program.now.formed c.args.certified.now stop.first (stop.first + c.works.result) set c.requires.certified here nests.0 numbers in
    record {
      walked = walked;
      small = parts.1;
      nested = nests.1;
      first = sym (ap (λ o. option_or o (instances_outside tree rest)) none) ∙ sym (outside-parts tree here rest) ∙ sym (ap (instances_outside tree) first) ∙ c.loop-stop.invariant.first;
      own = c.loop-stop.invariant.own;
    }

pub loop-stop-preserved-in-Continue-1 : goal.loop-stop-preserved-in-Continue-1
loop-stop-preserved-in-Continue-1 c =
    let tree = tree_of c.args.program.now in
    let params = param_values tree in
    let next = c.in-Some.ensures in
    let stop = c.in-Some.stop in
    let rounds = rounds_in c.next.new.self in
    let walked = next.program ∙ c.loop-stop.invariant.walked in
    let here = instances_there tree rounds stop in
    let rest = flat_map (visit_instances params) (left_of c.next.new.self) in
    let small = list_all (is_small_instance params) in
    let nested = IsNestedInstance params (nested_works tree) in
    let first = stop_first tree (tree_in c.next.new.self) rounds stop (left_of c.loop-stop.stops) (left_of c.next.new.self) walked next.stop in
    let parts = and_parts (small here) (small rest) (sym (ap small first ∙ list_all-append (is_small_instance params) here rest) ∙ c.loop-stop.invariant.small) in
    let nests = all_split nested here rest (subst (AllByRecursion nested) first c.loop-stop.invariant.nested) in
    let same = c.restart.ensures.instances ∙ ap (λ t. instances_there t (rounds_of c.path.result.now) stop) c.loop-stop.invariant.own ∙ ap (λ rs. instances_there tree rs stop) c.path.ensures in
    let none = sym (ap (instances_outside tree) same) ∙ sym c.in_ok-check_instances.ensures in
    record {
      walked = walked;
      small = parts.1;
      nested = nests.1;
      first = sym (ap (λ o. option_or o (instances_outside tree rest)) none) ∙ sym (outside-parts tree here rest) ∙ sym (ap (instances_outside tree) first) ∙ c.loop-stop.invariant.first;
      own = c.restart.ensures.program ∙ c.loop-stop.invariant.own;
    }

pub returns-in_err-check_instances-clause-first : goal.returns-in_err-check_instances-clause-first
returns-in_err-check_instances-clause-first c =
    let tree = tree_of c.args.program.now in
    let params = param_values tree in
    let next = c.in-Some.ensures in
    let stop = c.in-Some.stop in
    let rounds = rounds_in c.next.new.self in
    let walked = next.program ∙ c.loop-stop.invariant.walked in
    let here = instances_there tree rounds stop in
    let rest = flat_map (visit_instances params) (left_of c.next.new.self) in
    let first = stop_first tree (tree_in c.next.new.self) rounds stop (left_of c.loop-stop.stops) (left_of c.next.new.self) walked next.stop in
    let same = c.restart.ensures.instances ∙ ap (λ t. instances_there t (rounds_of c.path.result.now) stop) c.loop-stop.invariant.own ∙ ap (λ rs. instances_there tree rs stop) c.path.ensures in
    let gone : c.from_residual.result ≡ Err c.in_err-check_instances.field-0.0 = search rules in
    let here_is = c.in_err-check_instances.ensures ∙ ap (instances_outside tree) same in
    let split = sym c.loop-stop.invariant.first ∙ ap (instances_outside tree) first ∙ outside-parts tree here rest in
    ap result_err gone ∙ first_refused c.in_err-check_instances.field-0.0 _ (instances_outside tree rest) _ here_is split

pub returns-in_err-check_instances-clause-inside : goal.returns-in_err-check_instances-clause-inside
returns-in_err-check_instances-clause-inside c =
    ok_in_range (tree_of c.args.program.now) c.from_residual.result (returns-in_err-check_instances-clause-first c)

pub returns-clause-first : goal.returns-clause-first
returns-clause-first c =
    let tree = tree_of c.args.program.now in
    sym (ap (λ vs. instances_outside tree (flat_map (visit_instances (param_values tree)) vs)) c.in_default.ensures.stop) ∙ c.loop-stop.invariant.first

pub returns-clause-inside : goal.returns-clause-inside
returns-clause-inside c =
    let tree = tree_of c.args.program.now in
    let ranges : IsInRange tree = sym (none-instances tree (instances tree)) ∙ ap is_none (sym (returns-clause-first c)) in
    (λ _. ranges, λ _. refl)
