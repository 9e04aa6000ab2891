use Rattle.std.proofs.Common.{◌≡◌, ◌-◌, Err, None, subst, ap, sym, ◌∙◌, rules}
use Rattle.std.specs.List.{AllByRecursion, list_all, slice_get}
use Rattle.std.specs.Option.{option_or}
use Rattle.std.specs.Result.{result_err}
use Rattle.std.proofs.lemmas.Bool.{and_parts}
use Rattle.nest_tree.specs.Tree.{param_values}
use Rattle.nest_tree.specs.View.{statement_of, tree_of}
use Rattle.nest_tree.proofs.Wide.{first_refused}
use Rattle.nest_tree.specs.WellFormed.{is_number_of, loops_of}
use Rattle.nest_model.specs.Instances.{Instance}
use Rattle.nest_walk.specs.InstancesLeft.{instances_left, instances_rounds, instances_tree}
use Rattle.nest_walk.specs.Paths.{Round}
use Rattle.nest_walk.specs.RoundsOf.{rounds_of}
use Rattle.nest_walk.proofs.PlacedWorks.{instance_at, reached_numbered}
use Rattle.nest_rows.specs.Nested.{IsNestedInstance, nested_works}
use Rattle.range_check.specs.Outside.{instances_outside, is_small_instance}
use Rattle.range_check.proofs.CertifiedLists.{certified_instance}
use Rattle.range_check.proofs.Sound.{here_outside, here_sound}
use Rattle.range_check.proofs.check.check_instances.Goals as goal

pub check_work-requires-clause-sound : goal.check_work-requires-clause-sound
check_work-requires-clause-sound c = λ w is.
    let tree = tree_of c.args.program.now in
    let next = c.in-Some.ensures in
    let stop = c.in-Some.stop in
    let s = statement_of stop.item.now in
    let i = next.instance.0 in
    let walked = instances_tree c.next.new.self in
    let around = instances_rounds c.next.new.self in
    let rest = instances_left c.next.new.self in
    let same = next.program ∙ c.loop-stop.invariant.walked in
    let smalls = and_parts (is_small_instance (param_values tree) i) (list_all (is_small_instance (param_values tree)) rest) (sym (ap (list_all (is_small_instance (param_values tree))) next.instance.2) ∙ c.loop-stop.invariant.small) in
    here_sound tree walked (rounds_of c.path.result.now) around stop.first s i same c.path.ensures c.args.program.now.formed next.instance.1 next.text smalls.0 w is

pub check_work-requires-clause-numbered : goal.check_work-requires-clause-numbered
check_work-requires-clause-numbered c =
    let tree = tree_of c.args.program.now in
    let next = c.in-Some.ensures in
    let walked = instances_tree c.next.new.self in
    let around = instances_rounds c.next.new.self in
    let same = next.program ∙ c.loop-stop.invariant.walked in
    ap (λ rs. list_all (λ (r : Round). is_number_of (loops_of tree.items) r.number) rs) c.path.ensures ∙ ap (λ t. list_all (λ (r : Round). is_number_of (loops_of t.items) r.number) around) (sym same) ∙ reached_numbered walked around c.in-Some.stop next.reached

pub loop-stop-preserved-in-Continue-1 : goal.loop-stop-preserved-in-Continue-1
loop-stop-preserved-in-Continue-1 c =
    let tree = tree_of c.args.program.now in
    let next = c.in-Some.ensures in
    let stop = c.in-Some.stop in
    let s = statement_of stop.item.now in
    let i = next.instance.0 in
    let walked = instances_tree c.next.new.self in
    let around = instances_rounds c.next.new.self in
    let rest = instances_left c.next.new.self in
    let same = next.program ∙ c.loop-stop.invariant.walked in
    let smalls = and_parts (is_small_instance (param_values tree) i) (list_all (is_small_instance (param_values tree)) rest) (sym (ap (list_all (is_small_instance (param_values tree))) next.instance.2) ∙ c.loop-stop.invariant.small) in
    let here = here_outside tree walked (rounds_of c.path.result.now) around stop.first s i None same c.path.ensures next.instance.1 c.in_ok-check_work.ensures in
    let split = sym c.loop-stop.invariant.first ∙ ap (instances_outside tree) next.instance.2 in
    let nests = subst (AllByRecursion (IsNestedInstance (param_values tree) (nested_works tree))) next.instance.2 c.loop-stop.invariant.nested in
    record {
      walked = same;
      small = smalls.1;
      nested = nests.1;
      first = ap (λ o. option_or o (instances_outside tree rest)) here ∙ sym split;
    }

pub loop-stop-preserved : goal.loop-stop-preserved
loop-stop-preserved c =
    let tree = tree_of c.args.program.now in
    let next = c.in-Some.ensures in
    let stop = c.in-Some.stop in
    let s = statement_of stop.item.now in
    let i = next.instance.0 in
    let walked = instances_tree c.next.new.self in
    let around = instances_rounds c.next.new.self in
    let rest = instances_left c.next.new.self in
    let same = next.program ∙ c.loop-stop.invariant.walked in
    let smalls = and_parts (is_small_instance (param_values tree) i) (list_all (is_small_instance (param_values tree)) rest) (sym (ap (list_all (is_small_instance (param_values tree))) next.instance.2) ∙ c.loop-stop.invariant.small) in
    let nests = subst (AllByRecursion (IsNestedInstance (param_values tree) (nested_works tree))) next.instance.2 c.loop-stop.invariant.nested in
    let number = ap (λ (x : Instance). x.statement) (instance_at walked around stop.first s i next.instance.1).instance_is in
    let set = c.is_certified_at.ensures c.if-not-is_certified_at.false in
    let here = certified_instance tree c.args.program.now.formed i nests.0 (λ n at. c.requires.certified (i.statement - 1) n (ap (λ k. slice_get c.args.certified.now (k - 1)) number ∙ set) at) in
    record {
      walked = same;
      small = smalls.1;
      nested = nests.1;
      first = sym (ap (λ o. option_or o (instances_outside tree rest)) here) ∙ sym (ap (instances_outside tree) next.instance.2) ∙ c.loop-stop.invariant.first;
    }

pub returns-in_err-check_work : goal.returns-in_err-check_work
returns-in_err-check_work c =
    let tree = tree_of c.args.program.now in
    let next = c.in-Some.ensures in
    let stop = c.in-Some.stop in
    let s = statement_of stop.item.now in
    let i = next.instance.0 in
    let walked = instances_tree c.next.new.self in
    let around = instances_rounds c.next.new.self in
    let rest = instances_left c.next.new.self in
    let same = next.program ∙ c.loop-stop.invariant.walked in
    let gone : c.from_residual.result ≡ Err c.in_err-check_work.field-0.0 = search rules in
    let here = here_outside tree walked (rounds_of c.path.result.now) around stop.first s i _ same c.path.ensures next.instance.1 c.in_err-check_work.ensures in
    let split = sym c.loop-stop.invariant.first ∙ ap (instances_outside tree) next.instance.2 in
    ap result_err gone ∙ first_refused c.in_err-check_work.field-0.0 _ (instances_outside tree rest) _ here split
