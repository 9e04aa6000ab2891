use Rattle.std.proofs.Common.{◌≡◌, drop, length, map, IsTrue}
use Rattle.nest_tree.specs.declared.tree.Parameter.{Parameter}
use Rattle.nest_tree.specs.Given.{are_loads_given}
use Rattle.nest_tree.specs.Limits.{wide_loads}
use Rattle.nest_tree.specs.Loads.{loads_among}
use Rattle.nest_tree.specs.View.{expressions_from}
use Rattle.nest_tree.proofs.limits.+loads.Given as goal

abbrev pub invariant-check_all_loads-loop-argument : goal.invariant-check_all_loads-loop-argument
invariant-check_all_loads-loop-argument l =
    let values = map (λ (p : Parameter). p.value) l.constants in
    let left = loads_among (expressions_from (drop l.argument-index l.arguments)) in
    record {
      given : IsTrue (are_loads_given (length l.ends) (length l.constants) left);
      wide : wide_loads values l.ends left ≡ wide_loads values l.ends (loads_among (expressions_from l.arguments));
    }
