use Rattle.std.proofs.Common.{◌≡◌, ◌+◌, ◌≤◌, ◌^◌, drop, length, map, IsTrue}
use Rattle.nest_tree.specs.declared.tree.Parameter.{Parameter}
use Rattle.nest_tree.specs.Given.{are_all_given}
use Rattle.nest_tree.specs.Limits.{capped, wide_of, work_of}
use Rattle.nest_tree.specs.View.{statements_from}
use Rattle.nest_tree.proofs.limits.+work.Given as goal

abbrev pub invariant-statements_work-loop-item : goal.invariant-statements_work-loop-item
invariant-statements_work-loop-item l =
    let values = map (λ (p : Parameter). p.value) l.constants in
    let ends = l.initial.ends in
    let left = statements_from (drop l.item-index l.items) in
    record {
      kept : l.ends ≡ ends;
      given : IsTrue (are_all_given (length ends) (length l.constants) left);
      wide : wide_of values ends left ≡ wide_of values ends (statements_from l.items);
      most : l.work ≤ 2 ^ 64;
      work : capped (l.work + work_of values ends l.width left) ≡ capped (work_of values ends l.width (statements_from l.items));
    }
