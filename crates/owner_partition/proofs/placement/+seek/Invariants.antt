use Rattle.std.proofs.Common.{◌≡◌, ◌<◌, ◌^◌, drop, length, map, IsTrue, None}
use Rattle.nest_tree.specs.declared.tree.Parameter.{Parameter}
use Rattle.nest_tree.specs.Given.{are_all_given}
use Rattle.nest_tree.specs.Limits.{wide_of}
use Rattle.nest_tree.specs.View.{statements_from}
use Rattle.nest_model.specs.Visits.{stops_of}
use Rattle.nest_walk.specs.Walks.{enters_but}
use Rattle.owner_partition.specs.Placement.{ends_among}
use Rattle.owner_partition.proofs.placement.+seek.Given as goal

abbrev pub invariant-seek-loop-item : goal.invariant-seek-loop-item
invariant-seek-loop-item l =
    let values = map (λ (p : Parameter). p.value) l.constants in
    let rest = statements_from (drop l.item-index l.items) in
    record {
      given : IsTrue (are_all_given (length l.ends) (length l.constants) rest);
      narrow : wide_of values l.ends rest ≡ None;
      counted : stops_of (enters_but l.closed) rest < 2 ^ 32;
      ends : ends_among values (enters_but l.closed) l.ends rest l.left ≡ ends_among values (enters_but l.closed) l.initial.ends (statements_from l.items) l.place;
    }
