use Rattle.std.proofs.Common.{◌≡◌, ◌||◌, ◌-◌, ℕ, Bool, true, false, List, drop}
use Rattle.nest_tree.specs.View.{statements_from}
use Rattle.sync_plan.specs.Fit.{have_print}
use Rattle.instance_runs.specs.Rooms.{AreSilent, StayOpen, is_closed, is_printing_among}
use Rattle.instance_runs.proofs.room.+printing.Given as goal

abbrev pub invariant-open_printing-loop-item : goal.invariant-open_printing-loop-item
invariant-open_printing-loop-item l = record {
  prints : (l.prints || have_print (statements_from (drop l.item-index l.items))) ≡ have_print (statements_from l.items);
  kept : StayOpen l.initial.closed l.closed;
  within : (k : ℕ) → is_printing_among k (statements_from (drop l.item-index l.items)) ≡ true → is_printing_among k (statements_from l.items) ≡ true;
  only : (n : ℕ) → is_closed l.initial.closed n ≡ true → is_closed l.closed n ≡ false → is_printing_among (n - 1) (statements_from l.items) ≡ true;
  silent : (marks : List Bool) → StayOpen l.closed marks → AreSilent marks (statements_from (drop l.item-index l.items)) → AreSilent marks (statements_from l.items);
}
