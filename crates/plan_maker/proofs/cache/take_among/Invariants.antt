use Rattle.std.proofs.Common.{vec_len}
use Rattle.std.specs.List.{All}
use Rattle.nest_tree.specs.Tree.{Tree}
use Rattle.sync_plan.specs.declared.plan.Plan.{Plan}
use Rattle.comm_system.specs.Obligations.{Slot}
use Rattle.plan_maker.specs.Caches.{IsEntry, IsHeld, waits_seen}
use Rattle.plan_maker.proofs.cache.take_among.Given as goal

abbrev pub invariant-loop-entry : goal.invariant-loop-entry
invariant-loop-entry l = record {
  entries : (tree : Tree) (plan : Plan) (slot : Slot) → All (IsEntry tree plan slot) l.fn.entries.items → All (IsEntry tree plan slot) l.left.items;
  held : (tree : Tree) (plan : Plan) (slot : Slot) → IsHeld tree plan slot (waits_seen l.waits) l.fn.entries.items → IsHeld tree plan slot (waits_seen l.waits) l.left.items;
}

abbrev pub decreases-loop-entry : goal.decreases-loop-entry
decreases-loop-entry l = vec_len l.left
