use Rattle.std.proofs.Common.{◌+◌, ◌<◌}
use Rattle.nest_tree.specs.View.{statements_from}
use Rattle.nest_model.specs.Visits.{stops_of}
use Rattle.owner_partition.specs.Marks.{enters_outer}
use Rattle.thread_code.specs.Tables.{table_of}
use Rattle.thread_code.proofs.Codes.{IsMade}
use Rattle.thread_code.proofs.making.Maker.+codes.Given as goal

abbrev pub invariant-codes-loop-item : goal.invariant-codes-loop-item
invariant-codes-loop-item l =
    l.first + stops_of (enters_outer l.self.plan.now.cut.marks) (statements_from l.items) < 4294967296 → IsMade (table_of l.self.turnings.now) l.self.plan.now l.items l.first l.codes.items l.item-index l.place
