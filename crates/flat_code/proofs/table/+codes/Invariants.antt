use Rattle.std.proofs.Common.{List, ℕ, take}
use Rattle.nest_tree.specs.View.{statements_from}
use Rattle.nest_model.specs.Visits.{every}
use Rattle.nest_walk.specs.Grown.{GrewBy}
use Rattle.nest_walk.specs.Texts.{placed_of}
use Rattle.flat_code.specs.CodeTables.{HasCode}
use Rattle.flat_code.proofs.table.+codes.Given as goal

abbrev pub invariant-push_codes-loop-item : goal.invariant-push_codes-loop-item
invariant-push_codes-loop-item l = (around : List ℕ) → GrewBy HasCode (placed_of every around (statements_from (take l.item-index l.items))) l.initial.codes.items l.codes.items
