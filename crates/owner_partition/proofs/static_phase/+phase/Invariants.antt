use Rattle.std.proofs.Common.{◌≡◌, ◌<◌, ◌^◌, ℕ, IsTrue, drop}
use Rattle.std.specs.Prelude.{slice_get}
use Rattle.nest_tree.specs.View.{statements_from}
use Rattle.nest_tree.specs.WellFormed.{Scope, are_good_statements}
use Rattle.nest_model.specs.Visits.{stops_of}
use Rattle.nest_walk.specs.Texts.{placed_of}
use Rattle.nest_walk.specs.Walks.{enters_but}
use Rattle.owner_partition.specs.StaticPhases.{loops_of, numbers_round}
use Rattle.owner_partition.proofs.static_phase.+phase.Given as goal

abbrev pub invariant-phase_among-loop-item : goal.invariant-phase_among-loop-item
invariant-phase_among-loop-item l =
    let enters = enters_but l.closed in
    let around = numbers_round (loops_of l.outer) in
    let rest = statements_from (drop l.item-index l.items) in record {
      good : (scope : Scope) × (number : ℕ) × IsTrue (are_good_statements scope around number rest);
      stops : stops_of enters rest < 2 ^ 32;
      same : slice_get (placed_of enters around rest) l.left ≡ slice_get (placed_of enters around (statements_from l.items)) l.place;
    }
