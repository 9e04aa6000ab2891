use Rattle.std.proofs.Common.{◌≡◌, ◌+◌, ◌<◌, ◌≤◌, ◌^◌, ℕ, IsTrue, List, drop, length}
use Rattle.std.specs.Io.Iter.{u64_saturate}
use Rattle.nest_tree.specs.View.{statements_from}
use Rattle.nest_tree.specs.WellFormed.{Scope, are_good_statements, statement_count}
use Rattle.nest_model.specs.Visits.{stops_of}
use Rattle.nest_rows.specs.Views.{heads_of}
use Rattle.nest_walk.specs.Walks.{enters_but}
use Rattle.comm_system.specs.References.{phases_among}
use Rattle.owner_partition.specs.StaticPhases.{loops_of}
use Rattle.obligation_numbers.specs.Sums.{sum_from}
use Rattle.obligation_numbers.proofs.phases.+phases.Given as goal

abbrev pub invariant-add_all-loop-item : goal.invariant-add_all-loop-item
invariant-add_all-loop-item g l =
    let enters = enters_but l.closed in
    let f = g.W.PhaseWeight.weight l.weight in
    let rest = statements_from (drop l.item-index l.items) in
    let all = statements_from l.items in record {
      good : (scope : Scope) × (around : List ℕ) × (number : ℕ) × (length around ≡ length (loops_of l.outer)) × IsTrue (are_good_statements scope around number rest);
      next : l.sum.next + stops_of enters rest ≡ l.initial.sum.next + stops_of enters all;
      few : l.sum.next + statement_count rest ≤ l.initial.sum.next + statement_count all;
      fits : l.sum.total < 2 ^ 64;
      total : u64_saturate (l.sum.total + sum_from f l.sum.next (phases_among enters (heads_of (loops_of l.outer)) rest)) ≡ u64_saturate (l.initial.sum.total + sum_from f l.initial.sum.next (phases_among enters (heads_of (loops_of l.outer)) all));
    }
