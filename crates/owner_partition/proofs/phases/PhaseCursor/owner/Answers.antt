use Rattle.std.proofs.Common.{sym, subst, IsTrue}
use Rattle.std.specs.List.{list_all}
use Rattle.nest_tree.specs.WellFormed.{is_number_of, loops_of}
use Rattle.nest_walk.specs.Cursors.{is_reached, rounds_in, tree_in}
use Rattle.nest_walk.specs.Paths.{Round}
use Rattle.nest_walk.specs.RoundsOf.{rounds_of}
use Rattle.nest_walk.proofs.Alone.{reached}
use Rattle.owner_partition.proofs.phases.PhaseCursor.owner.Goals as goal

pub exact_value-place-requires-clause-numbered : goal.exact_value-place-requires-clause-numbered
exact_value-place-requires-clause-numbered c =
    let cursor = c.args.self.now.cursor in
    let stop = c.in-Some._stop in
    let is : IsTrue (is_reached (tree_in cursor) (rounds_in cursor) stop) = c.args.self.now.reached stop c.in-Some.is in
    subst (λ t. IsTrue (list_all (λ (r : Round). is_number_of (loops_of t.items) r.number) (rounds_of c.path.result.now))) (sym c.program.ensures)
    (subst (λ rs. IsTrue (list_all (λ (r : Round). is_number_of (loops_of (tree_in cursor).items) r.number) rs)) (sym c.path.ensures) (reached (tree_in cursor) (rounds_in cursor) stop is).numbers)
