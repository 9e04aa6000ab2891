use Rattle.std.proofs.Common.{ap}
use Rattle.std.specs.Option.{option_map}
use Rattle.nest_walk.specs.Cursors.{rounds_in, tree_in, visit_at}
use Rattle.owner_partition.proofs.phases.PhaseCursor.restart_own.Goals as goal

pub restart_own-requires-clause-outside : goal.restart_own-requires-clause-outside
restart_own-requires-clause-outside c =
    let cursor = c.args.self.now.cursor in
    let visit = visit_at (tree_in cursor) (rounds_in cursor) in
    c.requires.outside (visit c.in-Some.stop) (ap (option_map visit) c.in-Some.is)
