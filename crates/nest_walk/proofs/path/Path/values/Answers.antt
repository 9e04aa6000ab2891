use Rattle.nest_walk.proofs.PathLists.{by_depth-all}
use Rattle.nest_walk.proofs.path.Path.values.Goals as goal

pub returns : goal.returns
returns c =
    let p = c.args.self.now in
    by_depth-all p.numbers p.values p.depth p.six p.within p.left_over
