use Rattle.std.proofs.Common.{◌<◌, length, ◌∙◌, arith}
use Rattle.std.proofs.lemmas.List.{length-set}
use Rattle.nest_walk.specs.RoundsOf.{rounds_of}
use Rattle.flat_code.proofs.Along.{laid_more}
use Rattle.flat_code.proofs.lines.lay_lines.Goals as goal

pub loop-k-preserved : goal.loop-k-preserved
loop-k-preserved c =
    let lines = c.loop-k.lines in
    let k = c.loop-k.k in
    let room : k < length lines = omega (arith, c.loop-k-test.true, c.requires.room, c.loop-k.invariant.long) in
    record {
      laid = laid_more (rounds_of c.args.path.now) c.args.loads.now lines k _ _ c.loop-k-test.true room c.line_of_load.ensures c.loop-k.invariant.laid;
      long = length-set lines k _ ∙ c.loop-k.invariant.long;
    }
