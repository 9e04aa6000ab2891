use Rattle.std.proofs.Common.{◌<◌}
use Rattle.fm_elim.specs.Moved.{moved_by}
use Rattle.fm_elim.proofs.Marks.{at_first, at_second}
use Rattle.fm_elim.proofs.extension.moved_derivation.Goals as goal

pub moved-requires : goal.moved-requires
moved-requires c = at_first (λ t. moved_by c.args.given c.args.more t.0 < 18446744073709551616) c.args.derivation.now c.requires

pub moved-requires-in-Some : goal.moved-requires-in-Some
moved-requires-in-Some c = at_second (λ t. moved_by c.args.given c.args.more t.0 < 18446744073709551616) c.args.derivation.now (c.in-Some.row, c.in-Some.multiplier) c.requires c.in-Some.is
