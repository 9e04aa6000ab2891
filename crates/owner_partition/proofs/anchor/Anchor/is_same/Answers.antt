use Rattle.std.proofs.Common.{rules}
use Rattle.owner_partition.proofs.Anchors.{same_anchor}
use Rattle.std.proofs.lemmas.Bool.Decides.{Decides-at}
use Rattle.owner_partition.proofs.anchor.Anchor.is_same.Goals as goal

pub returns-then-eq-2-clause-exact : goal.returns-then-eq-2-clause-exact
returns-then-eq-2-clause-exact c = Decides-at _ _ (search rules) (same_anchor c.args.self.now c.args.other.now)

pub returns-else-eq-2-clause-exact : goal.returns-else-eq-2-clause-exact
returns-else-eq-2-clause-exact c = Decides-at _ _ (search rules) (same_anchor c.args.self.now c.args.other.now)
