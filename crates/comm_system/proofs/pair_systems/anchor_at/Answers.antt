use Rattle.std.proofs.Common.{◌-◌, sym}
use Rattle.list_lemmas.proofs.Each.{passes_at}
use Rattle.owner_partition.specs.declared.anchor.Anchor.{Anchor}
use Rattle.owner_partition.specs.Owners.{has_places}
use Rattle.comm_system.proofs.pair_systems.anchor_at.Goals as goal

pub returns-in-Some-clause-places : goal.returns-in-Some-clause-places
returns-in-Some-clause-places c =
    passes_at (λ (a : Anchor). has_places a.dist) c.args.plan.now.anchors (c.args.s - 1) c.in-Some.anchor.now c.requires.places (sym c.in-Some.ensures)
