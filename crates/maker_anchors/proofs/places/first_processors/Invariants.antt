use Rattle.std.proofs.Common.{◌≡◌}
use Rattle.std.specs.Prelude.{replicate}
use Rattle.maker_anchors.specs.Anchors.{first_processor}
use Rattle.maker_anchors.proofs.places.first_processors.Given as goal

abbrev pub invariant-loop : goal.invariant-loop
invariant-loop l = l.anchors.items ≡ replicate l.counter first_processor
