-- Sides and producers as plain data.
use Rattle.owner_partition.specs.declared.anchor.Anchor.{Anchor}
use Rattle.conflict_rules.specs.Boundaries.{Side, of_first, of_second}
use Rattle.conflict_rules.specs.declared.producer.Side.{Side as Held}
use Rattle.conflict_rules.specs.declared.producer.Side.TheVariants.{First, Second}
use Rattle.conflict_rules.specs.declared.producer.Producer.{Producer}

abbrev pub side_seen : Held → Side
side_seen First = of_first
side_seen Second = of_second

abbrev pub producer_seen : Producer → Anchor × Side
producer_seen p = (p.anchor.now, side_seen p.side)
