-- What is asked of a kind.
use Rattle.std.specs.Prelude.{Bool}
use Rattle.sync_plan.specs.declared.plan.Kind.{Kind}
use Rattle.comm_system.specs.Signatures.{is_barrier}
use Rattle.obligation_numbers.specs.Counts.{is_producer}
use Rattle.obligation_numbers.specs.declared.boundaries.Test.{Test}
use Rattle.obligation_numbers.specs.declared.boundaries.Test.TheVariants.{IsBarrier, IsProducer}

abbrev pub passes : Test → Kind → Bool
passes IsBarrier kind = is_barrier kind
passes IsProducer kind = is_producer kind
