-- Items that stand where any may stand.
use Rattle.std.proofs.Common.{ℕ, List, pos, [], ◌∷◌}
use Rattle.farkas_cert.specs.declared.certificate.Certificate.{Certificate}
use Rattle.farkas_cert.specs.declared.certificate.Step.{Step}
use Rattle.owner_partition.specs.declared.anchor.Anchor.{Anchor}
use Rattle.owner_partition.specs.declared.anchor.Dist.TheVariants.{Cyclic}
use Rattle.owner_partition.specs.declared.cut.Mark.{Mark}
use Rattle.owner_partition.specs.declared.cut.Mark.TheVariants.{Inner}
use Rattle.sync_plan.specs.declared.plan.ConditionRow.{ConditionRow}
use Rattle.sync_plan.specs.declared.plan.Kind.{Kind}
use Rattle.sync_plan.specs.declared.plan.Kind.TheVariants.{Nothing}

abbrev pub first_loop : Mark × List ℕ
first_loop = (Inner, [])

abbrev pub first_phase : Kind × Anchor
first_phase = (Nothing, record { form = record { constant = pos 0; loops = []; params = [] }; dist = Cyclic })

abbrev pub first_row : ConditionRow
first_row = record { coefs = (1, pos 1) ∷ []; bound = pos 0 }

abbrev pub first_step : Step
first_step = record { divisor = pos 1; terms = [] }

abbrev pub first_certificate : Certificate
first_certificate = record { steps = [] }
