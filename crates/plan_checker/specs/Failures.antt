-- The first failure of a plan: its shape, of which a certificate too many is the last field; then the other reasons why it doesn't fit; then its obligations by number.
use Rattle.std.specs.Prelude.{nat_lt, List, [], ◌∷◌, length, Option, Some, None, if◌then◌else◌}
use Rattle.std.specs.Option.{option_map, option_or}
use Rattle.farkas_cert.specs.declared.certificate.Certificate.{Certificate}
use Rattle.farkas_cert.specs.Fault.{first_fault}
use Rattle.nest_tree.specs.Tree.{Tree}
use Rattle.sync_plan.specs.declared.plan.Plan.{Plan}
use Rattle.sync_plan.specs.Shape.{wrong_field}
use Rattle.comm_system.specs.Obligations.{obligations_of}
use Rattle.comm_system.specs.declared.obligation.Obligation.{Obligation}
use Rattle.plan_checker.specs.declared.refusal.PlanRefusal.{PlanRefusal}
use Rattle.plan_checker.specs.declared.refusal.PlanRefusal.TheVariants.{Bad, Missing, Shape}
use Rattle.plan_checker.specs.Refusals.{first_refusal}

-- more certificates than obligations
abbrev pub surplus : List Obligation → List Certificate → Option PlanRefusal
surplus obligations certificates =
    if nat_lt (length obligations) (length certificates) then Some (Shape 7) else None

-- the first of these obligations whose certificate is missing or bad
abbrev pub first_uncertified : List Obligation → List Certificate → Option PlanRefusal
first_uncertified [] certificates = None
first_uncertified (o ∷ rest) [] = Some (Missing o.number)
first_uncertified (o ∷ rest) (c ∷ certificates) = option_or
    (option_map (Bad o.number) (first_fault o.system c)) (first_uncertified rest certificates)

-- the first of these, where this one stands in front of the obligations
abbrev pub failure_with : Option PlanRefusal → Tree → Plan → Option PlanRefusal
failure_with misfit tree plan =
    option_or (option_map Shape (wrong_field tree plan))
    (option_or (surplus (obligations_of tree plan) plan.certificates)
    (option_or misfit
    (first_uncertified (obligations_of tree plan) plan.certificates)))

abbrev pub first_failure : Tree → Plan → Option PlanRefusal
first_failure tree plan = failure_with (first_refusal tree plan) tree plan
