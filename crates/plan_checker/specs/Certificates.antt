-- What is wrong with the certificates of obligations, each of which has the number of its obligation.
use Rattle.std.specs.Prelude.{◌-◌, List, [], ◌∷◌, Option, Some, None, slice_get}
use Rattle.std.specs.Option.{option_map, option_or}
use Rattle.farkas_cert.specs.declared.certificate.Certificate.{Certificate}
use Rattle.farkas_cert.specs.Fault.{first_fault}
use Rattle.nest_tree.specs.Tree.{Tree}
use Rattle.sync_plan.specs.declared.plan.Plan.{Plan}
use Rattle.comm_system.specs.Subjects.{Group, obligations_in}
use Rattle.comm_system.specs.declared.obligation.Obligation.{Obligation}
use Rattle.plan_checker.specs.declared.refusal.PlanRefusal.{PlanRefusal}
use Rattle.plan_checker.specs.declared.refusal.PlanRefusal.TheVariants.{Bad, Missing}

-- of an obligation with this certificate, or without one
abbrev pub fault_with : Obligation → Option Certificate → Option PlanRefusal
fault_with o None = Some (Missing o.number)
fault_with o (Some c) = option_map (Bad o.number) (first_fault o.system c)

-- of an obligation, where the certificates stand in order from number 1
abbrev pub fault_of : List Certificate → Obligation → Option PlanRefusal
fault_of certificates o = fault_with o (slice_get certificates (o.number - 1))

-- the first that is found
abbrev pub first_of : {A : Type 0} → (A → Option PlanRefusal) → List A → Option PlanRefusal
first_of f [] = None
first_of f (x ∷ xs) = option_or (f x) (first_of f xs)

-- of a group's obligations, the first
abbrev pub fault_in : Tree → Plan → Group → Option PlanRefusal
fault_in tree plan g = first_of (fault_of plan.certificates) (obligations_in tree plan g)
