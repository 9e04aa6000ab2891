-- Accepted plans: those that fit, with a good certificate for each obligation and none left over.
use Rattle.std.specs.Prelude.{List}
use Rattle.std.specs.List.{AllZip}
use Rattle.farkas_cert.specs.Good.{IsGood}
use Rattle.farkas_cert.specs.declared.certificate.Certificate.{Certificate}
use Rattle.nest_tree.specs.Tree.{Tree}
use Rattle.sync_plan.specs.declared.plan.Plan.{Plan}
use Rattle.sync_plan.specs.Fit.{IsFit}
use Rattle.comm_system.specs.Obligations.{obligations_of}
use Rattle.comm_system.specs.declared.obligation.Obligation.{Obligation}

-- as many certificates as obligations, each good for the system of its obligation
abbrev pub AreCertified : List Obligation → List Certificate → Type 0
AreCertified obligations certificates = AllZip (λ o c. IsGood o.system c) obligations certificates

pub record IsAccepted (tree : Tree) (plan : Plan) : Type 0 where
  pub fits : IsFit tree plan
  pub certified : AreCertified (obligations_of tree plan) plan.certificates
