use Rattle.std.proofs.Common.{◌≡◌, drop, IfOk, List, Option}
use Rattle.std.specs.List.{AllZip}
use Rattle.plan_checker.specs.declared.refusal.PlanRefusal.{PlanRefusal}
use Rattle.plan_checker.specs.Certificates.{first_of}
use Rattle.plan_checker.proofs.certificates.first_found.Given as goal

abbrev pub invariant-loop-one : goal.invariant-loop-one
invariant-loop-one l =
    (faults : List (Option PlanRefusal)) → AllZip (λ fault one. IfOk one (λ is. is ≡ fault)) faults l.found → first_of (λ fault. fault) (drop l.one-index faults) ≡ first_of (λ fault. fault) faults
