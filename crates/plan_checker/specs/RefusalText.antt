-- The line that is printed for a refusal, without its line end.
use Rattle.std.specs.Prelude.{ℕ, List, ◌∷◌, ◌++◌, codes}
use Rattle.std.specs.Fmt.{decimal, signed_decimal}
use Rattle.farkas_cert.specs.declared.certificate.CertRefusal.{CertRefusal}
use Rattle.farkas_cert.specs.declared.certificate.CertRefusal.TheVariants as certificate
use Rattle.plan_checker.specs.declared.refusal.PlanRefusal.{PlanRefusal}
use Rattle.plan_checker.specs.declared.refusal.PlanRefusal.TheVariants.{Bad, Condition, Differs, Missing, NoMemory, Placement, PrintPlace, Shape}

-- why a certificate is refused, as its code
abbrev pub text_of_bad : CertRefusal → List ℕ
text_of_bad (certificate.NegativeMultiplier step) = codes "C1 " ++ decimal step
text_of_bad (certificate.BadRow step) = codes "C2 " ++ decimal step
text_of_bad (certificate.BadDivisor step) = codes "C3 " ++ decimal step
text_of_bad (certificate.Wide step entry) = codes "C4 " ++ decimal step ++ 32 ∷ decimal entry
text_of_bad (certificate.NoContradiction row) = codes "C5 " ++ decimal row
text_of_bad certificate.NoMemory = codes "memory ran out"

abbrev pub text_of_refusal : PlanRefusal → List ℕ
text_of_refusal (Shape field) = codes "PLAN P1 " ++ decimal field
text_of_refusal (Placement phase low high) =
    codes "PLAN P2 " ++ decimal phase ++ 32 ∷ signed_decimal low ++ 32 ∷ signed_decimal high
text_of_refusal (PrintPlace phase) = codes "PLAN P3 " ++ decimal phase
text_of_refusal (Missing obligation) = codes "PLAN P4 " ++ decimal obligation
text_of_refusal (Bad obligation reason) =
    codes "PLAN P5 " ++ decimal obligation ++ 32 ∷ text_of_bad reason
text_of_refusal (Condition row) = codes "PLAN P6 " ++ decimal row
text_of_refusal Differs = codes "PLAN P7"
text_of_refusal NoMemory = codes "memory ran out"
