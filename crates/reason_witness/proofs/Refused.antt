-- An obligation for which a plan is refused is there.
use Rattle.std.proofs.Common.{◌≡◌, ℕ, Bool, true, false, List, [], ◌∷◌, length, refl, ap, sym, ◌∙◌}
use Rattle.std.specs.Prelude.{Option, Some, None, nat_lt, if◌then◌else◌}
use Rattle.std.specs.Option.{option_map, option_or}
use Rattle.std.specs.List.{Contains}
use Rattle.farkas_cert.specs.Fault.{first_fault}
use Rattle.farkas_cert.specs.declared.certificate.Certificate.{Certificate}
use Rattle.farkas_cert.specs.declared.certificate.CertRefusal.{CertRefusal}
use Rattle.nest_tree.specs.Tree.{Tree}
use Rattle.sync_plan.specs.Fit.{Misfit, condition, first_misfit, placement, print_place, shape}
use Rattle.sync_plan.specs.Shape.{wrong_field}
use Rattle.sync_plan.specs.declared.plan.Plan.{Plan}
use Rattle.comm_system.specs.Obligations.{obligations_of}
use Rattle.comm_system.specs.declared.obligation.Obligation.{Obligation}
use Rattle.comm_system.proofs.Lists.{contains_here, contains_later}
use Rattle.plan_checker.specs.Failures.{first_failure, first_uncertified, surplus}
use Rattle.plan_checker.specs.Refusals.{first_refusal, refusal_of}
use Rattle.plan_checker.specs.declared.refusal.PlanRefusal.{PlanRefusal}
use Rattle.plan_checker.specs.declared.refusal.PlanRefusal.TheVariants.{Bad, Condition, Differs, Missing, NoMemory, Placement, PrintPlace, Shape}
use Rattle.reason_witness.specs.Reasons.{IsRefusedFor, bad, missing}

-- the obligation that a refusal names
abbrev named : Option PlanRefusal → Option ℕ
named None = None
named (Some (Missing n)) = Some n
named (Some (Bad n fault)) = Some n
named (Some (Shape field)) = None
named (Some (Placement phase low high)) = None
named (Some (PrintPlace phase)) = None
named (Some (Condition row)) = None
named (Some Differs) = None
named (Some NoMemory) = None

behind : (a b : Option PlanRefusal) (n : ℕ) → named a ≡ None → named (option_or a b) ≡ Some n → named b ≡ Some n
behind None b n none h = h
behind (Some r) b n none h = absurd (let no : None ≡ Some n = sym none ∙ h in cc)

shape-names : (o : Option ℕ) → named (option_map Shape o) ≡ None
shape-names None = refl
shape-names (Some field) = refl

surplus-names : (b : Bool) → named (if b then Some (Shape 7) else None) ≡ None
surplus-names true = refl
surplus-names false = refl

misfit-names : (o : Option Misfit) → named (option_map refusal_of o) ≡ None
misfit-names None = refl
misfit-names (Some (shape field)) = refl
misfit-names (Some (placement w)) = refl
misfit-names (Some (print_place phase)) = refl
misfit-names (Some (condition row)) = refl

abbrev IsThere : ℕ → List Obligation → Type 0
IsThere n os = (o : Obligation) × Contains os o × (o.number ≡ n)

uncertified-there : (n : ℕ) (os : List Obligation) (cs : List Certificate) → named (first_uncertified os cs) ≡ Some n → IsThere n os
uncertified-there n [] cs h = absurd (let no : None ≡ Some n = h in cc)
uncertified-there n (o ∷ os) [] h = let same : o.number ≡ n = cc in (o, contains_here o os, same)
uncertified-there n (o ∷ os) (c ∷ cs) h = by (first_fault o.system c) h (uncertified-there n os cs)
  where
    by : (fault : Option CertRefusal) → named (option_or (option_map (Bad o.number) fault) (first_uncertified os cs)) ≡ Some n → (named (first_uncertified os cs) ≡ Some n → IsThere n os) → IsThere n (o ∷ os)
    by None e later = let r = later e in (r.0, contains_later o r.0 os r.1, r.2)
    by (Some fault) e later = let same : o.number ≡ n = cc in (o, contains_here o os, same)

failure-there : (tree : Tree) (plan : Plan) (n : ℕ) → named (first_failure tree plan) ≡ Some n → IsThere n (obligations_of tree plan)
failure-there tree plan n h =
    let os = obligations_of tree plan in
    let last = first_uncertified os plan.certificates in
    let fits = option_or (first_refusal tree plan) last in
    let few = option_or (surplus os plan.certificates) fits in
    uncertified-there n os plan.certificates
    (behind (first_refusal tree plan) last n (misfit-names (first_misfit tree plan))
    (behind (surplus os plan.certificates) fits n (surplus-names (nat_lt (length os) (length plan.certificates)))
    (behind (option_map Shape (wrong_field tree plan)) few n (shape-names (wrong_field tree plan)) h)))

pub refused_there : (tree : Tree) (plan : Plan) (n : ℕ) → IsRefusedFor tree plan n → IsThere n (obligations_of tree plan)
refused_there tree plan n (missing is) = failure-there tree plan n (ap named is)
refused_there tree plan n (bad fault is) = failure-there tree plan n (ap named is)
