-- Accepted plans are those without a failure.
use Rattle.std.proofs.Common.{◌≡◌, ℕ, ◌<◌, ◌≤◌, Bool, true, false, List, [], ◌∷◌, length, Option, Some, None, if◌then◌else◌, refl, ap, arith}
use Rattle.std.specs.Prelude.{nat_lt}
use Rattle.std.specs.Option.{option_map, option_or}
use Rattle.farkas_cert.specs.declared.certificate.Certificate.{Certificate}
use Rattle.farkas_cert.specs.Fault.{first_fault}
use Rattle.farkas_cert.proofs.Verdict.{good_where_none, none_where_good}
use Rattle.nest_tree.specs.Tree.{Tree}
use Rattle.nest_tree.proofs.FirstLimits.{neither}
use Rattle.sync_plan.specs.declared.plan.Plan.{Plan}
use Rattle.sync_plan.specs.Fit.{IsFit, as_misfit, first_misfit, shape}
use Rattle.sync_plan.specs.Shape.{wrong_field}
use Rattle.comm_system.specs.Obligations.{obligations_of}
use Rattle.comm_system.specs.declared.obligation.Obligation.{Obligation}
use Rattle.plan_checker.specs.declared.refusal.PlanRefusal.{PlanRefusal}
use Rattle.plan_checker.specs.declared.refusal.PlanRefusal.TheVariants.{Bad, Shape}
use Rattle.plan_checker.specs.Accepted.{AreCertified, IsAccepted}
use Rattle.plan_checker.specs.Failures.{first_failure, first_uncertified, surplus}
use Rattle.plan_checker.specs.Proved.{IsProved, first_unproved}
use Rattle.plan_checker.specs.Refusals.{first_refusal, refusal_of}

pub unmapped : {A B : Type 0} (f : A → B) (a : Option A) → option_map f a ≡ None → a ≡ None
unmapped f None h = refl
unmapped f (Some x) h = absurd cc

no_surplus : (b : Bool) (x : PlanRefusal) → (if b then Some x else None) ≡ None → b ≡ false
no_surplus false x h = refl
no_surplus true x h = absurd cc

certified_where_none : (os : List Obligation) (cs : List Certificate) → length cs ≤ length os → first_uncertified os cs ≡ None → AreCertified os cs
certified_where_none [] [] few h = tt
certified_where_none [] (c ∷ cs) few h = absurd (omega (arith, few))
certified_where_none (o ∷ os) [] few h = absurd cc
certified_where_none (o ∷ os) (c ∷ cs) few h =
    let parts = neither (option_map (Bad o.number) (first_fault o.system c)) (first_uncertified os cs) h in
    (good_where_none o.system c (unmapped (Bad o.number) (first_fault o.system c) parts.0), certified_where_none os cs (omega (arith, few)) parts.1)

none_where_certified : (os : List Obligation) (cs : List Certificate) → AreCertified os cs → first_uncertified os cs ≡ None
none_where_certified [] cs certified = refl
none_where_certified (o ∷ os) [] certified = absurd certified
none_where_certified (o ∷ os) (c ∷ cs) certified =
    rw (none_where_good o.system c certified.0) (none_where_certified os cs certified.1)

pub as_many : (os : List Obligation) (cs : List Certificate) → AreCertified os cs → length cs ≡ length os
as_many [] [] certified = refl
as_many [] (c ∷ cs) certified = absurd certified
as_many (o ∷ os) [] certified = absurd certified
as_many (o ∷ os) (c ∷ cs) certified = let h = as_many os cs certified.1 in omega (arith, h)

few_where_false : (m n : ℕ) → nat_lt m n ≡ false → n ≤ m
few_where_false m n h = grind arith

pub false_where_few : (m n : ℕ) → n ≤ m → nat_lt m n ≡ false
false_where_few m n h = grind arith

pub true_where_more : (m n : ℕ) → m < n → nat_lt m n ≡ true
true_where_more m n h = grind arith

none_joined : {A : Type 0} (a b : Option A) → a ≡ None → b ≡ None → option_or a b ≡ None
none_joined None b none others = others
none_joined (Some x) b none others = absurd cc

pub fit_shape : (tree : Tree) (plan : Plan) → IsFit tree plan → wrong_field tree plan ≡ None
fit_shape tree plan fits = field (wrong_field tree plan) (neither (as_misfit shape (wrong_field tree plan)) _ fits).0
  where
    field : (f : Option ℕ) → as_misfit shape f ≡ None → f ≡ None
    field None h = refl
    field (Some n) h = absurd cc

pub accepted_where_none : (tree : Tree) (plan : Plan) → first_failure tree plan ≡ None → IsAccepted tree plan
accepted_where_none tree plan none =
    let os = obligations_of tree plan in
    let field = neither (option_map Shape (wrong_field tree plan)) _ none in
    let many = neither (surplus os plan.certificates) _ field.1 in
    let fit = neither (first_refusal tree plan) _ many.1 in
    record {
      fits = unmapped refusal_of (first_misfit tree plan) fit.0;
      certified = certified_where_none os plan.certificates (few_where_false _ _ (no_surplus (nat_lt (length os) (length plan.certificates)) (Shape 7) many.0)) fit.1;
    }

pub none_where_accepted : (tree : Tree) (plan : Plan) → IsAccepted tree plan → first_failure tree plan ≡ None
none_where_accepted tree plan accepted =
    let os = obligations_of tree plan in
    let many = as_many os plan.certificates accepted.certified in
    none_joined (option_map Shape (wrong_field tree plan)) _ (ap (option_map Shape) (fit_shape tree plan accepted.fits))
    (none_joined (surplus os plan.certificates) _ (ap (λ b. if b then Some (Shape 7) else None) (false_where_few (length os) (length plan.certificates) (omega (arith, many))))
    (none_joined (first_refusal tree plan) _ (ap (option_map refusal_of) accepted.fits) (none_where_certified os plan.certificates accepted.certified)))

pub proved_where_none : (tree : Tree) (plan : Plan) → first_unproved tree plan ≡ None → IsProved tree plan
proved_where_none tree plan none =
    let os = obligations_of tree plan in
    let field = neither (option_map Shape (wrong_field tree plan)) _ none in
    let many = neither (surplus os plan.certificates) _ field.1 in
    record {
      shape = unmapped Shape (wrong_field tree plan) field.0;
      certified = certified_where_none os plan.certificates (few_where_false _ _ (no_surplus (nat_lt (length os) (length plan.certificates)) (Shape 7) many.0)) many.1;
    }

pub none_where_proved : (tree : Tree) (plan : Plan) → IsProved tree plan → first_unproved tree plan ≡ None
none_where_proved tree plan proved =
    let os = obligations_of tree plan in
    let many = as_many os plan.certificates proved.certified in
    none_joined (option_map Shape (wrong_field tree plan)) _ (ap (option_map Shape) proved.shape)
    (none_joined (surplus os plan.certificates) _ (ap (λ b. if b then Some (Shape 7) else None) (false_where_few (length os) (length plan.certificates) (omega (arith, many))))
    (none_where_certified os plan.certificates proved.certified))
