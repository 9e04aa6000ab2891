use Rattle.std.proofs.Common.{◌≡◌, IfOk, Option, ap, ◌∙◌, subst}
use Rattle.std.specs.Prelude.{IfSome}
use Rattle.comm_system.specs.SystemViews.{about, last_made}
use Rattle.plan_checker.specs.Certificates.{fault_of}
use Rattle.plan_checker.specs.declared.refusal.PlanRefusal.{PlanRefusal}
use Rattle.plan_checker.proofs.certificates.fault_made.Goals as goal

pub returns-in-Some : goal.returns-in-Some
returns-in-Some c =
    let p = c.args.systems.now in
    let f = fault_of c.args.certificates.now in
    let told = c.in_ok-fault.ensures (last_made p).system c.presolved.ensures.left in
    subst (λ (o : Option (Option PlanRefusal)). IfSome o (λ fault. fault ≡ f (about c.topic.result (last_made p).system))) c.in-Some.is told ∙ ap f c.topic.ensures

pub returns : goal.returns
returns c =
    let f = fault_of c.args.certificates.now in
    subst (λ z. IfOk c.fault_of.result (λ found. found ≡ z)) (ap f c.in_ok-obligation.ensures.made) c.fault_of.ensures
