-- What a certificate comes to by what is left of a system.
use Rattle.std.proofs.Common.{◌≡◌, ◌-◌, List, Some, None, slice_get, ap, sym, ◌∙◌, subst}
use Rattle.std.specs.Option.{option_map}
use Rattle.farkas_cert.specs.declared.certificate.Certificate.{Certificate}
use Rattle.farkas_cert.specs.declared.certificate.CertRefusal.{CertRefusal}
use Rattle.farkas_cert.specs.Fault.{first_fault}
use Rattle.farkas_cert.specs.Inequalities.{Inequalities}
use Rattle.presolve.specs.declared.presolved.Checked.{Checked}
use Rattle.presolve.specs.declared.presolved.Checked.TheVariants as checked
use Rattle.presolve.specs.Answers.{IsAnswer}
use Rattle.presolve.specs.Presolution.{Presolution}
use Rattle.comm_system.specs.SystemViews.{about}
use Rattle.comm_system.specs.declared.obligation.Topic.{Topic}
use Rattle.plan_checker.specs.Certificates.{fault_of, fault_with}
use Rattle.plan_checker.specs.declared.refusal.PlanRefusal.TheVariants.{Bad, Missing}

module _ (certificates : List Certificate) (topic : Topic) (whole : Inequalities) where
  pub missing_left : slice_get certificates (topic.number - 1) ≡ None → Some (Missing topic.number) ≡ fault_of certificates (about topic whole)
  missing_left none = sym (ap (fault_with (about topic whole)) none)

  pub good_left : (left : Presolution) (certificate : Certificate) (answer : Checked) → slice_get certificates (topic.number - 1) ≡ Some certificate → answer ≡ checked.Good → IsAnswer whole left certificate answer → None ≡ fault_of certificates (about topic whole)
  good_left left certificate answer at is h =
      let none : first_fault whole certificate ≡ None = subst (IsAnswer whole left certificate) is h in
      sym (ap (fault_with (about topic whole)) at ∙ ap (option_map (Bad topic.number)) none)

  pub bad_left : (left : Presolution) (certificate : Certificate) (answer : Checked) (fault : CertRefusal) → slice_get certificates (topic.number - 1) ≡ Some certificate → answer ≡ checked.Bad fault → IsAnswer whole left certificate answer →
      Some (Bad topic.number fault) ≡ fault_of certificates (about topic whole)
  bad_left left certificate answer fault at is h =
      let some : first_fault whole certificate ≡ Some fault = subst (IsAnswer whole left certificate) is h in
      sym (ap (fault_with (about topic whole)) at ∙ ap (option_map (Bad topic.number)) some)
