use Rattle.std.proofs.Common.{◌≡◌, true, take}
use Rattle.std.specs.List.{list_all}
use Rattle.sync_plan.specs.Numbers.{is_certificate_shown}
use Rattle.plan_maker.proofs.numbers.read_certificates.Given as goal

abbrev pub invariant-loop-certificate : goal.invariant-loop-certificate
invariant-loop-certificate l = list_all is_certificate_shown (take l.certificate-index l.certificates) ≡ true
