use Rattle.std.proofs.Common.{rules, ◌≡◌, ◌≢◌, OnOk, IfErr, None, Some, arith}
use Rattle.std.proofs.lemmas.Grind.{common_steps}
use Rattle.farkas_cert.specs.declared.certificate.CertRefusal.TheVariants.{NoMemory}
use Rattle.farkas_cert.specs.Fault.{first_fault}
use Rattle.farkas_cert.proofs.Verdict.{ok_is_good, ok_excludes, good_is_taken}
use Rattle.farkas_cert.proofs.check.check_cert_counted.Goals as goal

pub returns-in_err-made-clause-taken : goal.returns-in_err-made-clause-taken
returns-in_err-made-clause-taken g c =
    let refused : IfErr c.from_residual.result (λ e. e ≢ NoMemory → first_fault c.args.system.now c.args.certificate.now ≡ Some e) = search rules in
    good_is_taken c.args.system.now c.args.certificate.now c.from_residual.result refused

pub returns-clause-good : goal.returns-clause-good
returns-clause-good g c =
    let none : OnOk c.check_last.result (first_fault c.args.system.now c.args.certificate.now ≡ None) = grind (arith, common_steps) in
    ok_is_good c.args.system.now c.args.certificate.now c.check_last.result none

pub returns-clause-no_solution : goal.returns-clause-no_solution
returns-clause-no_solution g c =
    let none : OnOk c.check_last.result (first_fault c.args.system.now c.args.certificate.now ≡ None) = grind (arith, common_steps) in
    ok_excludes c.args.system.now c.args.certificate.now c.check_last.result none

pub returns-clause-taken : goal.returns-clause-taken
returns-clause-taken g c =
    let refused : IfErr c.check_last.result (λ e. e ≢ NoMemory → first_fault c.args.system.now c.args.certificate.now ≡ Some e) = grind (arith, common_steps) in
    good_is_taken c.args.system.now c.args.certificate.now c.check_last.result refused
