use Rattle.std.proofs.Common.{◌≡◌, ◌+◌, ◌≤◌, ◌++◌, drop, length}
use Rattle.farkas_cert.specs.Fault.{first_fault, fault_from}
use Rattle.farkas_cert.specs.Units.{most_units}
use Rattle.farkas_cert.proofs.check.check_steps.Given as goal

-- the first fault is that of the steps that are left, over the rows so far
abbrev pub invariant-loop-index : goal.invariant-loop-index
invariant-loop-index g l = record {
  count : length l.made.items ≡ l.index;
  fault : first_fault l.system l.certificate ≡ fault_from l.system.vars (l.system.rows ++ l.made.items) (l.index + 1) (drop l.index l.certificate.steps);
  rose : l.fn.steps ≤ l.steps;
  counted : l.fn.steps + most_units l.system.vars l.certificate.steps ≡ l.steps + most_units l.system.vars (drop l.index l.certificate.steps);
}
