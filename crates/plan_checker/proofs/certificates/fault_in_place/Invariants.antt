use Rattle.std.proofs.Common.{◌≡◌, drop}
use Rattle.comm_system.specs.SystemViews.{obligations_seen}
use Rattle.plan_checker.specs.Certificates.{fault_of, first_of}
use Rattle.plan_checker.proofs.certificates.fault_in_place.Given as goal

-- the first fault is that of the obligations that are left
abbrev pub invariant-loop-index : goal.invariant-loop-index
invariant-loop-index l = record {
  same : obligations_seen l.systems ≡ obligations_seen l.initial.systems;
  first : first_of (fault_of l.certificates) (drop l.index (obligations_seen l.initial.systems)) ≡ first_of (fault_of l.certificates) (obligations_seen l.initial.systems);
}
