use Rattle.std.proofs.Common.{◌≡◌, drop, map}
use Rattle.std.specs.List.{list_any}
use Rattle.comm_system.specs.Pairs.{conflict}
use Rattle.comm_system.specs.Seen.{reference_seen}
use Rattle.plan_maker.proofs.partners.has_partner.Given as goal

abbrev pub invariant-loop-b : goal.invariant-loop-b
invariant-loop-b l =
    let test = conflict (reference_seen l.a) in
    list_any test (map reference_seen (drop l.b-index l.others)) ≡ list_any test (map reference_seen l.others)
