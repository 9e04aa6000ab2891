use Rattle.std.proofs.Common.{◌≡◌, drop, map}
use Rattle.std.specs.List.{list_any}
use Rattle.comm_system.specs.Pairs.{conflict}
use Rattle.comm_system.specs.References.{Reference}
use Rattle.comm_system.specs.Seen.{reference_seen}
use Rattle.plan_maker.proofs.partners.have_partners.Given as goal

abbrev pub invariant-loop-a : goal.invariant-loop-a
invariant-loop-a l =
    let test = λ (a : Reference). list_any (conflict a) (map reference_seen l.seconds) in
    list_any test (map reference_seen (drop l.a-index l.firsts)) ≡ list_any test (map reference_seen l.firsts)
