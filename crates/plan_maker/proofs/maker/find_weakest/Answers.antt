use Rattle.std.proofs.Common.{◌∙◌}
use Rattle.plan_maker.specs.declared.maker.Weakest.{Weakest}
use Rattle.plan_maker.proofs.Weakest.{weakest_for}
use Rattle.plan_maker.proofs.maker.find_weakest.Goals as goal

pub returns : goal.returns
returns c =
    let w : Weakest = record { kinds = c.in_ok-kinds.kinds; certificates = c.append.new.self; reasons = c.in_ok-reasons.reasons } in
    let ends = c.in_ok-reasons.ensures in
    weakest_for _ c.settle_all.new.self c.args.loops.trips.items c.args.loops.paths.items (ends.same.problem ∙ c.in_ok-search.ensures.problem) ends.search c.requires.trips c.requires.paths (ends.same.slots ∙ c.in_ok-search.ensures.slots) w c.in_ok-kinds.certificates.items c.in_ok-kinds.ensures.kinds c.in_ok-kinds.ensures.certificates c.in_ok-append.ensures.items ends.reasons
