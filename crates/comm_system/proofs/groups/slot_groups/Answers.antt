use Rattle.std.proofs.Common.{map, ap, ◌∙◌}
use Rattle.comm_system.specs.GroupViews.{group_seen}
use Rattle.conflict_rules.specs.SideViews.{producer_seen}
use Rattle.comm_system.specs.Signatures.{waits}
use Rattle.comm_system.specs.SlotViews.{slot_seen}
use Rattle.comm_system.specs.Subjects.{slot_subjects, with_subjects}
use Rattle.comm_system.proofs.groups.slot_groups.Goals as goal

pub returns : goal.returns
returns c =
    let held = c.args.waits.now in
    c.in_ok-add_waits.ensures ∙ ap (λ gs. with_subjects c.args.most (record { groups = map group_seen gs; next = c.args.number }) (slot_subjects c.args.cut.now (slot_seen c.args.slot) (waits held.left held.right (map producer_seen held.producers.items)))) c.new.ensures.items
