use Rattle.std.proofs.Common.{◌≡◌, [], ◌++◌, map, List, ap, sym, ◌∙◌}
use Rattle.std.specs.List.{flat_map}
use Rattle.nest_tree.specs.View.{tree_of}
use Rattle.comm_system.specs.GroupViews.{group_seen, listed_seen}
use Rattle.conflict_rules.specs.Slots.{Slot}
use Rattle.comm_system.specs.Obligations.{slot_signature, slots_of}
use Rattle.comm_system.specs.PhaseViews.{phase_seen}
use Rattle.comm_system.specs.SlotViews.{slot_seen}
use Rattle.comm_system.specs.Subjects.{Listed, Subject, groups_among, paths_subjects, slot_subjects, trips_subjects, with_subjects}
use Rattle.comm_system.proofs.GroupSteps.{both}
use Rattle.comm_system.proofs.ShapeParts.{shaped}
use Rattle.comm_system.proofs.groups.list_groups.Goals as goal

pub add_all_slots-requires-clause-places : goal.add_all_slots-requires-clause-places
add_all_slots-requires-clause-places c = (shaped (tree_of c.args.program.now) c.args.plan.now c.requires.shape).kinds

pub returns : goal.returns
returns c =
    let plan = c.args.plan.now in
    let most = c.args.most in
    let phases = map phase_seen c.args.phases.now in
    let start : Listed = record { groups = []; next = 1 } in
    let trips = flat_map (trips_subjects plan) phases in
    let f : Slot → List Subject = λ slot. slot_subjects plan.cut slot (slot_signature plan.version plan.kinds phases slot) in
    let among = flat_map f (slots_of phases) in
    let paths = flat_map (paths_subjects plan.cut) phases in
    let slots : map slot_seen c.as_slice.result.now ≡ slots_of phases = ap (map slot_seen) c.as_slice.ensures.value ∙ c.in_ok-slots.ensures in
    let first : listed_seen c.add_all_trips.new.self ≡ with_subjects most start trips = c.in_ok-add_all_trips.ensures ∙ ap (λ gs. with_subjects most (record { groups = map group_seen gs; next = 1 }) trips) c.new.ensures.items in
    let second : listed_seen c.add_all_slots.new.self ≡ with_subjects most (with_subjects most start trips) among =
    c.in_ok-add_all_slots.ensures ∙ ap (λ ss. with_subjects most (listed_seen c.add_all_trips.new.self) (flat_map f ss)) slots ∙ ap (λ l. with_subjects most l among) first in
    c.in_ok-add_all_paths.ensures ∙ ap (λ l. with_subjects most l paths) second ∙ ap (λ l. with_subjects most l paths) (sym (both most start trips among)) ∙ sym (both most start (trips ++ among) paths)
    ∙ ap (λ ps. groups_among plan ps most) c.requires.phases
