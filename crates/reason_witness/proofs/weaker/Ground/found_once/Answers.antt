use Rattle.std.proofs.Common.{◌≡◌, [], ◌∷◌, ◌++◌, false, true, map, take, ap, sym, ◌∙◌, subst}
use Rattle.std.specs.List.{Contains}
use Rattle.std.specs.Option.{is_some}
use Rattle.std.proofs.lemmas.List.{map_more, take_all}
use Rattle.list_lemmas.proofs.Elements.{Contains-map as in_map}
use Rattle.nest_tree.specs.View.{tree_of}
use Rattle.comm_system.specs.Obligations.{slots_of, tasks_of}
use Rattle.comm_system.specs.SlotViews.{slot_seen}
use Rattle.reason_witness.specs.Plans.{tasks_at, with_kinds}
use Rattle.reason_witness.proofs.Searched.{under_more, under_none}
use Rattle.reason_witness.proofs.Slots.{AreSlotsCertified, all_under, slot_there, slots_push}
use Rattle.reason_witness.proofs.weaker.Ground.found_once.Goals as goal

pub returns-then-is_some : goal.returns-then-is_some
returns-then-is_some c =
    let ground = c.args.self.now in
    let tree = tree_of ground.program.now in
    let plan = ground.plan.now in
    let kinds = c.args.kinds.now in
    let s = c.slot-item.result in
    let listed : Contains ground.slots.now s = (c.loop-slot.slot-index, c.loop-slot-test.true, sym c.slot-item.is) in
    let there = subst (λ ss. Contains ss (slot_seen s)) (c.requires.slots.slots_are ∙ ap slots_of c.requires.slots.phases_are) (in_map slot_seen ground.slots.now s listed) in
    let some : is_some c.in_ok-found.found ≡ true = sym c.is_some.ensures ∙ c.if-is_some.true in
    under_more ground.is_whole ground.is_whole (tasks_at tree plan kinds (slot_seen s)) (tasks_of tree (with_kinds plan kinds)) c.args.wanted.now c.in_ok-found.found some (λ k among. slot_there tree plan kinds (slot_seen s) k there among) c.in_ok-found.ensures

pub loop-slot-preserved : goal.loop-slot-preserved
loop-slot-preserved c =
    let ground = c.args.self.now in
    let tree = tree_of ground.program.now in
    let plan = ground.plan.now in
    let kinds = c.args.kinds.now in
    let wanted = c.args.wanted.now in
    let slots = ground.slots.now in
    let i = c.loop-slot.slot-index in
    let s = c.slot-item.result in
    let before = map slot_seen (take i slots) in
    let none : is_some c.in_ok-found.found ≡ false = sym c.is_some.ensures ∙ c.if-is_some.false in
    let split = map_more slot_seen slots i s c.loop-slot-test.true ∙ ap (λ x. before ++ slot_seen x ∷ []) (sym c.slot-item.is) in
    λ yes. subst (AreSlotsCertified tree plan kinds wanted) (sym split)
    (slots_push tree plan kinds wanted before (slot_seen s) (c.loop-slot.invariant yes) (under_none ground.is_whole (tasks_at tree plan kinds (slot_seen s)) wanted c.in_ok-found.found none c.in_ok-found.ensures yes))

pub returns : goal.returns
returns c =
    let ground = c.args.self.now in
    let tree = tree_of ground.program.now in
    let plan = ground.plan.now in
    let kinds = c.args.kinds.now in
    let wanted = c.args.wanted.now in
    let all = ap (map slot_seen) (take_all c.loop-slot.slot-index ground.slots.now c.loop-slot-test.false) ∙ c.requires.slots.slots_are ∙ ap slots_of c.requires.slots.phases_are in
    λ yes. all_under tree plan kinds wanted c.requires.accepted (subst (AreSlotsCertified tree plan kinds wanted) all (c.loop-slot.invariant yes))
