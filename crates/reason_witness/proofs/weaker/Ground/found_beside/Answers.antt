use Rattle.std.proofs.Common.{◌≡◌, List, ap, sym, ◌∙◌, subst}
use Rattle.std.specs.Result.{IfOk}
use Rattle.std.specs.List.{Contains}
use Rattle.list_lemmas.proofs.Elements.{Contains-map as in_map}
use Rattle.nest_tree.specs.View.{tree_of}
use Rattle.comm_system.specs.Obligations.{numbered_from, slot_signature, slot_tasks, slots_of}
use Rattle.comm_system.specs.References.{StaticPhase, phases_of}
use Rattle.comm_system.specs.Signatures.{Signature}
use Rattle.comm_system.specs.SignatureViews.{signature_seen}
use Rattle.comm_system.specs.SlotViews.{slot_seen}
use Rattle.plan_maker.specs.Caches.{waits_seen}
use Rattle.reason_witness.specs.Findings.{IsSearched}
use Rattle.reason_witness.specs.Plans.{tasks_at}
use Rattle.reason_witness.proofs.Searched.{searched_under_ok}
use Rattle.reason_witness.proofs.Slots.{own_slot}
use Rattle.reason_witness.proofs.weaker.Ground.found_beside.Goals as goal

pub returns-then-branch : goal.returns-then-branch
returns-then-branch c =
    let tree = tree_of c.args.self.now.program.now in
    let plan = c.args.self.now.plan.now in
    let kinds = c.args.kinds.now in
    let slot = slot_seen c.args.slot.now in
    let whole = c.args.self.now.is_whole in
    let wanted = c.args.wanted.now in
    let shown : waits_seen c.in-Waits.waits ≡ slot_signature plan.version kinds (phases_of tree plan.cut.marks) slot =
    sym (ap signature_seen c.in-Waits.is) ∙ c.in_ok-slot_signature.ensures ∙ ap (λ (ps : List StaticPhase). slot_signature plan.version kinds ps slot) c.requires.slots.phases_are in
    searched_under_ok whole (tasks_at tree plan kinds slot) wanted c.found_at.result (subst (λ (s : Signature). IfOk c.found_at.result (IsSearched whole (numbered_from 1 (slot_tasks tree plan slot s)) wanted)) shown c.found_at.ensures)

pub returns : goal.returns
returns c =
    let tree = tree_of c.args.self.now.program.now in
    let plan = c.args.self.now.plan.now in
    let kinds = c.args.kinds.now in
    let slot = slot_seen c.args.slot.now in
    let shown : waits_seen c.in-Waits.waits ≡ slot_signature plan.version kinds (phases_of tree plan.cut.marks) slot =
    sym (ap signature_seen c.in-Waits.is) ∙ c.in_ok-slot_signature.ensures ∙ ap (λ (ps : List StaticPhase). slot_signature plan.version kinds ps slot) c.requires.slots.phases_are in
    let there = subst (λ ss. Contains ss slot) (c.requires.slots.slots_are ∙ ap slots_of c.requires.slots.phases_are) (in_map slot_seen c.args.self.now.slots.now c.args.slot.now c.requires.there) in
    let same = sym shown ∙ c.in_ok-may_be_new-in-Waits.ensures c.if-branch.false ∙ ap (λ (ps : List StaticPhase). slot_signature plan.version plan.kinds ps slot) c.requires.slots.phases_are in
    λ yes. own_slot tree plan kinds slot c.args.wanted.now c.requires.accepted there same
