use Rattle.std.proofs.Common.{ap, sym, ◌∙◌, subst}
use Rattle.nest_tree.specs.View.{tree_of}
use Rattle.comm_system.specs.SideViews.{boundary_seen}
use Rattle.comm_system.specs.SignatureViews.{signature_seen}
use Rattle.comm_system.specs.Signatures.{signature_of}
use Rattle.comm_system.specs.SlotViews.{slot_seen}
use Rattle.std.specs.Prelude.{map}
use Rattle.plan_maker.specs.Asked.{AreRefuted, slot_asked}
use Rattle.plan_maker.specs.Caches.{IsHeld}
use Rattle.plan_maker.proofs.cache.SlotCache.into_certificates.Goals as goal

pub returns : goal.returns
returns c =
    let tree = tree_of c.args.problem.program.now in
    let plan = c.args.problem.plan.now in
    let slot = slot_seen c.args.self.slot in
    let sig = sym (ap signature_seen c.in-Waits.is) ∙ c.in_ok-signature_at.ensures ∙ ap (λ bs. signature_of plan.version c.args.kinds.now (map boundary_seen bs)) c.as_slice.ensures.value in
    let held = subst (λ g. IsHeld tree plan slot g c.args.self.entries.items) (sym sig) c.requires.held in
    subst (λ g. AreRefuted (slot_asked tree plan slot g) c.take_among.result.items) sig (c.take_among.ensures tree plan slot c.requires.cache.entries held)
