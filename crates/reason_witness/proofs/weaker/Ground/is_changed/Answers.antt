use Rattle.std.proofs.Common.{ap, ◌∙◌}
use Rattle.std.specs.List.{list_all}
use Rattle.nest_tree.specs.View.{tree_of}
use Rattle.comm_system.specs.Signatures.{has_places_in}
use Rattle.comm_system.proofs.ShapeParts.{shaped}
use Rattle.reason_witness.proofs.weaker.Ground.is_changed.Goals as goal

pub slot_signature-requires-clause-places : goal.slot_signature-requires-clause-places
slot_signature-requires-clause-places c =
    let ground = c.args.self.now in
    ap (list_all has_places_in) c.as_slice-kinds.ensures ∙ (shaped (tree_of ground.program.now) ground.plan.now ground.shape).kinds
