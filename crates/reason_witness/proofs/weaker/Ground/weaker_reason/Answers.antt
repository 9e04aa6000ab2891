use Rattle.std.proofs.Common.{◌-◌, ap, set, ◌∙◌}
use Rattle.std.specs.List.{list_all}
use Rattle.nest_tree.specs.View.{tree_of}
use Rattle.comm_system.specs.Signatures.{has_places_in}
use Rattle.comm_system.proofs.ShapeParts.{shaped}
use Rattle.reason_witness.proofs.Questions.{all_set}
use Rattle.reason_witness.proofs.weaker.Ground.weaker_reason.Goals as goal

pub found_under-requires-clause-places : goal.found_under-requires-clause-places
found_under-requires-clause-places c =
    let ground = c.args.self.now in
    let candidate = c.args.candidate.now in
    let kinds = ground.plan.now.kinds in
    ap (list_all has_places_in) (c.as_slice.ensures.value ∙ c.in_ok-kinds.ensures ∙ ap (λ ks. set ks (candidate.phase - 1) candidate.kind) c.as_slice-own.ensures)
    ∙ all_set has_places_in kinds (candidate.phase - 1) candidate.kind (shaped (tree_of ground.program.now) ground.plan.now ground.shape).kinds candidate.places
