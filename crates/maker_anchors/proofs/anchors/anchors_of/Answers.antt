use Rattle.std.proofs.Common.{◌≡◌, ◌+◌, ◌-◌, ◌++◌, ◌∷◌, [], suc, drop, append_assoc, ap, ap₂, sym, ◌∙◌, arith}
use Rattle.std.specs.Prelude.{slice_get}
use Rattle.nest_tree.specs.View.{statement_of, tree_of}
use Rattle.nest_walk.specs.Texts.{Placed}
use Rattle.owner_partition.specs.StaticPhases.{loops_round}
use Rattle.sync_plan.specs.Shape.{static_phases}
use Rattle.maker_anchors.specs.Anchors.{anchors_from}
use Rattle.maker_anchors.proofs.Phases.{anchors_more}
use Rattle.maker_anchors.proofs.anchors.anchors_of.Goals as goal

pub loop-place-preserved : goal.loop-place-preserved
loop-place-preserved c =
    let tree = tree_of c.args.program.now in
    let cut = c.args.cut.now.marks in
    let text = static_phases tree cut in
    let k = c.loop-place.place in
    let old = c.loop-place.anchors.items in
    let p : Placed = record { what = statement_of c.in-Some.phase.item.now; around = loops_round c.in-Some.phase } in
    let here : k + 1 - 1 ≡ k = omega arith in
    let next : suc (k + 1) ≡ k + 1 + 1 = omega arith in
    let after : suc k ≡ k + 1 = omega arith in
    let rest = anchors_from tree cut c.args.workers (k + 1 + 1) (drop (k + 1) text) in
    let more = anchors_more tree cut c.args.workers (k + 1) text k p (ap (slice_get text) (sym here) ∙ c.in-Some.ensures) ∙ ap₂ (λ a more. a ∷ more) (sym c.in_ok-phase_anchor.ensures) (ap₂ (λ u j. anchors_from tree cut c.args.workers u (drop j text)) next after) in
    ap (λ xs. xs ++ rest) c.in_ok-push.ensures.items ∙ append_assoc old (c.in_ok-phase_anchor.field-0 ∷ []) rest ∙ ap (λ more. old ++ more) (sym more) ∙ c.loop-place.invariant
