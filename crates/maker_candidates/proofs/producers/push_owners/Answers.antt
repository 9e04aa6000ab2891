use Rattle.std.proofs.Common.{◌+◌, drop, map, ap, sym, ◌∙◌}
use Rattle.std.specs.Prelude.{slice_get}
use Rattle.nest_tree.specs.Tree.{param_values}
use Rattle.nest_tree.specs.View.{tree_of}
use Rattle.comm_system.specs.PhaseViews.{phase_seen}
use Rattle.maker_candidates.specs.Candidates.{each_once, once_more, phase_owners}
use Rattle.maker_candidates.proofs.Once.{owner_no, owner_yes, owners_end}
use Rattle.maker_candidates.proofs.producers.push_owners.Goals as goal
use Rattle.maker_candidates.proofs.producers.push_owners.Goals.{then-can_produce+in_ok-copy+in_ok-push_once, else-can_produce}

pub returns-in_default : goal.returns-in_default
returns-in_default c =
    let values = param_values (tree_of c.args.site.program.now) in
    let workers = c.args.site.plan.now.workers in
    let t = phase_seen c.args.site.phase.now in
    let i = c.loop-place.place in
    let none = sym (c.in_default.ensures ∙ ap (λ xs. slice_get xs i) c.as_slice.ensures) in
    sym (owners_end values workers t c.loop-place.found.items (map phase_seen (drop i c.args.phases.now)) c.args.site.plan.now.anchors i none) ∙ c.loop-place.invariant

pub loop-place-preserved : goal.loop-place-preserved
loop-place-preserved c =
    let values = param_values (tree_of c.args.site.program.now) in
    let workers = c.args.site.plan.now.workers in
    let t = phase_seen c.args.site.phase.now in
    let i = c.loop-place.place in
    let anchors = c.args.site.plan.now.anchors in
    let a = c.in-Some.anchor.now in
    let at = sym (c.in-Some.ensures ∙ ap (λ xs. slice_get xs i) c.as_slice.ensures) in
    let p = c.index-phases-place.result in
    let later = phase_owners t (map phase_seen (drop (i + 1) c.args.phases.now)) (drop (i + 1) anchors) in
    elim c.if-can_produce.branch [
      | then-can_produce+in_ok-copy+in_ok-push_once w ↦
          ap (λ v. each_once values workers v.items later) w.found-is ∙ ap (λ xs. each_once values workers xs later) (w.in_ok-push_once.ensures ∙ ap (once_more values workers c.loop-place.found.items) w.in_ok-copy.ensures)
          ∙ sym (owner_yes values workers t c.loop-place.found.items c.args.phases.now anchors i p a c.loop-place-test.true c.index-phases-place.is at (sym c.can_produce.ensures ∙ w.if-can_produce.true)) ∙ c.loop-place.invariant
      | else-can_produce w ↦
          ap (λ v. each_once values workers v.items later) w.found-is
          ∙ sym (owner_no values workers t c.loop-place.found.items c.args.phases.now anchors i p a c.loop-place-test.true c.index-phases-place.is at (sym c.can_produce.ensures ∙ w.if-can_produce.false)) ∙ c.loop-place.invariant
    ]
