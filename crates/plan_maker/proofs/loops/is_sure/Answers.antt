use Rattle.std.proofs.Common.{◌∷◌, [], ◌++◌, ap, ◌∙◌, map, subst}
use Rattle.nest_tree.specs.View.{tree_of}
use Rattle.comm_system.specs.PhaseViews.{phase_seen}
use Rattle.maker_marks.specs.Cut.{cut_alone}
use Rattle.maker_marks.specs.declared.tries.Tried.TheVariants.{Private}
use Rattle.plan_maker.specs.Cut.{path_asked}
use Rattle.plan_maker.specs.Judged.{IsVerdict}
use Rattle.plan_maker.proofs.AloneAsked.{paths_judged}
use Rattle.plan_maker.proofs.TriedCuts.{alone_tried}
use Rattle.plan_maker.proofs.loops.is_sure.Goals as goal

pub serial-requires : goal.serial-requires
serial-requires c =
    let tree = tree_of c.args.program.now in
    let n = c.args.number in
    let v = c.args.scalar in
    let own = c.from_vec-own.ensures ∙ c.in_ok-push.ensures.items ∙ ap (λ xs. xs ++ v ∷ []) c.new-own.ensures.items in
    let is = c.in_ok-cut.ensures ∙ ap (cut_alone tree n Private) own in
    record { tried = alone_tried tree n Private (v ∷ []) c.in_ok-cut.cut c.args.program.now.formed c.requires.some c.requires.made is }

pub returns-in-Refuted : goal.returns-in-Refuted
returns-in-Refuted c =
    let tree = tree_of c.args.program.now in
    let n = c.args.number in
    let v = c.args.scalar in
    let own = c.from_vec-own.ensures ∙ c.in_ok-push.ensures.items ∙ ap (λ xs. xs ++ v ∷ []) c.new-own.ensures.items in
    let is = c.in_ok-cut.ensures ∙ ap (cut_alone tree n Private) own in
    let paths = paths_judged tree c.in_ok-plan.plan c.in_ok-cut.cut (map phase_seen c.as_slice.result.now) c.in_ok-plan.ensures.cut c.in_ok-plan.ensures.conditions (ap (map phase_seen) c.as_slice.ensures.value ∙ c.in_ok-phases.ensures.phases) n Private (v ∷ []) is c.in_ok-_certificates.field-0 c.in_ok-_certificates.ensures in
    (c.in-Refuted._certificates.items, subst (IsVerdict (path_asked tree n v)) c.in-Refuted.is paths)

pub returns : goal.returns
returns c =
    let tree = tree_of c.args.program.now in
    let n = c.args.number in
    let v = c.args.scalar in
    let own = c.from_vec-own.ensures ∙ c.in_ok-push.ensures.items ∙ ap (λ xs. xs ++ v ∷ []) c.new-own.ensures.items in
    let is = c.in_ok-cut.ensures ∙ ap (cut_alone tree n Private) own in
    let paths = paths_judged tree c.in_ok-plan.plan c.in_ok-cut.cut (map phase_seen c.as_slice.result.now) c.in_ok-plan.ensures.cut c.in_ok-plan.ensures.conditions (ap (map phase_seen) c.as_slice.ensures.value ∙ c.in_ok-phases.ensures.phases) n Private (v ∷ []) is c.in_ok-_certificates.field-0 c.in_ok-_certificates.ensures in
    (c.in-Kept._cause, subst (IsVerdict (path_asked tree n v)) c.in-Kept.is paths)
