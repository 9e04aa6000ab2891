use Rattle.std.proofs.Common.{◌++◌, ◌∷◌, [], List, ℕ, map, codes, append_assoc, ap, sym, ◌∙◌}
use Rattle.std.proofs.lemmas.Grind.{flat_map-append}
use Rattle.nest_tree.specs.View.{tree_of}
use Rattle.plan_text.specs.PlanText.{text_of}
use Rattle.reason_text.specs.ReasonText.{loop_line, phase_line}
use Rattle.reason_text.proofs.write.push_reasons.Goals as goal

pub returns : goal.returns
returns c =
    let tree = tree_of c.args.program.now in
    let old = c.args.text.now.items in
    let loops = map (loop_line tree) c.args.reasons.now.loops.items in
    let phases = map (phase_line tree) c.args.reasons.now.phases.items in
    let last = codes "END REASONS" ∷ [] in
    let with_end = λ (l : List ℕ). l ++ 10 ∷ [] in
    let first = c.in_ok-push_loops.ensures ∙ ap (λ rs. old ++ text_of (map (loop_line tree) rs)) c.as_slice.ensures.value in
    let second = c.in_ok-push_phases.ensures ∙ ap (λ rs. c.push_loops.new.text.items ++ text_of (map (phase_line tree) rs)) c.as_slice-2.ensures.value ∙ ap (λ t. t ++ text_of phases) first in
    let whole = flat_map-append with_end loops (phases ++ last) ∙ ap (λ t. text_of loops ++ t) (flat_map-append with_end phases last) in
    c.in_ok-extend_from_slice.ensures.items ∙ ap (λ t. t ++ text_of last) second ∙ append_assoc (old ++ text_of loops) (text_of phases) (text_of last) ∙ append_assoc old (text_of loops) (text_of phases ++ text_of last) ∙ ap (λ t. old ++ t) (sym whole)
