use Rattle.std.proofs.Common.{rules, ◌≡◌, ◌∙◌, ◌++◌, ◌∷◌, [], ap, ap₂, append_assoc, map, w64, FitsSigned, to_z-of_z}
use Rattle.std.specs.Fmt.{signed_decimal}
use Rattle.std.proofs.lemmas.Result.{IfOk-weaker}
use Rattle.nest_tree.specs.View.{tree_of}
use Rattle.f77_lines.specs.Listing.{entries_of}
use Rattle.f77_scene.specs.Reading.{program_in}
use Rattle.f77_source.specs.Sources.{setting_of}
use Rattle.spmd_answer.specs.Due.{due_of_refusal, reading_text}
use Rattle.spmd_answer.specs.declared.source.Behind.TheVariants.{SweptPlan}
use Rattle.spmd_answer.proofs.sweep.Sweeping.line_at.Goals as goal

pub returns : goal.returns
returns c =
    let proven = c.args.self.now.proven.now in
    let bytes = c.args.self.now.input.now.bytes.now in
    let fits : FitsSigned w64 c.args.value = c.ranges.value in
    let settings = simp to_z-of_z at c.in_ok-given.ensures in
    let given = ap (map setting_of) c.deref.ensures.value ∙ settings in
    let text = c.in_ok-text.ensures ∙ ap (λ all. reading_text (tree_of proven.program.now) proven.plan.now (due_of_refusal SweptPlan bytes all, program_in (entries_of bytes) all)) given in
    let front : c.into_bytes.result.items ≡ signed_decimal c.args.value ++ 32 ∷ [] = search (rules, c.into_bytes.ensures.value, c.in_ok-front.ensures.ok) in
    IfOk-weaker c.joined.result _ _ (λ t h. h ∙ (ap₂ (λ f b. f ++ b) front (c.deref-2.ensures.value ∙ text) ∙ append_assoc (signed_decimal c.args.value) (32 ∷ []) _)) c.joined.ensures
