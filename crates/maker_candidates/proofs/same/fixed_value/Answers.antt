use Rattle.std.proofs.Common.{◌≡◌, ◌+ℤ◌, true, false, FitsSigned, rules, Some, None, if◌then◌else◌, length, map, ap, sym, ◌∙◌}
use Rattle.std.specs.Int.{w128}
use Rattle.std.proofs.lemmas.Int.{to_z-of_z}
use Rattle.std.proofs.lemmas.List.{length-map}
use Rattle.nest_tree.specs.declared.tree.Parameter.{Parameter}
use Rattle.nest_tree.specs.Form.{dot, reach_within}
use Rattle.maker_candidates.proofs.same.fixed_value.Goals as goal

pub returns-then-is_known : goal.returns-then-is_known
returns-then-is_known c =
    let form = c.args.form.now in
    let constants = c.args.constants.now in
    let values = map (λ (p : Parameter). p.value) constants in
    let known : reach_within (length values) form.params ≡ true = ap (λ n. reach_within n form.params) (length-map constants (λ (p : Parameter). p.value)) ∙ sym c.is_known.ensures ∙ c.if-is_known.true in
    let fits : FitsSigned w128 c.known_value.result = search rules in
    ap (λ z. Some z) (to_z-of_z w128 c.known_value.result fits ∙ c.known_value.ensures) ∙ sym (ap (λ b. if b then Some (form.constant +ℤ dot form.params values) else None) known)

pub returns-else-is_known : goal.returns-else-is_known
returns-else-is_known c =
    let form = c.args.form.now in
    let constants = c.args.constants.now in
    let values = map (λ (p : Parameter). p.value) constants in
    let unknown : reach_within (length values) form.params ≡ false = ap (λ n. reach_within n form.params) (length-map constants (λ (p : Parameter). p.value)) ∙ sym c.is_known.ensures ∙ c.if-is_known.false in
    sym (ap (λ b. if b then Some (form.constant +ℤ dot form.params values) else None) unknown)
