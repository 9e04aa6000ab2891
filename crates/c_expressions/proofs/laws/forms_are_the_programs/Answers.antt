use Rattle.std.proofs.Common.{◌≡◌, ℕ, ◌*◌, ◌<◌, ◌^◌, pos, map, ap, ◌∙◌, arith}
use Rattle.nest_tree.specs.Form.{form_value}
use Rattle.nest_tree.specs.Layout.{element_count, element_place}
use Rattle.c_expressions.proofs.ProgramForms.{form_at-is, place_at-is}
use Rattle.c_expressions.proofs.laws.forms_are_the_programs.Goals as goal

once : (n : ℕ) → 1 * n ≡ n
once n = omega arith

fewer : (n : ℕ) → n < 2 ^ 63 → 1 * n < 2 ^ 63
fewer n lt = omega arith

pub returns-clause-form : goal.returns-clause-form
returns-clause-form c params loops f v has = form_at-is params loops f v has

pub returns-clause-place : goal.returns-clause-place
returns-clause-place c params loops fs bounds v has same good inside few =
    place_at-is params loops v has fs bounds 1 same good inside (fewer (element_count bounds) few) ∙ ap pos (once (element_place bounds (map (λ f. form_value f loops params) fs)))
