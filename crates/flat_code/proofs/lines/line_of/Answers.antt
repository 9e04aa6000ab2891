use Rattle.std.proofs.Common.{rules, arith, ◌≡◌, ◌≤◌, pos, length, ap, ◌∙◌, FitsSigned, w64}
use Rattle.std.proofs.lemmas.Int.{to_z-of_z}
use Rattle.nest_walk.specs.CellForms.{start_at}
use Rattle.nest_walk.specs.Paths.{by_depth}
use Rattle.nest_walk.specs.RoundsOf.{rounds_of}
use Rattle.nest_walk.proofs.Strips.{value_set}
use Rattle.flat_code.proofs.Along.{form_line}
use Rattle.flat_code.proofs.lines.line_of.Goals as goal

pub returns : goal.returns
returns c =
    let form = c.args.form.now in
    let rounds = rounds_of c.args.path.now in
    let fits : FitsSigned w64 c.start.result = search rules in
    let fits_along : FitsSigned w64 c.along.result = search rules in
    let six : length form.steps ≡ 6 = c.along.ensures.six in
    let within : length rounds ≤ 6 = omega (arith, c.depth.ensures.count, c.depth.ensures.within) in
    let zero = value_set rounds (rounds_of c.set.new.self) (pos 0) c.requires c.set.ensures in
    let origin = to_z-of_z w64 c.start.result fits ∙ c.start.ensures ∙ ap (start_at form) (c.values.ensures ∙ ap by_depth zero) in
    let stride = to_z-of_z w64 c.along.result fits_along ∙ c.along.ensures.step in
    form_line form rounds _ c.depth.result six c.requires within c.depth.ensures.count origin stride
