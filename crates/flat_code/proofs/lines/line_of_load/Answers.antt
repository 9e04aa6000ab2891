use Rattle.std.proofs.Common.{pos, refl, rules, ◌∙◌, FitsSigned, w64}
use Rattle.std.proofs.lemmas.Int.{to_z-of_z}
use Rattle.nest_walk.specs.RoundsOf.{rounds_of}
use Rattle.flat_code.proofs.Along.{array_line, element_line}
use Rattle.flat_code.proofs.lines.line_of_load.Goals as goal

pub returns-in-Element : goal.returns-in-Element
returns-in-Element c = element_line c.args.load.now c.in-Element.form (rounds_of c.args.path.now) _ c.in-Element.is c.line_of.ensures

pub returns-in-Array : goal.returns-in-Array
returns-in-Array c =
    let fits : FitsSigned w64 c.from.result = search rules in
    let fits_first : FitsSigned w64 (pos c.in-Array.first) = search rules in
    array_line c.args.load.now c.in-Array.first _ (rounds_of c.args.path.now) _ c.in-Array.is fits_first (to_z-of_z w64 c.from.result fits ∙ c.from.ensures) refl
