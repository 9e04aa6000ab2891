use Rattle.std.proofs.Common.{◌∙◌, w64, FitsSigned, rules}
use Rattle.std.proofs.lemmas.Int.{to_z-of_z}
use Rattle.nest_tree.proofs.Quotients.{quotient_cast}
use Rattle.nest_tree.proofs.arithmetic.truncated_quotient.Goals as goal

pub returns : goal.returns
returns c =
    let h = rw (to_z-of_z w64 c.args.a c.ranges.a, to_z-of_z w64 c.args.divisor c.ranges.divisor) at c.wrapping_div.ensures in
    let f : FitsSigned w64 c.wrapping_div.result = search rules in
    rw (to_z-of_z w64 c.wrapping_div.result f) (h ∙ quotient_cast c.args.a c.args.divisor c.ranges.a)
