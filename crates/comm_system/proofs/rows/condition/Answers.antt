use Rattle.std.proofs.Common.{◌++◌, ap, ◌∙◌, FitsSigned, w64, rules, ℤ, ℕ, List, to_z-of_z}
use mir.Syntax.{w128}
use Rattle.std.proofs.lemmas.Int.{to_z-of_z as back_again}
use Rattle.nest_rows.specs.Signs.{with_sign}
use Rattle.nest_rows.specs.declared.constraint.Constraint.{Constraint}
use Rattle.nest_rows.specs.declared.constraint.Sign.TheVariants.{Plus}
use Rattle.nest_rows.proofs.SmallTerms.{are_small}
use Rattle.comm_system.proofs.RowSteps.{row_small, with_plus}
use Rattle.comm_system.proofs.rows.condition.Goals as goal

abbrev constraint : List (ℕ × ℤ) → ℤ → Constraint
constraint terms bound = record { terms = terms; bound = bound }

pub push_signed-requires-clause-small : goal.push_signed-requires-clause-small
push_signed-requires-clause-small c = ap are_small c.as_slice.ensures ∙ row_small c.requires.0 c.args.row.now c.requires.1

pub returns-clause-is : goal.returns-clause-is
returns-clause-is c =
    let fits : FitsSigned w64 c.args.row.now.bound = search rules in
    let wide : FitsSigned w128 c.of_wide-bound.result = search rules in
    let terms = c.in_ok-push_signed.ensures.terms ∙ ap (λ xs. xs ++ with_sign Plus c.as_slice.result.now) c.new-terms.ensures ∙ with_plus c.as_slice.result.now ∙ c.as_slice.ensures in
    let bound = c.of_wide-bound.ensures.value ∙ back_again w64 c.args.row.now.bound fits in
    simp to_z-of_z (ap (constraint c.push_signed.new.terms) bound ∙ ap (λ (xs : List (ℕ × ℤ)). constraint xs c.args.row.now.bound) terms)
