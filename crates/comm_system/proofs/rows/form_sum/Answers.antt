use Rattle.std.proofs.Common.{◌≡◌, ◌++◌, ap, ◌∙◌, FitsSigned, w64, rules, ℤ, ℕ, List}
use Rattle.std.proofs.lemmas.Int.{to_z-of_z}
use Rattle.nest_rows.specs.Places.{terms_of}
use Rattle.nest_rows.specs.Views.{heads_of}
use Rattle.nest_rows.specs.Signs.{with_sign}
use Rattle.nest_rows.specs.declared.constraint.Sign.TheVariants.{Plus}
use Rattle.comm_system.specs.PairRows.{Sum}
use Rattle.comm_system.proofs.RowSteps.{with_plus}
use Rattle.comm_system.proofs.rows.form_sum.Goals as goal

abbrev sum : List (ℕ × ℤ) → ℤ → Sum
sum terms constant = record { terms = terms; constant = constant }

pub returns-clause-sum : goal.returns-clause-sum
returns-clause-sum c =
    let fits : FitsSigned w64 c.constant-constant.result = search rules in
    let ts = terms_of c.args.first (heads_of c.args.around.now) c.args.form.now in
    let terms : c.push_form.new.terms ≡ ts = c.in_ok-push_form.ensures.terms ∙ ap (λ xs. xs ++ with_sign Plus ts) c.new-terms.ensures ∙ with_plus ts in
    let constant = to_z-of_z w64 c.constant-constant.result fits ∙ c.constant-constant.ensures.value in
    ap (sum c.push_form.new.terms) constant ∙ ap (λ (xs : List (ℕ × ℤ)). sum xs c.args.form.now.constant) terms
