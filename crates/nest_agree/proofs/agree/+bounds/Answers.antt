use Rattle.std.proofs.Common.{map, ap, sym, ◌∙◌}
use Rattle.std.specs.List.{list_all}
use Rattle.nest_tree.specs.View.{declaration_of, statement_of, statements_from}
use Rattle.nest_tree.proofs.Rows.{statement_of-Loop}
use Rattle.nest_agree.specs.Agree.{printed_in, printed_whole}
use Rattle.nest_agree.specs.Same.{same_bounds}
use Rattle.nest_agree.proofs.agree.+bounds.Goals as goal

pub has_same_bounds-returns-in-Loop : goal.has_same_bounds-returns-in-Loop
has_same_bounds-returns-in-Loop t c =
    let test = same_bounds (map declaration_of c.args.f.now) (map declaration_of c.args.g.now) in
    c.have_same_bounds.ensures ∙ ap (λ xs. list_all test (printed_whole (statements_from xs))) c.deref.ensures.value
    ∙ sym (ap (λ s. list_all test (printed_in s)) (ap statement_of c.in-Loop.is ∙ statement_of-Loop c.in-Loop.nest))
