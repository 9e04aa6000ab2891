use Rattle.std.proofs.Common.{ap, sym, ◌∙◌}
use Rattle.nest_tree.specs.View.{statement_of, statements_from}
use Rattle.nest_tree.proofs.Rows.{statement_of-Loop}
use Rattle.nest_tree.specs.Prints.{has_print, have_print}
use Rattle.nest_tree.proofs.items.+print.Goals as goal

pub prints-returns-in-Loop : goal.prints-returns-in-Loop
prints-returns-in-Loop t c =
    c.have_print.ensures ∙ ap (λ xs. have_print (statements_from xs)) c.deref.ensures.value ∙ sym (ap has_print (ap statement_of c.in-Loop.is ∙ statement_of-Loop c.in-Loop.nest))
