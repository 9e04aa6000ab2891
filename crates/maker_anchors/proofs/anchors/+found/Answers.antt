use Rattle.std.proofs.Common.{ap, sym, ◌∙◌, subst}
use Rattle.std.specs.Prelude.{IfOk, Option, ◌≡◌}
use Rattle.nest_tree.specs.View.{statement_of, statements_from}
use Rattle.nest_tree.proofs.Rows.{statement_of-Loop}
use Rattle.owner_partition.specs.declared.anchor.Anchor.{Anchor}
use Rattle.maker_anchors.specs.Anchors.{first_among, first_found}
use Rattle.maker_anchors.specs.Scopes.{sought_in}
use Rattle.maker_anchors.proofs.anchors.+found.Goals as goal

pub first_found-returns-in-Loop : goal.first_found-returns-in-Loop
first_found-returns-in-Loop t c =
    let f = sought_in c.args.scope c.args.sought in
    let same = ap (λ xs. first_among f (statements_from xs)) c.deref.ensures.value ∙ sym (ap (first_found f) (ap statement_of c.in-Loop.is ∙ statement_of-Loop c.in-Loop.nest)) in
    subst (λ (x : Option Anchor). IfOk c.first_among.result (λ o. o ≡ x)) same c.first_among.ensures
