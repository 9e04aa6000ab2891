use Rattle.std.proofs.Common.{◌++◌, ◌∷◌, [], ap, ap₂, sym, ◌∙◌, append_assoc}
use Rattle.std.proofs.lemmas.Result.{on_ok_weaker}
use Rattle.nest_tree.specs.View.{statement_of, statements_from}
use Rattle.nest_tree.proofs.Rows.{statement_of-Loop}
use Rattle.maker_marks.specs.Privates.{none_in, none_of}
use Rattle.maker_marks.proofs.privates.+none.Goals as goal

pub push_none_in-returns-in_ok-push-in-Loop : goal.push_none_in-returns-in_ok-push-in-Loop
push_none_in-returns-in_ok-push-in-Loop t c =
    let old = c.args.lists.now.items in
    let body = statements_from c.in-Loop.nest.items.items in
    let whole = ap none_in (ap statement_of c.in-Loop.is ∙ statement_of-Loop c.in-Loop.nest) in
    let pushed = c.in_ok-push-in-Loop.ensures.items ∙ ap (λ vs. old ++ vs ∷ []) c.new.ensures in
    on_ok_weaker c.push_none.result (λ e. e ∙ (ap₂ (λ xs ys. xs ++ none_of (statements_from ys)) pushed c.deref.ensures.value
    ∙ (append_assoc old ([] ∷ []) (none_of body) ∙ ap (λ ls. old ++ ls) (sym whole)))) c.push_none.ensures
