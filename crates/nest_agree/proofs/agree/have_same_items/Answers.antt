use Rattle.std.proofs.Common.{ap, sym, ◌∙◌}
use Rattle.nest_tree.specs.View.{statements_from}
use Rattle.nest_agree.specs.Same.{same_statements}
use Rattle.nest_agree.proofs.Lists.{statements_listed}
use Rattle.nest_agree.proofs.agree.have_same_items.Goals as goal

pub returns : goal.returns
returns c =
    c.same_statements.ensures ∙ sym (statements_listed c.deref.result.now c.deref-2.result.now)
    ∙ ap (λ ss. same_statements (statements_from ss) (statements_from c.deref-2.result.now)) c.deref.ensures.value
    ∙ ap (λ ts. same_statements (statements_from c.args.f.now.items.items) (statements_from ts)) c.deref-2.ensures.value
