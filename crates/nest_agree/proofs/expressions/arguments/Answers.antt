use Rattle.std.proofs.Common.{ap, sym, ◌∙◌}
use Rattle.nest_tree.specs.View.{expression_of, expressions_from}
use Rattle.nest_tree.proofs.Rows.{expression_of-Min, expression_of-Max}
use Rattle.nest_agree.specs.Same.{arguments_of}
use Rattle.nest_agree.proofs.expressions.arguments.Goals as goal

pub returns-in-Min : goal.returns-in-Min
returns-in-Min c =
    ap expressions_from c.as_slice.ensures.value ∙ sym (ap (λ e. arguments_of (expression_of e)) c.in-Min.is ∙ ap arguments_of (expression_of-Min c.in-Min.arguments))

pub returns-in-Max : goal.returns-in-Max
returns-in-Max c =
    ap expressions_from c.as_slice-in-Max.ensures.value ∙ sym (ap (λ e. arguments_of (expression_of e)) c.in-Max.is ∙ ap arguments_of (expression_of-Max c.in-Max.arguments))
