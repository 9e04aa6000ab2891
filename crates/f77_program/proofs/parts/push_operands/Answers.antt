use Rattle.std.proofs.Common.{◌++◌, reverse, map, ap, sym, ◌∙◌}
use Rattle.f77_forms.specs.View.{expression_of}
use Rattle.f77_program.specs.Operands.{operands_of, forms_of}
use Rattle.f77_program.proofs.Parted.{operands_of-Call}
use Rattle.f77_program.proofs.parts.push_operands.Goals as goal

pub returns-in_ok-push_last_first-in-Call : goal.returns-in_ok-push_last_first-in-Call
returns-in_ok-push_last_first-in-Call c =
    c.in_ok-push_last_first-in-Call.ensures
    ∙ ap (λ es. forms_of c.args.waiting.now.items ++ reverse es)
    (ap (map expression_of) c.as_slice.ensures.value ∙ sym (operands_of-Call c.in-Call.field-0 c.in-Call.arguments) ∙ ap (λ e. operands_of (expression_of e)) (sym c.in-Call.is))
