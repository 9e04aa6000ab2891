use Rattle.std.proofs.Common.{map, ap, sym, ◌∙◌}
use Rattle.nest_tree.specs.View.{declaration_of}
use Rattle.nest_agree.specs.Same.{same_list, same_kind}
use Rattle.nest_agree.proofs.Lists.{mapped_listed}
use Rattle.nest_agree.proofs.agree.have_same_kinds.Goals as goal

pub returns : goal.returns
returns c =
    c.same_kinds.ensures ∙ sym (mapped_listed same_kind declaration_of c.deref.result.now c.deref-2.result.now)
    ∙ ap (λ xs. same_list same_kind (map declaration_of xs) (map declaration_of c.deref-2.result.now)) c.deref.ensures.value
    ∙ ap (λ ys. same_list same_kind (map declaration_of c.args.f.now.variables.items) (map declaration_of ys)) c.deref-2.ensures.value
