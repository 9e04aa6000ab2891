use Rattle.std.proofs.Common.{map, ap, sym, ◌∙◌}
use Rattle.nest_tree.specs.View.{constant_of}
use Rattle.nest_agree.specs.Same.{same_list, same_name}
use Rattle.nest_agree.proofs.Lists.{mapped_listed}
use Rattle.nest_agree.proofs.agree.have_same_names.Goals as goal

pub returns : goal.returns
returns c =
    c.same_names.ensures ∙ sym (mapped_listed same_name constant_of c.deref.result.now c.deref-2.result.now)
    ∙ ap (λ xs. same_list same_name (map constant_of xs) (map constant_of c.deref-2.result.now)) c.deref.ensures.value
    ∙ ap (λ ys. same_list same_name (map constant_of c.args.f.now.params.items) (map constant_of ys)) c.deref-2.ensures.value
