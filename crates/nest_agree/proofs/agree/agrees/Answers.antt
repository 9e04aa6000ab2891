use Rattle.std.proofs.Common.{sym, ◌∙◌}
use Rattle.nest_tree.specs.View.{tree_of}
use Rattle.nest_agree.proofs.Equal.{agree_is, agree_same}
use Rattle.nest_agree.proofs.agree.agrees.Goals as goal

pub returns : goal.returns
returns c =
    let f = tree_of c.args.f.now in
    let g = tree_of c.args.g.now in
    ((λ h. agree_is f g (sym c.do_agree.ensures ∙ h)), (λ a. c.do_agree.ensures ∙ agree_same f g a))
