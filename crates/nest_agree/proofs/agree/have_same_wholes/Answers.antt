use Rattle.std.proofs.Common.{map, ap, ◌∙◌}
use Rattle.std.specs.List.{list_all}
use Rattle.nest_tree.specs.View.{declaration_of, statements_from}
use Rattle.nest_agree.specs.Agree.{printed_whole}
use Rattle.nest_agree.specs.Same.{same_bounds}
use Rattle.nest_agree.proofs.agree.have_same_wholes.Goals as goal

pub returns : goal.returns
returns c =
    c.have_same_bounds.ensures
    ∙ ap (λ xs. list_all (same_bounds (map declaration_of c.deref-2.result.now) (map declaration_of c.deref-3.result.now)) (printed_whole (statements_from xs))) c.deref.ensures.value
    ∙ ap (λ vs. list_all (same_bounds (map declaration_of vs) (map declaration_of c.deref-3.result.now)) (printed_whole (statements_from c.args.f.now.items.items))) c.deref-2.ensures.value
    ∙ ap (λ ws. list_all (same_bounds (map declaration_of c.args.f.now.variables.items) (map declaration_of ws)) (printed_whole (statements_from c.args.f.now.items.items))) c.deref-3.ensures.value
