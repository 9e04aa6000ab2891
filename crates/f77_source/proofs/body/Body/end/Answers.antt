use Rattle.std.proofs.Common.{◌++◌, ◌∷◌, [], ℤ, Vec, Global, map, w64, FitsSigned, rules, ap, ◌∙◌}
use Rattle.std.proofs.lemmas.Int.{to_z-of_z}
use Rattle.nest_tree.specs.Tree.{do_loop}
use Rattle.nest_tree.specs.View.{statement_of, head_of}
use Rattle.nest_tree.specs.declared.tree.Item.{Item, Loop}
use Rattle.nest_tree.specs.declared.tree.Nest.{roll-Nest}
use Rattle.f77_scene.specs.Trees.{in_a_row}
use Rattle.f77_source.proofs.Ended.{loop_behind}
use Rattle.f77_source.proofs.body.Body.end.Goals as goal

pub returns-clause-items : goal.returns-clause-items
returns-clause-items c =
    let b = c.args.begun in
    let fits : FitsSigned w64 b.step = search rules in
    let nest = λ (z : ℤ). roll-Nest (record { number = b.number; m1 = b.m1; m2 = b.m2; step = z; items = c.replace-items.result; line = b.line }) in
    ap (map statement_of) (c.in_ok-push.ensures.items ∙ ap (λ z. c.replace-items.new.dest.items ++ Loop (nest z) ∷ []) (to_z-of_z w64 b.step fits) ∙ ap (λ (v : Vec Item Global). v.items ++ Loop (nest b.step) ∷ []) c.replace-items.ensures.after)
    ∙ loop_behind b.front.items (nest b.step)
    ∙ ap (λ (v : Vec Item Global). map statement_of b.front.items ++ do_loop (head_of (nest b.step)) (in_a_row (map statement_of v.items)) ∷ []) c.replace-items.ensures.value
