use Rattle.std.proofs.Common.{◌≡◌, Some, None, ap, sym, ◌∙◌}
use Rattle.std.specs.Prelude.{option_map}
use Rattle.std.specs.Option.{option_copied}
use Rattle.nest_tree.specs.View.{statements_from, tree_of}
use Rattle.maker_marks.specs.Tries.{body_among, nest_body}
use Rattle.maker_marks.proofs.LoopsThere.{loop_there}
use Rattle.maker_marks.proofs.nests.nest_of.Goals as goal

pub unreachable-requires : goal.unreachable-requires
unreachable-requires c =
    let tree = tree_of c.args.program.now in
    let n = c.args.number in
    let there = loop_there tree n c.args.program.now.formed c.requires.some c.requires.there in
    let none : None ≡ body_among n tree.items = ap (λ o. option_map nest_body (option_copied o)) (sym c.in-None.is) ∙ c.nest_among.ensures.body ∙ ap (λ xs. body_among n (statements_from xs)) c.deref.ensures.value in
    let clash : None ≡ Some there.0 = none ∙ there.1 in
    cc
