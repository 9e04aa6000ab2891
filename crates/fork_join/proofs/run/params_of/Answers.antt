use Rattle.std.proofs.Common.{map, ap, sym, ◌∙◌}
use Rattle.std.proofs.lemmas.List.{take_all}
use Rattle.nest_tree.specs.declared.tree.Parameter.{Parameter}
use Rattle.nest_walk.proofs.CursorMoves.{values_are}
use Rattle.fork_join.proofs.run.params_of.Goals as goal

pub returns : goal.returns
returns c =
    let all = take_all c.loop-parameter.parameter-index c.deref-parameter-items.result.now c.loop-parameter-test.false in
    c.loop-parameter.invariant ∙ ap (map (λ (p : Parameter). p.value)) (all ∙ c.deref-parameter-items.ensures.value) ∙ sym (values_are c.args.program.now.params.items)
