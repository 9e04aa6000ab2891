use Rattle.std.proofs.Common.{pos, length, map, ap, sym, ◌∙◌, arith}
use Rattle.std.proofs.lemmas.List.{length-replicate, take_all}
use Rattle.nest_tree.specs.View.{tree_of}
use Rattle.nest_tree.specs.declared.tree.Parameter.{Parameter}
use Rattle.nest_tree.proofs.Good.{loops-few}
use Rattle.nest_walk.proofs.CellPlaces.{few_cells}
use Rattle.nest_walk.proofs.CursorMoves.{values_are}
use Rattle.seq_meaning.proofs.run.Run.new.Goals as goal

pub returns-clause-ready : goal.returns-clause-ready
returns-clause-ready c =
    let tree = tree_of c.args.program.now in
    let all = take_all c.loop-parameter.parameter-index c.deref-parameter-items.result.now c.loop-parameter-test.false in
    let loops = ap (λ xs. length xs) (c.in_ok-vec.ensures.items_if_clones_equal (λ y e. e)) ∙ length-replicate 400 (pos 0) in
    let lines = ap (λ xs. length xs) (c.in_ok-vec-2.ensures.items_if_clones_equal (λ y e. e)) ∙ length-replicate c.registers-most.result _ in
    let registers = ap (λ xs. length xs) (c.in_ok-vec-3.ensures.items_if_clones_equal (λ y e. e)) ∙ length-replicate c.registers-most.result (pos 0) in
    let cells = ap (λ xs. length xs) (c.in_ok-vec-4.ensures.items_if_clones_equal (λ y e. e)) ∙ length-replicate c.cell_count.result (pos 0) in
    record {
      table = c.in_ok-new.ensures;
      params = c.loop-parameter.invariant ∙ ap (map (λ (p : Parameter). p.value)) (all ∙ c.deref-parameter-items.ensures.value) ∙ sym (values_are c.args.program.now.params.items);
      codes = c.in_ok-codes.ensures;
      lines = omega (arith, lines, c.registers-most.ensures);
      registers = omega (arith, registers, c.registers-most.ensures);
      loops = omega (arith, loops, loops-few tree c.args.program.now.formed);
      memory = omega (arith, cells, c.cell_count.ensures, few_cells tree c.args.program.now.limits);
    }
