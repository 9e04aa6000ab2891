use Rattle.std.proofs.Common.{◌*◌, ◌≤◌, length, ap, sym, ◌∙◌, arith}
use Rattle.std.proofs.lemmas.List.{length-map}
use Rattle.nest_tree.specs.Layout.{element_count}
use Rattle.nest_tree.specs.View.{declaration_of, tree_of}
use Rattle.nest_tree.proofs.Cells.{declared-numbered}
use Rattle.instance_runs.proofs.room.longest_array.Goals as goal

pub element_count-count-requires : goal.element_count-count-requires
element_count-count-requires c =
    let low : 1 ≤ c.args.variable = omega (arith, c.if-number-eq0.false) in
    let high : c.args.variable ≤ length (tree_of c.args.program.now).variables = omega (arith, c.if-len-number.false, c.len.ensures, length-map c.args.program.now.variables.items declaration_of, c.args.program.now.variables.ok.0) in
    (declared-numbered c.args.program.now c.args.variable c.index.result.now c.args.program.now.formed low high c.index.ensures).good

pub returns : goal.returns
returns c =
    let low : 1 ≤ c.args.variable = omega (arith, c.if-number-eq0.false) in
    let high : c.args.variable ≤ length (tree_of c.args.program.now).variables = omega (arith, c.if-len-number.false, c.len.ensures, length-map c.args.program.now.variables.items declaration_of, c.args.program.now.variables.ok.0) in
    ap (λ n. 21 * n) (c.element_count-count.ensures.count ∙ ap element_count (sym (declared-numbered c.args.program.now c.args.variable c.index.result.now c.args.program.now.formed low high c.index.ensures).bounds))
