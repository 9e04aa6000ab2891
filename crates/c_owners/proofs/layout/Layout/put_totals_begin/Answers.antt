use Rattle.std.proofs.Common.{get_or, refl, string_bytes}
use Rattle.nest_tree.specs.View.{tree_of}
use Rattle.c_owners.specs.Closings.{total_begins}
use Rattle.c_statements.proofs.Writing.{each_all, each_next, each_none}
use Rattle.c_owners.proofs.layout.Layout.put_totals_begin.Goals as goal

pub loop-variable-init : goal.loop-variable-init
loop-variable-init c = each_none (total_begins (tree_of c.args.self.now.program.now)) (string_bytes c.args.out.now)

pub loop-variable-preserved : goal.loop-variable-preserved
loop-variable-preserved c =
    let xs = c.args.sums.now in
    let i = c.loop-variable.variable-index in
    each_next (total_begins (tree_of c.args.self.now.program.now)) xs i 0 (get_or xs i 0) c.loop-variable-test.true refl c.loop-variable.invariant c.in_ok-put_total_begins.ensures

pub returns : goal.returns
returns c = each_all (total_begins (tree_of c.args.self.now.program.now)) c.args.sums.now c.loop-variable.variable-index c.loop-variable-test.false c.loop-variable.invariant
