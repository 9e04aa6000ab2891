use Rattle.std.proofs.Common.{◌≡◌, ◌+◌, ◌<◌, subst, sym}
use Rattle.nest_tree.specs.View.{statements_from, tree_of}
use Rattle.nest_model.specs.Visits.{stops_of}
use Rattle.owner_partition.specs.Marks.{enters_outer}
use Rattle.thread_code.specs.Code.{codes_in}
use Rattle.thread_code.specs.Tables.{table_of}
use Rattle.thread_code.specs.View.{codes_view}
use Rattle.thread_code.proofs.Codes.{few_phases}
use Rattle.thread_code.proofs.making.code_of.Goals as goal

pub returns-clause-tree : goal.returns-clause-tree
returns-clause-tree c =
    let plan = c.args.plan.now in
    let enters = enters_outer plan.cut.marks in
    let few = few_phases (tree_of c.args.program.now) enters c.args.program.now.formed in
    let items = c.deref.ensures.value in
    subst (λ xs. codes_view c.in_ok-codes.codes.items ≡ codes_in (table_of c.in_ok-turnings.turnings) plan (statements_from xs) 1) items
    (c.in_ok-codes.ensures.codes (subst (λ xs. 1 + stops_of enters (statements_from xs) < 4294967296) (sym items) few))
