use Rattle.std.proofs.Common.{◌&&◌, ap, sym, ◌∙◌}
use Rattle.nest_tree.specs.View.{statement_of, statements_from}
use Rattle.nest_tree.proofs.Rows.{statement_of-Loop}
use Rattle.own_scalars.specs.OwnScalars.{is_sum}
use Rattle.owner_partition.specs.Marks.{is_sum_mark}
use Rattle.comm_system.specs.Shown.{is_summed}
use Rattle.comm_system.proofs.own.is_summed.Goals as goal

pub returns-then-is_sum : goal.returns-then-is_sum
returns-then-is_sum c =
    let nest = c.in-Loop.nest in
    let cut = c.args.cut.now in
    let v = c.args.variable in
    let same = ap (λ s. is_summed cut s v) (ap statement_of c.in-Loop.is ∙ statement_of-Loop nest) in
    let marked = sym (ap is_sum_mark c.mark.ensures) ∙ sym c.is_sum.ensures ∙ c.if-is_sum.true in
    c.is_sum-then-is_sum.ensures ∙ ap (λ xs. is_sum v (statements_from xs)) c.deref.ensures.value ∙ sym (same ∙ ap (λ b. b && is_sum v (statements_from nest.items.items)) marked)
