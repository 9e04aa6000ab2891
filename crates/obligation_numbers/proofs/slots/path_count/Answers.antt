use Rattle.std.proofs.Common.{ap, sym, ◌∙◌}
use Rattle.std.specs.Prelude.{sum_by}
use Rattle.std.specs.Io.Iter.{u64_saturate}
use Rattle.nest_tree.specs.View.{statement_of, statements_from}
use Rattle.nest_tree.proofs.Rows.{statement_of-Loop}
use Rattle.own_scalars.specs.OwnScalars.{path_length}
use Rattle.obligation_numbers.specs.Counts.{path_count}
use Rattle.obligation_numbers.proofs.slots.path_count.Goals as goal

pub returns-in-Loop : goal.returns-in-Loop
returns-in-Loop c =
    let nest = c.in-Loop.nest in
    let cut = c.args.cut.now in
    let same = ap (λ s. path_count cut s) (ap statement_of c.in-Loop.is ∙ statement_of-Loop nest) in
    c.path_lengths.ensures ∙ ap (λ xs. u64_saturate (sum_by (λ v. path_length v (statements_from xs)) c.privates_of.result.now)) c.deref.ensures.value
    ∙ ap (λ vs. u64_saturate (sum_by (λ v. path_length v (statements_from nest.items.items)) vs)) c.privates_of.ensures ∙ ap u64_saturate (sym same)
