use Rattle.std.proofs.Common.{ap, ◌∙◌}
use Rattle.nest_rows.proofs.SmallTerms.{are_small, loops-small, params-small}
use Rattle.nest_rows.proofs.terms.push_form.Goals as goal

pub push_loops-requires-clause-small : goal.push_loops-requires-clause-small
push_loops-requires-clause-small c = ap are_small c.loops.ensures.pairs ∙ loops-small c.args.form.now c.loops.ensures.form

pub push_constants-requires-clause-small : goal.push_constants-requires-clause-small
push_constants-requires-clause-small c = ap are_small c.params.ensures.pairs ∙ params-small c.args.form.now c.params.ensures.form
