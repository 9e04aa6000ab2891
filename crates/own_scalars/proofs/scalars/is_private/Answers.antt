use Rattle.std.proofs.Common.{sym, ◌∙◌}
use Rattle.nest_tree.specs.View.{statements_from}
use Rattle.own_scalars.proofs.Stored.{unstored_private}
use Rattle.own_scalars.proofs.scalars.is_private.Goals as goal

pub returns-else-some_of : goal.returns-else-some_of
returns-else-some_of c = c.if-some_of.false ∙ sym (unstored_private c.args.scalar (statements_from c.args.body.now) (sym c.some_of.ensures ∙ c.if-some_of.false))
