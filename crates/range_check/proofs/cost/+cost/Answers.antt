use Rattle.std.proofs.Common.{length, ap, sym, ◌∙◌, rules}
use Rattle.nest_tree.specs.declared.tree.Item.{the_lemmas}
use Rattle.nest_tree.specs.Given.{is_all_given}
use Rattle.nest_tree.specs.View.{statement_of}
use Rattle.nest_tree.proofs.Rows.{statement_of-Loop}
use Rattle.range_check.proofs.cost.+cost.Goals as goal

pub item_cost-nest_cost-requires : goal.item_cost-nest_cost-requires
item_cost-nest_cost-requires t c =
    let e = ap statement_of c.in-Loop.is ∙ statement_of-Loop c.in-Loop.nest in
    (search (rules, the_lemmas), sym (ap (is_all_given (length c.args.ends.now) (length c.args.constants.now)) e) ∙ c.requires)
