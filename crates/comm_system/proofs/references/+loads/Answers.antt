use Rattle.std.proofs.Common.{◌≡◌, ◌++◌, OnOk, map, false, ap, sym, ◌∙◌, subst}
use Rattle.nest_tree.specs.Loads.{loads_among, loads_in}
use Rattle.nest_tree.specs.View.{expression_of, expressions_from}
use Rattle.nest_tree.proofs.Rows.{expression_of-Max, expression_of-Min}
use Rattle.nest_walk.specs.Tables.{element}
use Rattle.conflict_rules.specs.Seen.{reference_seen}
use Rattle.comm_system.specs.Seen.{referred}
use Rattle.comm_system.proofs.references.+loads.Goals as goal

pub push_loads-returns-in-Min : goal.push_loads-returns-in-Min
push_loads-returns-in-Min t c =
    let same = ap (λ xs. loads_among (expressions_from xs)) c.deref.ensures.value ∙ sym (ap loads_in (ap expression_of c.in-Min.is ∙ expression_of-Min c.in-Min.arguments)) in
    subst (λ xs. OnOk c.push_all_loads.result (map reference_seen c.push_all_loads.new.found.items ≡ map reference_seen c.args.found.now.items ++ map (referred c.args.place false) (map element xs))) same c.push_all_loads.ensures

pub push_loads-returns-in-Max : goal.push_loads-returns-in-Max
push_loads-returns-in-Max t c =
    let same = ap (λ xs. loads_among (expressions_from xs)) c.deref-in-Max.ensures.value ∙ sym (ap loads_in (ap expression_of c.in-Max.is ∙ expression_of-Max c.in-Max.arguments)) in
    subst (λ xs. OnOk c.push_all_loads-in-Max.result (map reference_seen c.push_all_loads-in-Max.new.found.items ≡ map reference_seen c.args.found.now.items ++ map (referred c.args.place false) (map element xs))) same c.push_all_loads-in-Max.ensures
