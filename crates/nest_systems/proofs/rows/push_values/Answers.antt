use Rattle.std.proofs.Common.{◌+◌, ◌∷◌, [], map, drop, w64, FitsSigned, rules, to_z-of_z}
use Rattle.nest_tree.specs.declared.tree.Parameter.{Parameter}
use Rattle.nest_rows.specs.declared.constraint.Sign.TheVariants.{Plus, Minus}
use Rattle.nest_rows.specs.Groups.{constants_have, equal}
use Rattle.nest_rows.proofs.RowLists.{constants-more, left-more}
use Rattle.nest_systems.proofs.rows.push_values.Goals as goal

pub loop-index-preserved : goal.loop-index-preserved
loop-index-preserved c =
    let params = c.args.params.now in
    let k = c.loop-index.index in
    let p = c.index-params-index.result in
    let fits : FitsSigned w64 p.value = search rules in
    let has = simp to_z-of_z at c.in_ok-push_equal.ensures in
    left-more (constants_have 1 (map (λ (p : Parameter). p.value) params)) c.args.system.now c.loop-index.system c.push_equal.new.system (constants_have (k + 1) (map (λ (p : Parameter). p.value) (drop k params)))
    (equal Plus (k + 1) p.value ∷ equal Minus (k + 1) p.value ∷ []) (constants_have (k + 1 + 1) (map (λ (p : Parameter). p.value) (drop (k + 1) params))) c.loop-index.invariant (constants-more params k p c.loop-index-test.true c.index-params-index.is) has
