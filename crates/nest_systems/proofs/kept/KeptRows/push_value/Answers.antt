use Rattle.std.proofs.Common.{◌-◌, get_or, map, w64, FitsSigned, rules, to_z-of_z, subst, arith}
use Rattle.std.proofs.lemmas.List.{length-map}
use Rattle.nest_tree.specs.declared.tree.Parameter.{Parameter}
use Rattle.nest_systems.specs.Kept.{HasKept, numbers_of, value_of}
use Rattle.nest_systems.proofs.KeptRowLists.{on-ok, value-at, value-kept, value-none}
use Rattle.nest_systems.proofs.kept.KeptRows.push_value.Goals as goal

pub returns : goal.returns
returns c =
    let params = c.args.values.now in
    let vs = map (λ (p : Parameter). p.value) params in
    let n = c.args.number in
    let long = length-map params (λ (p : Parameter). p.value) in
    let p = get_or params (n - 1) c.index-values-place.result in
    let fits : FitsSigned w64 p.value = search rules in
    on-ok c.push_both.result _ _ (λ h.
    subst (λ k. HasKept (value_of vs n) (numbers_of k n) c.args.self.now c.push_both.new.self) long
    (value-kept vs n p.value c.args.self.now c.push_both.new.self c.requires.number (omega (arith, long, c.if-place-values.false))
    (value-at params (n - 1) c.index-values-place.result (omega (arith, c.if-place-values.false))) h)) (simp to_z-of_z at c.push_both.ensures)

pub returns-then-place-values : goal.returns-then-place-values
returns-then-place-values c =
    let params = c.args.values.now in
    let vs = map (λ (p : Parameter). p.value) params in
    let long = length-map params (λ (p : Parameter). p.value) in
    subst (λ k. HasKept (value_of vs c.args.number) (numbers_of k c.args.number) c.args.self.now c.args.self.now) long (value-none vs c.args.number c.args.self.now (omega (arith, long, c.requires.number, c.if-place-values.true)))
