use Rattle.std.proofs.Common.{◌≡◌, ◌∷◌, [], ◌-◌, ◌*◌, w64, FitsSigned, rules, to_z-of_z, ap₂, subst, List}
use Rattle.nest_rows.specs.Groups.{equal}
use Rattle.nest_rows.specs.declared.constraint.Constraint.{Constraint}
use Rattle.nest_rows.specs.declared.constraint.Sign.TheVariants.{Minus, Plus}
use Rattle.nest_systems.specs.Kept.{HasKept}
use Rattle.nest_systems.proofs.KeptRowLists.{keeps-both, on-ok}
use Rattle.nest_systems.proofs.kept.KeptRows.push_both.Goals as goal

pub returns : goal.returns
returns c =
    let n = c.args.number in
    let v = c.args.value in
    let fits : FitsSigned w64 v = search rules in
    let one = c.in_ok-bounded.field-0 in
    let two = c.in_ok-bounded-2.field-0 in
    let first : one ≡ equal Plus n v = simp to_z-of_z at c.in_ok-bounded.ensures.is in
    let second : two ≡ equal Minus n v = simp to_z-of_z at c.in_ok-bounded-2.ensures.is in
    let m = c.from-second.result in
    let wide : m ≡ n = c.from-second.ensures in
    on-ok c.push-2.result _ _ (λ h.
    subst (λ k. HasKept (equal Plus n v ∷ equal Minus n v ∷ []) ((2 * k - 1) ∷ 2 * k ∷ []) c.args.self.now c.push-2.new.self) wide
    (subst (λ (cs : List Constraint). HasKept cs ((2 * m - 1) ∷ 2 * m ∷ []) c.args.self.now c.push-2.new.self) (ap₂ (λ (x y : Constraint). x ∷ y ∷ []) first second)
    (keeps-both (one ∷ []) (two ∷ []) ((2 * m - 1) ∷ []) (2 * m ∷ []) c.args.self.now c.push.new.self c.push-2.new.self c.in_ok-push.ensures h))) c.push-2.ensures
