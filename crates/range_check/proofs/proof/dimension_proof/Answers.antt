use Rattle.std.proofs.Common.{◌-◌, ◌-ℤ◌, neg_ℤ, pos, ℤ, IfNone, IfSome, length, inl, inr, w64, FitsSigned, rules, to_z-of_z, ap, ◌∙◌, subst}
use Rattle.farkas_cert.specs.Good.{IsGood}
use Rattle.nest_tree.specs.View.{tree_of}
use Rattle.nest_rows.specs.declared.constraint.Sign.TheVariants.{Plus, Minus}
use Rattle.range_check.specs.RangeSystems.{IsKeptAs, side_system}
use Rattle.range_check.specs.Sites.{site_of}
use Rattle.range_check.proofs.proof.dimension_proof.Goals as goal

pub returns-in_default-clause-kept : goal.returns-in_default-clause-kept
returns-in_default-clause-kept c = λ whole n view.
    let tree = tree_of c.args.program.now in
    let site = site_of n c.args.access.now in
    let place = c.args.dimension - 1 in
    let fits : FitsSigned w64 c.low_limit.result = search rules in
    let kept = simp to_z-of_z at (c.in_ok-low.ensures.kept whole n view) in
    let here = subst (λ o. IfNone o (IsKeptAs (side_system tree site Plus place c.low_limit.result) (length site.around))) c.in_default.is kept in
    let limit = c.low_limit.ensures ∙ ap (λ (b : ℤ × ℤ). b.0 -ℤ pos 1) c.bounds_at-bounds.ensures.bounds in
    inl (subst (λ z. IsKeptAs (side_system tree site Plus place z) (length site.around)) limit here)

pub returns-in_default-2-clause-kept : goal.returns-in_default-2-clause-kept
returns-in_default-2-clause-kept c = λ whole n view.
    let tree = tree_of c.args.program.now in
    let site = site_of n c.args.access.now in
    let place = c.args.dimension - 1 in
    let fits : FitsSigned w64 c.high_limit.result = search rules in
    let kept = simp to_z-of_z at (c.in_ok-high.ensures.kept (c.in_ok-low.ensures.same ∙ whole) n view) in
    let here = subst (λ o. IfNone o (IsKeptAs (side_system tree site Minus place c.high_limit.result) (length site.around))) c.in_default-2.is kept in
    let limit = c.high_limit.ensures ∙ ap (λ (b : ℤ × ℤ). neg_ℤ b.1 -ℤ pos 1) c.bounds_at-bounds.ensures.bounds in
    inr (subst (λ z. IsKeptAs (side_system tree site Minus place z) (length site.around)) limit here)

pub returns-clause-good : goal.returns-clause-good
returns-clause-good c = λ n view.
    let tree = tree_of c.args.program.now in
    let site = site_of n c.args.access.now in
    let place = c.args.dimension - 1 in
    let low_fits : FitsSigned w64 c.low_limit.result = search rules in
    let high_fits : FitsSigned w64 c.high_limit.result = search rules in
    let low = simp to_z-of_z at (c.in_ok-low.ensures.good n view) in
    let high = simp to_z-of_z at (c.in_ok-high.ensures.good n view) in
    let low_here = subst (λ o. IfSome o (IsGood (side_system tree site Plus place c.low_limit.result))) c.in-Some.is low in
    let high_here = subst (λ o. IfSome o (IsGood (side_system tree site Minus place c.high_limit.result))) c.in-Some-2.is high in
    let low_limit = c.low_limit.ensures ∙ ap (λ (b : ℤ × ℤ). b.0 -ℤ pos 1) c.bounds_at-bounds.ensures.bounds in
    let high_limit = c.high_limit.ensures ∙ ap (λ (b : ℤ × ℤ). neg_ℤ b.1 -ℤ pos 1) c.bounds_at-bounds.ensures.bounds in
    (subst (λ z. IsGood (side_system tree site Plus place z) c.in-Some.low) low_limit low_here, subst (λ z. IsGood (side_system tree site Minus place z) c.in-Some-2.high) high_limit high_here)
