use Rattle.std.proofs.Common.{get_or, refl, subst}
use Rattle.std.specs.List.{All}
use Rattle.std.proofs.lemmas.List.{take_all}
use Rattle.std.proofs.lemmas.List.Elements.{All-more}
use Rattle.elim_level.specs.Gathering.{IsNarrowPair}
use Rattle.elim_level.proofs.pairs.wide_pair.Goals as goal

pub loop-upper-preserved-then-is_small : goal.loop-upper-preserved-then-is_small
loop-upper-preserved-then-is_small c =
    let v = c.args.variable in
    let ls = c.args.lowers.now in
    let here : All (λ h. IsNarrowPair v c.upper-item.result.row h.row) ls = λ k d h. c.if-is_small.ensures refl (get_or ls k d).row (c.largest_entry.ensures k d h) (c.largest_coef.ensures k d h) in
    All-more (λ u. All (λ h. IsNarrowPair v u.row h.row) ls) c.args.uppers.now c.loop-upper.upper-index c.upper-item.result c.loop-upper-test.true c.loop-upper.invariant
    (subst (λ u. All (λ h. IsNarrowPair v u.row h.row) ls) c.upper-item.is here)

pub loop-upper-preserved : goal.loop-upper-preserved
loop-upper-preserved c =
    let v = c.args.variable in
    let ls = c.args.lowers.now in
    let here : All (λ h. IsNarrowPair v c.upper-item.result.row h.row) ls = c.in_default.ensures in
    All-more (λ u. All (λ h. IsNarrowPair v u.row h.row) ls) c.args.uppers.now c.loop-upper.upper-index c.upper-item.result c.loop-upper-test.true c.loop-upper.invariant
    (subst (λ u. All (λ h. IsNarrowPair v u.row h.row) ls) c.upper-item.is here)

pub returns : goal.returns
returns c = subst (All (λ u. All (λ h. IsNarrowPair c.args.variable u.row h.row) c.args.lowers.now)) (take_all c.loop-upper.upper-index c.args.uppers.now c.loop-upper-test.false) c.loop-upper.invariant
