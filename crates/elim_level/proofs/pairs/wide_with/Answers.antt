use Rattle.std.proofs.Common.{subst}
use Rattle.std.specs.List.{All}
use Rattle.std.proofs.lemmas.List.{take_all}
use Rattle.std.proofs.lemmas.List.Elements.{All-more}
use Rattle.elim_level.specs.Gathering.{IsNarrowPair}
use Rattle.elim_level.proofs.pairs.wide_with.Goals as goal

pub loop-lower-preserved : goal.loop-lower-preserved
loop-lower-preserved c =
    let u = c.args.upper.now.row in
    All-more (λ h. IsNarrowPair c.args.variable u h.row) c.args.lowers.now c.loop-lower.lower-index c.lower-item.result c.loop-lower-test.true c.loop-lower.invariant
    (subst (λ h. IsNarrowPair c.args.variable u h.row) c.lower-item.is c.if-not-is_narrow_pair.ensures)

pub returns : goal.returns
returns c = subst (All (λ h. IsNarrowPair c.args.variable c.args.upper.now.row h.row)) (take_all c.loop-lower.lower-index c.args.lowers.now c.loop-lower-test.false) c.loop-lower.invariant
