use Rattle.std.proofs.Common.{rules, pos, ◌≤◌, unsigned_abs, get_or, take, FitsSigned, ap, ◌∙◌, subst, arith}
use Rattle.std.specs.Int.{w128}
use Rattle.std.specs.List.{All}
use Rattle.std.proofs.lemmas.Int.{to_z-of_z}
use Rattle.std.proofs.lemmas.List.{take_all}
use Rattle.std.proofs.lemmas.List.Elements.{All-more, All-weaker}
use Rattle.elim_level.proofs.pairs.largest_of.Goals as goal

pub loop-number-preserved : goal.loop-number-preserved
loop-number-preserved c =
    let xs = c.args.numbers.now in
    let i = c.loop-number.number-index in
    let m = c.max-largest.result in
    let fits : FitsSigned w128 (get_or xs i (pos 0)) = search rules in
    let size = c.unsigned_abs.ensures.value ∙ ap unsigned_abs (to_z-of_z w128 (get_or xs i (pos 0)) fits) in
    All-more (λ a. unsigned_abs a ≤ m) xs i (pos 0) c.loop-number-test.true (All-weaker (λ a. unsigned_abs a ≤ c.loop-number.largest) (λ a. unsigned_abs a ≤ m) (λ a h. omega (arith, h)) (take i xs) c.loop-number.invariant) (omega (arith, size))

pub returns : goal.returns
returns c = subst (All (λ a. unsigned_abs a ≤ c.loop-number.largest)) (take_all c.loop-number.number-index c.args.numbers.now c.loop-number-test.false) c.loop-number.invariant
