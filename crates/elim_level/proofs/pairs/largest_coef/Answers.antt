use Rattle.std.proofs.Common.{rules, ◌≡◌, ◌≤◌, unsigned_abs, take, FitsSigned, ap, ◌∙◌, subst, arith}
use Rattle.std.specs.Int.{w128}
use Rattle.std.specs.List.{All}
use Rattle.std.proofs.lemmas.Int.{to_z-of_z}
use Rattle.std.proofs.lemmas.List.{take_all}
use Rattle.std.proofs.lemmas.List.Elements.{All-more, All-weaker}
use Rattle.elim_rows.specs.Pairs.{coef_of}
use Rattle.elim_level.proofs.pairs.largest_coef.Goals as goal

pub loop-held-preserved : goal.loop-held-preserved
loop-held-preserved c =
    let hs = c.args.rows.now in
    let i = c.loop-held.held-index in
    let v = c.args.variable in
    let m = c.max-largest.result in
    let fits : FitsSigned w128 c.coef_of.result = search rules in
    let size : c.unsigned_abs.result ≡ unsigned_abs (coef_of v c.held-item.result.row) = c.unsigned_abs.ensures.value ∙ ap unsigned_abs (to_z-of_z w128 c.coef_of.result fits ∙ c.coef_of.ensures) in
    let here : unsigned_abs (coef_of v c.held-item.result.row) ≤ m = omega (arith, size) in
    All-more (λ h. unsigned_abs (coef_of v h.row) ≤ m) hs i c.held-item.result c.loop-held-test.true (All-weaker (λ h. unsigned_abs (coef_of v h.row) ≤ c.loop-held.largest) (λ h. unsigned_abs (coef_of v h.row) ≤ m) (λ a h. omega (arith, h)) (take i hs) c.loop-held.invariant)
    (subst (λ h. unsigned_abs (coef_of v h.row) ≤ m) c.held-item.is here)

pub returns : goal.returns
returns c = subst (All (λ h. unsigned_abs (coef_of c.args.variable h.row) ≤ c.loop-held.largest)) (take_all c.loop-held.held-index c.args.rows.now c.loop-held-test.false) c.loop-held.invariant
