use Rattle.std.proofs.Common.{rules, ◌≡◌, suc, ℤ, pos, FitsSigned, get_or, ◌+◌, sym, ◌∙◌, ap, drop, arith}
use Rattle.std.specs.Int.{w128}
use Rattle.std.proofs.lemmas.Int.{to_z-of_z}
use Rattle.elim_rows.specs.Chains.{mixed, hash_from}
use Rattle.elim_rows.proofs.Hashing.{hash_from-next, hash_from-end}
use Rattle.elim_rows.proofs.chains.hash_of.Goals as goal

pub loop-coef-preserved : goal.loop-coef-preserved
loop-coef-preserved c =
    let k = c.loop-coef.coef-index in
    let coefs = c.args.coefs.now in
    let x : ℤ = get_or coefs k (pos 0) in
    let fits : FitsSigned w128 x = search rules in
    let next : k + 1 ≡ suc k = omega arith in
    ap (λ h. hash_from h (drop (k + 1) coefs)) (c.mixed-sum.ensures ∙ ap (mixed c.loop-coef.sum) (to_z-of_z w128 x fits)) ∙ ap (λ i. hash_from (mixed c.loop-coef.sum x) (drop i coefs)) next ∙ sym (hash_from-next c.loop-coef.sum coefs k c.loop-coef-test.true) ∙ c.loop-coef.invariant

pub returns : goal.returns
returns c = sym (hash_from-end c.loop-coef.sum c.args.coefs.now c.loop-coef.coef-index c.loop-coef-test.false) ∙ c.loop-coef.invariant
