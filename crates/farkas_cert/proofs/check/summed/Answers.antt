use Rattle.std.proofs.Common.{rules, ◌≡◌, ◌+◌, ◌-◌, ◌++◌, [], ◌∷◌, length-append, FitsSigned, to_z, of_z, refl, ap, ◌∙◌, arith}
use Rattle.std.specs.Int.{w128}
use Rattle.std.proofs.lemmas.Int.{to_z-of_z}
use Rattle.std.proofs.lemmas.List.FromFn.{map-range_with_len_more}
use Rattle.farkas_cert.specs.declared.certificate.CertRefusal.TheVariants.{Wide}
use Rattle.farkas_cert.specs.Combination.{sum_at}
use Rattle.farkas_cert.proofs.Entries.{first_wide_where_none, first_wide_where_some}
use Rattle.farkas_cert.proofs.check.summed.Goals as goal

pub returns-in-None-clause-wide : goal.returns-in-None-clause-wide
returns-in-None-clause-wide g c =
    let rows = c.args.system.now.rows ++ c.args.made.now in
    let vars = c.args.system.now.vars in
    let left : vars + 1 - c.loop-k.k ≡ vars - c.loop-k.k + 1 = omega (arith, c.vars-vars.ensures, c.loop-k-test.true) in
    let here = first_wide_where_none vars rows c.args.terms.now c.loop-k.k (vars + 1 - c.loop-k.k) (vars - c.loop-k.k) left c.in-None.ensures.sum in
    λ _. (c.loop-k.k, c.loop-k.invariant.narrow ∙ here, ap (λ k. Wide c.args.number (k + 1)) c.from.ensures)

pub loop-k-preserved : goal.loop-k-preserved
loop-k-preserved g c =
    let rows = c.args.system.now.rows ++ c.args.made.now in
    let vars = c.args.system.now.vars in
    let left : vars + 1 - c.loop-k.k ≡ vars + 1 - (c.loop-k.k + 1) + 1 = omega (arith, c.vars-vars.ensures, c.loop-k-test.true) in
    let step = first_wide_where_some vars rows c.args.terms.now c.loop-k.k (vars + 1 - c.loop-k.k) (vars + 1 - (c.loop-k.k + 1)) left c.in-Some.sum c.in-Some.ensures.sum in
    let fits : FitsSigned w128 c.in-Some.sum = search rules in
    let sum : to_z w128 (of_z w128 c.in-Some.sum) ≡ c.in-Some.sum = to_z-of_z w128 c.in-Some.sum fits in
    let more = map-range_with_len_more (sum_at vars rows c.args.terms.now) 0 c.loop-k.k c.loop-k.k (omega arith) in
    record { full = rw (c.in_ok-push-in-Some.ensures.ok, sum) (omega (arith, length-append c.loop-k.coefs (c.in-Some.sum ∷ []), c.loop-k.invariant.full)); sums = rw (c.in_ok-push-in-Some.ensures.ok, more, step.1, sum, c.loop-k.invariant.sums) refl; narrow = c.loop-k.invariant.narrow ∙ step.0; counted = omega (arith, c.loop-k.invariant.counted, c.in-Some.ensures.all refl) }
