use Rattle.std.proofs.Common.{rules, ◌≡◌, pos, ◌*ℤ◌, ◌++◌, FitsSigned, false, slice_index_or, to_z, of_z, sym, ◌∙◌, arith}
use Rattle.std.specs.Int.{w128}
use Rattle.std.proofs.lemmas.Int.{to_z-of_z}
use Rattle.farkas_cert.specs.Combination.{entry_at, row_at, products_at, stays_narrow}
use Rattle.farkas_cert.proofs.Products.{named-at, wide_where_none, narrow_where_some}
use Rattle.farkas_cert.proofs.check.sum_at.Goals as goal

pub row_at-row-requires : goal.row_at-row-requires
row_at-row-requires g c = named-at _ c.args.terms.now c.loop-term.term-index (0, pos 0) c.requires c.loop-term-test.true

pub returns-in_err-sum-clause-sum : goal.returns-in_err-sum-clause-sum
returns-in_err-sum-clause-sum g c =
    let term = slice_index_or c.args.terms.now c.loop-term.term-index (0, pos 0) in
    let rows = c.args.system.now.rows ++ c.args.made.now in
    let multiplier : FitsSigned w128 term.1 = search rules in
    let entry : FitsSigned w128 c.entry_at.result = search rules in
    let read : c.entry_at.result ≡ entry_at c.args.system.now.vars (row_at rows term.0) c.args.k = cc in
    let product : to_z w128 (of_z w128 term.1) *ℤ to_z w128 (of_z w128 c.entry_at.result) ≡ term.1 *ℤ entry_at c.args.system.now.vars (row_at rows term.0) c.args.k = cc (to_z-of_z w128 term.1 multiplier, to_z-of_z w128 c.entry_at.result entry) in
    let wide = wide_where_none c.args.system.now.vars rows c.args.terms.now c.args.k c.loop-term.term-index (0, pos 0) _ _ c.loop-term-test.true product (sym c.with_product.ensures.sum ∙ c.in_err-sum.was) in
    let none : stays_narrow (pos 0) (products_at c.args.system.now.vars rows c.args.terms.now c.args.k) ≡ false = cc in
    rw none c.from_residual.ensures

pub loop-term-preserved : goal.loop-term-preserved
loop-term-preserved g c =
    let term = slice_index_or c.args.terms.now c.loop-term.term-index (0, pos 0) in
    let rows = c.args.system.now.rows ++ c.args.made.now in
    let multiplier : FitsSigned w128 term.1 = search rules in
    let entry : FitsSigned w128 c.entry_at.result = search rules in
    let sum : FitsSigned w128 c.in_ok-sum.sum = search rules in
    let read : c.entry_at.result ≡ entry_at c.args.system.now.vars (row_at rows term.0) c.args.k = cc in
    let product : to_z w128 (of_z w128 term.1) *ℤ to_z w128 (of_z w128 c.entry_at.result) ≡ term.1 *ℤ entry_at c.args.system.now.vars (row_at rows term.0) c.args.k = cc (to_z-of_z w128 term.1 multiplier, to_z-of_z w128 c.entry_at.result entry) in
    let next = narrow_where_some c.args.system.now.vars rows c.args.terms.now c.args.k c.loop-term.term-index (0, pos 0) _ _ c.loop-term-test.true product c.in_ok-sum.sum (sym c.with_product.ensures.sum ∙ c.in_ok-sum.was) in
    rw (to_z-of_z) (record { narrow = cc (next.0); sum = cc (next.1); counted = omega (arith, c.loop-term.invariant.counted, c.with_product.ensures.counted) })
