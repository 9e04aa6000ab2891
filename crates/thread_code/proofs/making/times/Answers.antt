use Rattle.std.proofs.Common.{◌≡◌, ◌*ℤ◌, FitsSigned, rules, to_z-of_z, w64}
use Rattle.std.specs.Int.{w128}
use Rattle.thread_code.proofs.Fitting.{product_fits, product_near}
use Rattle.thread_code.proofs.making.times.Goals as goal

pub returns-clause-near : goal.returns-clause-near
returns-clause-near c =
    let f : FitsSigned w64 c.args.a = c.ranges.a in
    let g : FitsSigned w64 c.args.b = c.ranges.b in
    let from : c.from.result ≡ c.args.a = simp to_z-of_z at c.from.ensures in
    let from' : c.from-2.result ≡ c.args.b = simp to_z-of_z at c.from-2.ensures in
    let fits : FitsSigned w128 c.from.result = search rules in
    let fits' : FitsSigned w128 c.from-2.result = search rules in
    let product : FitsSigned w128 (c.from.result *ℤ c.from-2.result) = simp (from, from') (product_fits c.args.a c.args.b f g) in
    simp to_z-of_z (simp (from, from') (product_near c.args.a c.args.b f g))
