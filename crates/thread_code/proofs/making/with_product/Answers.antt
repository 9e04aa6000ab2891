use Rattle.std.proofs.Common.{◌≡◌, FitsSigned, rules, to_z-of_z, w64}
use Rattle.std.specs.Int.{w128}
use Rattle.thread_code.proofs.Fitting.{sum_fits}
use Rattle.thread_code.proofs.making.with_product.Goals as goal

pub overflow_add-result : goal.overflow_add-result
overflow_add-result c =
    let f : FitsSigned w64 c.args.start = c.ranges.start in
    let from : c.from.result ≡ c.args.start = simp to_z-of_z at c.from.ensures in
    let fits : FitsSigned w128 c.from.result = search rules in
    let fits' : FitsSigned w128 c.times.result = search rules in
    simp to_z-of_z (simp from (sum_fits c.args.start c.times.result f c.times.ensures.near))
