use Rattle.std.proofs.Common.{◌-ℤ◌, int_div, FitsSigned, of_z, to_z-of_z, ap, arith}
use Rattle.std.specs.Int.{w128}
use Rattle.std.proofs.lemmas.Int.{ints}
use Rattle.owner_partition.proofs.Limits.{difference_fits, not_below, not_past, quotient_fits, up_to_limit}
use Rattle.owner_partition.proofs.own_trips.count_up_to.Goals as goal

pub returns-then-last-from-clause-exact : goal.returns-then-last-from-clause-exact
returns-then-last-from-clause-exact c n below =
    let h = c.requires in
    let f1 = c.ranges.start in
    let f2 = c.ranges.limit in
    let f3 = c.ranges.rise in
    let d = difference_fits c.args.start c.args.limit h.start h.limit in
    let q = quotient_fits c.args.start c.args.rise c.args.limit h.start h.limit in
    let test = c.if-start-limit.false in
    let le = not_past c.args.limit c.args.start (simp to_z-of_z at test) in
    simp to_z-of_z (up_to_limit c.args.start c.args.rise c.args.limit n h.rise (λ e. c.if-rise-eq0.false (ap (of_z w128) e)) le)

pub returns-else-last-from-clause-exact : goal.returns-else-last-from-clause-exact
returns-else-last-from-clause-exact c n below =
    let h = c.requires in
    let f1 = c.ranges.start in
    let f2 = c.ranges.limit in
    let f3 = c.ranges.rise in
    let d = difference_fits c.args.start c.args.limit h.start h.limit in
    let q = quotient_fits c.args.start c.args.rise c.args.limit h.start h.limit in
    let test = c.if-start-limit.false in
    let le = not_past c.args.limit c.args.start (simp to_z-of_z at test) in
    let f4 : FitsSigned w128 c.from.result = record { sfits = c.from.type_inv } in
    let last = c.if-last-from.false in
    let reached = not_past (int_div (c.args.limit -ℤ c.args.start) c.args.rise) c.from.result (simp to_z-of_z at last) in
    let exact = up_to_limit c.args.start c.args.rise c.args.limit n h.rise (λ e. c.if-rise-eq0.false (ap (of_z w128) e)) le in
    ((λ lt. exact.0 (not_below (int_div (c.args.limit -ℤ c.args.start) c.args.rise) n (omega (arith, ints, reached, c.from.ensures, below)))), λ past. below)
