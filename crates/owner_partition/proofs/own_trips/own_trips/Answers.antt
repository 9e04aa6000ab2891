use Rattle.std.proofs.Common.{to_z-of_z, ap, sym, ◌∙◌}
use Rattle.std.specs.Int.{div_ceil}
use Rattle.owner_partition.specs.OwnTrips.{strided}
use Rattle.owner_partition.proofs.Strides.{own_strides}
use Rattle.owner_partition.proofs.own_trips.own_trips.Goals as goal

pub returns-clause-own : goal.returns-clause-own
returns-clause-own c =
    let a = c.args in
    let f1 = c.ranges.start in
    let f2 = c.ranges.rise in
    let e = c.own_range-first.ensures in
    let r = c.own_range-first.result in
    own_strides a.dist a.workers a.p a.start a.rise a.count r.0 r.1 r.2 (simp to_z-of_z at e)
    ∙ ap (strided r.0 r.1) (sym (c.div_ceil-count.ensures ∙ ap (λ d. div_ceil d r.1) c.saturating_sub.ensures))
