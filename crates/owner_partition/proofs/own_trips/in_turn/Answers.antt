use Rattle.std.proofs.Common.{◌+◌, ◌-◌, ◌%◌, ◌<◌, unsigned_abs, to_z, of_z, subst, arith}
use Rattle.std.specs.Int.{w128}
use Rattle.owner_partition.specs.OwnTrips.{IsSolved}
use Rattle.owner_partition.proofs.Congruences.{cast_residue, in_turn_by, residue_of}
use Rattle.owner_partition.proofs.own_trips.in_turn.Goals as goal

pub returns : goal.returns
returns c =
    let m = c.args.workers in
    let p = c.args.p in
    let some : 0 < m = omega (arith, c.requires) in
    let s = residue_of m c.args.start some in
    let r = residue_of m c.args.rise some in
    let x = c.rem_euclid-start in
    let y = c.rem_euclid-rise in
    let from = cast_residue m c.args.start x.result c.from-modulus.result s c.ranges.start (record { sfits = x.type_inv }) (record { sfits = c.from-modulus.type_inv }) c.from-modulus.ensures x.ensures.value in
    let rises = cast_residue m c.args.rise y.result c.from-modulus.result r c.ranges.rise (record { sfits = y.type_inv }) (record { sfits = c.from-modulus.type_inv }) c.from-modulus.ensures y.ensures.value in
    let answer = c.solve_congruence.result in
    let a = subst (λ n. IsSolved n ((c.from.result + c.from-modulus-2.result - unsigned_abs (to_z w128 (of_z w128 x.result))) % c.from-modulus-2.result) c.from-modulus-2.result answer) rises c.solve_congruence.ensures in
    let b = subst (λ n. IsSolved r.residue ((c.from.result + c.from-modulus-2.result - n) % c.from-modulus-2.result) c.from-modulus-2.result answer) from a in
    let d = subst (λ n. IsSolved r.residue ((c.from.result + n - s.residue) % n) n answer) c.from-modulus-2.ensures b in
    in_turn_by m p c.args.start c.args.rise s r answer c.requires (subst (λ n. IsSolved r.residue ((n + m - s.residue) % m) m answer) c.from.ensures d)
