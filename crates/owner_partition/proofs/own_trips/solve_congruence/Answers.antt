use Rattle.std.proofs.Common.{arith}
use Rattle.std.proofs.Math.Nat.{pos_of_dvd_of_pos}
use Rattle.owner_partition.proofs.Congruences.{no_solution, solutions}
use Rattle.owner_partition.proofs.own_trips.solve_congruence.Goals as goal

pub nonzero_rem-wanted : goal.nonzero_rem-wanted
nonzero_rem-wanted c = pos_of_dvd_of_pos c.divisor_and_factor-divisor.ensures.divisor.0 (omega (arith, c.requires.rise))

pub returns-then-wanted-divisor-ne0 : goal.returns-then-wanted-divisor-ne0
returns-then-wanted-divisor-ne0 c n =
    let e = c.divisor_and_factor-divisor.ensures in
    no_solution c.args.modulus c.args.rise c.args.wanted _ n (omega (arith, c.requires.rise)) e.divisor.0 e.divisor.1 c.if-wanted-divisor-ne0.true

pub nonzero_div-stride : goal.nonzero_div-stride
nonzero_div-stride c = pos_of_dvd_of_pos c.divisor_and_factor-divisor.ensures.divisor.0 (omega (arith, c.requires.rise))

pub nonzero_div-result : goal.nonzero_div-result
nonzero_div-result c = pos_of_dvd_of_pos c.divisor_and_factor-divisor.ensures.divisor.0 (omega (arith, c.requires.rise))

pub returns : goal.returns
returns c =
    let e = c.divisor_and_factor-divisor.ensures in
    solutions c.args.modulus c.args.rise c.args.wanted c.divisor_and_factor-divisor.result.0 c.divisor_and_factor-divisor.result.1 (omega (arith, c.requires.rise)) c.requires.wanted e.divisor.0 e.divisor.1 e.factor c.if-wanted-divisor-ne0.false

pub nonzero_rem-result : goal.nonzero_rem-result
nonzero_rem-result c = (returns c).0
