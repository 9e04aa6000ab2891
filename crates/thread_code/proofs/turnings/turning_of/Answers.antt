use Rattle.std.proofs.Common.{◌*◌, ◌<◌, refl, subst, arith}
use Rattle.std.specs.Int.{◌∣◌}
use Rattle.std.proofs.Math.Nat.{pos_of_dvd_of_pos}
use Rattle.std.proofs.lemmas.Nat.Gcd.{le_of_dvd}
use Rattle.owner_partition.specs.OwnTrips.{IsSame}
use Rattle.thread_code.proofs.turnings.turning_of.Goals as goal

pub overflow_cast-divisor : goal.overflow_cast-divisor
overflow_cast-divisor c =
    let some : 0 < c.args.workers = omega (arith, c.requires.rise) in
    let d = c.divisor_and_factor-divisor in
    let most = le_of_dvd some (subst (λ n. d.result.0 ∣ n) c.from-2.ensures d.ensures.divisor.0) in
    omega (arith, most, c.requires.few)

pub nonzero_div-result : goal.nonzero_div-result
nonzero_div-result c =
    let some : 0 < c.args.workers = omega (arith, c.requires.rise) in
    let d = c.divisor_and_factor-divisor in
    let least = pos_of_dvd_of_pos (subst (λ n. d.result.0 ∣ n) c.from-2.ensures d.ensures.divisor.0) some in
    omega (arith, least)

pub returns : goal.returns
returns c =
    let d = c.divisor_and_factor-divisor in
    record {
      of_workers = subst (λ n. d.result.0 ∣ n) c.from-2.ensures d.ensures.divisor.0;
      of_rise = subst (λ n. d.result.0 ∣ n) c.from.ensures d.ensures.divisor.1;
      factor = subst (λ n. IsSame n (c.args.rise * d.result.1) d.result.0) c.from-2.ensures (subst (λ n. IsSame c.from-2.result (n * d.result.1) d.result.0) c.from.ensures d.ensures.factor);
      stride = refl;
    }
