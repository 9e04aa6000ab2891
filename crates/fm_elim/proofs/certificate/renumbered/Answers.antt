use Rattle.std.proofs.Common.{◌≤◌, ◌-◌, rules, ◌<◌, arith, length}
use Rattle.fm_elim.proofs.Marks.{at_first, at_second}
use Rattle.fm_elim.proofs.certificate.renumbered.Goals as goal

pub overflow_sub-row : goal.overflow_sub-row
overflow_sub-row c = (at_first (λ t. (1 ≤ t.0) × (t.0 ≤ length c.args.numbers.now)) c.args.derivation.now c.requires).0

pub offset_bounds-numbers-row : goal.offset_bounds-numbers-row
offset_bounds-numbers-row c =
    let at = at_first (λ t. (1 ≤ t.0) × (t.0 ≤ length c.args.numbers.now)) c.args.derivation.now c.requires in
    let below : c.args.derivation.now.first.0 - 1 < length c.args.numbers.now = omega (arith, at.0, at.1) in
    search rules

pub bounds-numbers-row : goal.bounds-numbers-row
bounds-numbers-row c = let at = at_first (λ t. (1 ≤ t.0) × (t.0 ≤ length c.args.numbers.now)) c.args.derivation.now c.requires in omega (arith, at.0, at.1)

pub overflow_sub-row-in-Some : goal.overflow_sub-row-in-Some
overflow_sub-row-in-Some c = (at_second (λ t. (1 ≤ t.0) × (t.0 ≤ length c.args.numbers.now)) c.args.derivation.now (c.in-Some.row, c.in-Some.multiplier) c.requires c.in-Some.is).0

pub offset_bounds-numbers-row-in-Some : goal.offset_bounds-numbers-row-in-Some
offset_bounds-numbers-row-in-Some c =
    let at = at_second (λ t. (1 ≤ t.0) × (t.0 ≤ length c.args.numbers.now)) c.args.derivation.now (c.in-Some.row, c.in-Some.multiplier) c.requires c.in-Some.is in
    let below : c.in-Some.row - 1 < length c.args.numbers.now = omega (arith, at.0, at.1) in
    search rules

pub bounds-numbers-row-in-Some : goal.bounds-numbers-row-in-Some
bounds-numbers-row-in-Some c = let at = at_second (λ t. (1 ≤ t.0) × (t.0 ≤ length c.args.numbers.now)) c.args.derivation.now (c.in-Some.row, c.in-Some.multiplier) c.requires c.in-Some.is in omega (arith, at.0, at.1)
