use Rattle.std.proofs.Common.{◌≤◌, true, ◌-◌, arith, length}
use Rattle.std.proofs.lemmas.List.{length-set}
use Rattle.fm_elim.proofs.Marks.{at_first, at_second, AreMarkedToo-one, AreMarkedToo-two}
use Rattle.fm_elim.proofs.certificate.mark.Goals as goal

pub overflow_sub-needed : goal.overflow_sub-needed
overflow_sub-needed c = (at_first (λ t. (1 ≤ t.0) × (t.0 ≤ length c.args.needed.now)) c.args.derivation.now c.requires).0

pub bounds-needed-derivation : goal.bounds-needed-derivation
bounds-needed-derivation c = let at = at_first (λ t. (1 ≤ t.0) × (t.0 ≤ length c.args.needed.now)) c.args.derivation.now c.requires in omega (arith, at.0, at.1)

pub overflow_sub-needed-in-Some : goal.overflow_sub-needed-in-Some
overflow_sub-needed-in-Some c = (at_second (λ t. (1 ≤ t.0) × (t.0 ≤ length c.args.needed.now)) c.args.derivation.now (c.in-Some.number, c.in-Some.field-0-1) c.requires c.in-Some.is).0

pub bounds-needed-number : goal.bounds-needed-number
bounds-needed-number c =
    let at = at_second (λ t. (1 ≤ t.0) × (t.0 ≤ length c.args.needed.now)) c.args.derivation.now (c.in-Some.number, c.in-Some.field-0-1) c.requires c.in-Some.is in
    omega (arith, at.0, at.1, length-set c.args.needed.now (c.args.derivation.now.first.0 - 1) true)

pub returns-in-Some : goal.returns-in-Some
returns-in-Some c =
    let one = at_first (λ t. (1 ≤ t.0) × (t.0 ≤ length c.args.needed.now)) c.args.derivation.now c.requires in
    let two = at_second (λ t. (1 ≤ t.0) × (t.0 ≤ length c.args.needed.now)) c.args.derivation.now (c.in-Some.number, c.in-Some.field-0-1) c.requires c.in-Some.is in
    AreMarkedToo-two c.args.needed.now c.args.derivation.now (c.in-Some.number, c.in-Some.field-0-1) one.0 one.1 two.0 two.1 c.in-Some.is

pub returns-in_default : goal.returns-in_default
returns-in_default c =
    let at = at_first (λ t. (1 ≤ t.0) × (t.0 ≤ length c.args.needed.now)) c.args.derivation.now c.requires in
    AreMarkedToo-one c.args.needed.now c.args.derivation.now at.0 at.1 c.in_default.is
