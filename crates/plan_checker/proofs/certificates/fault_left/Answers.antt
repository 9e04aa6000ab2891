use Rattle.std.proofs.Common.{◌≡◌, ◌-◌, ◌<◌, ◌≤◌, None, length, slice_get, refl, ap, sym, ◌∙◌, arith}
use Rattle.std.proofs.lemmas.Option.{slice_get_past, slice_get_read}
use Rattle.plan_checker.proofs.Left.{bad_left, good_left, missing_left}
use Rattle.plan_checker.proofs.certificates.fault_left.Goals as goal

pub returns-then-place-certificates : goal.returns-then-place-certificates
returns-then-place-certificates c = λ whole is.
    let cs = c.args.certificates.now in
    let past : length cs ≤ c.saturating_sub-place.result = omega (arith, c.if-place-certificates.true) in
    let none : slice_get cs (c.args.topic.number - 1) ≡ None = ap (slice_get cs) (sym c.saturating_sub-place.ensures) ∙ slice_get_past cs c.saturating_sub-place.result past in
    missing_left cs c.args.topic whole none

pub returns-in-Good : goal.returns-in-Good
returns-in-Good c = λ whole is.
    let cs = c.args.certificates.now in
    let k = c.saturating_sub-place.result in
    let one = c.index-certificates-place.result in
    let inside : k < length cs = omega (arith, c.if-place-certificates.false) in
    let at = ap (slice_get cs) (sym c.saturating_sub-place.ensures) ∙ slice_get_read cs (length cs) k one refl inside c.index-certificates-place.is in
    good_left cs c.args.topic whole c.args.left.now one c.in_ok-check.field-0 at c.in-Good.is (c.in_ok-check.ensures whole is)

pub returns-in-Bad : goal.returns-in-Bad
returns-in-Bad c = λ whole is.
    let cs = c.args.certificates.now in
    let k = c.saturating_sub-place.result in
    let one = c.index-certificates-place.result in
    let inside : k < length cs = omega (arith, c.if-place-certificates.false) in
    let at = ap (slice_get cs) (sym c.saturating_sub-place.ensures) ∙ slice_get_read cs (length cs) k one refl inside c.index-certificates-place.is in
    bad_left cs c.args.topic whole c.args.left.now one c.in_ok-check.field-0 c.in-Bad.reason at c.in-Bad.is (c.in_ok-check.ensures whole is)
