use Rattle.std.proofs.Common.{◌≡◌, ◌++◌, pos, false, FitsSigned, OnOk, string_bytes, to_z, unsigned_abs, w64, ap, refl, sym, ◌∙◌, subst}
use Rattle.std.specs.Fmt.{signed_decimal}
use Rattle.std.specs.Int.{is_negative}
use Rattle.std.proofs.lemmas.Int.{to_z-of_z}
use Rattle.std.proofs.lemmas.Result.{on_ok_weaker}
use Rattle.c_expressions.specs.Sums.{GoesOn}
use Rattle.c_expressions.proofs.Multiples.{constant_alone, constant_put, stays}
use Rattle.c_expressions.proofs.sums.put_constant.Goals as goal

pub returns-then-is_first : goal.returns-then-is_first
returns-then-is_first c =
    let fits : FitsSigned w64 c.args.constant = c.ranges.constant in
    let written = subst (λ z. OnOk c.put_number.result (string_bytes c.put_number.new.out ≡ string_bytes c.args.out.now ++ signed_decimal z)) (to_z-of_z w64 c.args.constant fits) c.put_number.ensures in
    on_ok_weaker c.put_number.result
    (λ e. subst (λ b. GoesOn (string_bytes c.args.out.now) b (string_bytes c.put_number.new.out) false (λ v. c.args.constant) (unsigned_abs c.args.constant)) (sym c.if-is_first.true) (constant_alone _ _ c.args.constant e))
    written

pub returns-then-constant-eq0 : goal.returns-then-constant-eq0
returns-then-constant-eq0 c =
    let fits : FitsSigned w64 c.args.constant = c.ranges.constant in
    let is : c.args.constant ≡ pos 0 = sym (to_z-of_z w64 c.args.constant fits) ∙ ap (to_z w64) c.if-constant-eq0.true in
    subst (λ b. GoesOn (string_bytes c.args.out.now) b (string_bytes c.args.out.now) false (λ v. c.args.constant) (unsigned_abs c.args.constant)) (sym c.if-is_first.false)
    (stays false (string_bytes c.args.out.now) (string_bytes c.args.out.now) (λ v. c.args.constant) (unsigned_abs c.args.constant) refl (λ v. is))

pub returns-in_ok-put_sign : goal.returns-in_ok-put_sign
returns-in_ok-put_sign c =
    let fits : FitsSigned w64 c.args.constant = c.ranges.constant in
    let sign = c.is_negative.ensures ∙ ap is_negative (to_z-of_z w64 c.args.constant fits) in
    let size = c.unsigned_abs.ensures.value ∙ ap unsigned_abs (to_z-of_z w64 c.args.constant fits) in
    on_ok_weaker c.put_natural.result
    (λ e. subst (λ b. GoesOn (string_bytes c.args.out.now) b (string_bytes c.put_natural.new.out) false (λ v. c.args.constant) (unsigned_abs c.args.constant)) (sym c.if-is_first.false)
    (constant_put _ _ _ c.args.constant _ _ sign size c.in_ok-put_sign.ensures e))
    c.put_natural.ensures
