use Rattle.std.proofs.Common.{◌≡◌, ◌*◌, ◌^◌, ◌*ℤ◌, pos, FitsSigned, string_bytes, to_z, unsigned_abs, w64, ap, refl, sym, ◌∙◌}
use Rattle.std.specs.Int.{is_negative}
use Rattle.std.proofs.lemmas.Int.{to_z-of_z}
use Rattle.c_expressions.specs.Names.{term_name}
use Rattle.c_expressions.proofs.Multiples.{multiple_put, no_times, stays}
use Rattle.c_expressions.proofs.sums.put_part.Goals as goal

pub returns-then-coefficient-eq0 : goal.returns-then-coefficient-eq0
returns-then-coefficient-eq0 c =
    let fits : FitsSigned w64 c.args.coefficient = c.ranges.coefficient in
    let is : c.args.coefficient ≡ pos 0 = sym (to_z-of_z w64 c.args.coefficient fits) ∙ ap (to_z w64) c.if-coefficient-eq0.true in
    stays c.args.is_first (string_bytes c.args.out.now) (string_bytes c.args.out.now) (λ v. c.args.coefficient *ℤ v (term_name c.args.term)) (unsigned_abs c.args.coefficient * 2 ^ 32) refl
    (λ v. no_times c.args.coefficient (v (term_name c.args.term)) is)

pub returns : goal.returns
returns c =
    let fits : FitsSigned w64 c.args.coefficient = c.ranges.coefficient in
    let sign = c.is_negative.ensures ∙ ap is_negative (to_z-of_z w64 c.args.coefficient fits) in
    let size = c.unsigned_abs.ensures.value ∙ ap unsigned_abs (to_z-of_z w64 c.args.coefficient fits) in
    multiple_put c.args.is_first _ _ _ c.args.coefficient c.args.term _ _ sign size c.in_ok-put_sign.ensures c.in_ok-put_multiple.ensures
