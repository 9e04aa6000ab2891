use Rattle.std.proofs.Common.{◌≡◌, ◌++◌, negsuc, FitsSigned, OnOk, string_bytes, of_z, to_z, w64, ap, sym, ◌∙◌, subst}
use Rattle.std.specs.Fmt.{signed_decimal}
use Rattle.std.proofs.lemmas.Int.{to_z-of_z}
use Rattle.std.proofs.lemmas.Result.{on_ok_weaker}
use Rattle.c_expressions.proofs.Appending.{least_appends, literal_appends}
use Rattle.c_expressions.proofs.text.put_literal.Goals as goal

pub returns-then-number-eqminus9223372036854775808 : goal.returns-then-number-eqminus9223372036854775808
returns-then-number-eqminus9223372036854775808 c =
    let fits : FitsSigned w64 c.args.number = c.ranges.number in
    let is : c.args.number ≡ negsuc 9223372036854775807 = sym (to_z-of_z w64 c.args.number fits) ∙ ap (to_z w64) c.if-number-eqminus9223372036854775808.true in
    on_ok_weaker c.put_text.result (least_appends _ _ c.args.number is) c.put_text.ensures

pub returns-else-number-eqminus9223372036854775808 : goal.returns-else-number-eqminus9223372036854775808
returns-else-number-eqminus9223372036854775808 c =
    let fits : FitsSigned w64 c.args.number = c.ranges.number in
    on_ok_weaker c.put_number.result (literal_appends _ _ c.args.number fits (λ e. c.if-number-eqminus9223372036854775808.false (ap (of_z w64) e)))
    (subst (λ z. OnOk c.put_number.result (string_bytes c.put_number.new.out ≡ string_bytes c.args.out.now ++ signed_decimal z)) (to_z-of_z w64 c.args.number fits) c.put_number.ensures)
