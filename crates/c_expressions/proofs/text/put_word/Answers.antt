use Rattle.std.proofs.Common.{FitsSigned, string_bytes, w64, subst}
use Rattle.std.proofs.lemmas.Int.{to_z-of_z}
use Rattle.std.proofs.lemmas.Result.{on_ok_weaker}
use Rattle.c_expressions.specs.Grammar.{Appends, unary}
use Rattle.c_expressions.specs.Numbers.{literal_of}
use Rattle.c_expressions.proofs.Appending.{word_appends}
use Rattle.c_expressions.proofs.text.put_word.Goals as goal

pub returns : goal.returns
returns c =
    let fits : FitsSigned w64 c.args.number = c.ranges.number in
    let literal = subst (λ z. Appends (string_bytes c.put_text.new.out) (string_bytes c.put_literal.new.out) unary (literal_of z)) (to_z-of_z w64 c.args.number fits) c.in_ok-put_literal.ensures in
    on_ok_weaker c.put_text-2.result (word_appends _ _ _ _ _ c.in_ok-put_text.ensures literal) c.put_text-2.ensures
