use Rattle.std.proofs.Common.{FitsSigned, string_bytes, w64, subst}
use Rattle.std.proofs.lemmas.Int.{to_z-of_z}
use Rattle.std.proofs.lemmas.Result.{on_ok_weaker}
use Rattle.c_expressions.specs.Grammar.{Appends, postfix}
use Rattle.c_expressions.specs.Numbers.{literal_of, word_of}
use Rattle.c_expressions.proofs.WordSums.{words_go_on}
use Rattle.c_expressions.proofs.sums.put_word_part.Goals as goal

pub returns : goal.returns
returns c =
    let fits : FitsSigned w64 c.args.coefficient = c.ranges.coefficient in
    let word = subst (λ z. Appends (string_bytes c.put_text.new.out) (string_bytes c.put_word.new.out) postfix (word_of (literal_of z))) (to_z-of_z w64 c.args.coefficient fits) c.in_ok-put_word.ensures in
    on_ok_weaker c.put_text-3.result (λ e. words_go_on _ _ _ _ _ c.args.coefficient c.args.term c.in_ok-put_text.ensures word c.in_ok-put_text-2.ensures _ c.in_ok-put_term.ensures e) c.put_text-3.ensures
