use Rattle.std.proofs.Common.{rules, ◌≡◌, ◌+ℤ◌, ◌*ℤ◌, ℤ, ℕ, List, [], drop, get_or, pos, FitsSigned, string_bytes, w64, ◌∙◌, subst}
use Rattle.std.proofs.lemmas.Int.{to_z-of_z}
use Rattle.std.proofs.lemmas.List.{drop_all}
use Rattle.std.proofs.lemmas.Result.{on_ok_weaker}
use Rattle.c_expressions.specs.Grammar.{Appends, postfix}
use Rattle.c_expressions.specs.Names.{term_name}
use Rattle.c_expressions.specs.Numbers.{literal_of, word_of}
use Rattle.c_expressions.specs.Sums.{AppendsWords, Values}
use Rattle.c_expressions.specs.declared.sum.Term.TheVariants.{Loop}
use Rattle.c_expressions.proofs.WordSums.{WordsSoFar, words_all, words_first, words_next}
use Rattle.c_expressions.proofs.sums.put_words.Goals as goal

pub loop-term-init : goal.loop-term-init
loop-term-init c =
    let fits : FitsSigned w64 c.constant.result = search rules in
    let word = subst (λ z. Appends (string_bytes c.put_text.new.out) (string_bytes c.put_word.new.out) postfix (word_of (literal_of z))) (to_z-of_z w64 c.constant.result fits ∙ c.constant.ensures) c.in_ok-put_word.ensures in
    record {
      start = string_bytes c.put_text.new.out;
      opened = c.in_ok-put_text.ensures;
      so_far = words_first _ _ c.args.sum.now.constant c.terms-term-items.result.now word;
    }

pub loop-term-preserved : goal.loop-term-preserved
loop-term-preserved c =
    let items = c.terms-term-items.result.now in
    let item = get_or items c.loop-term.term-index (Loop 0, pos 0) in
    let fits : FitsSigned w64 item.1 = search rules in
    let more = subst (λ z. (old : List ℕ) (part : Values → ℤ) → AppendsWords old (string_bytes c.loop-term.out) part → AppendsWords old (string_bytes c.put_word_part.new.out) (λ v. part v +ℤ (z *ℤ v (term_name item.0))))
    (to_z-of_z w64 item.1 fits) c.in_ok-put_word_part.ensures in
    let inside = c.loop-term.invariant in
    record {
      start = inside.start;
      opened = inside.opened;
      so_far = words_next _ _ _ c.args.sum.now.constant items c.loop-term.term-index (Loop 0, pos 0) c.loop-term-test.true inside.so_far more;
    }

pub returns : goal.returns
returns c =
    let items = c.terms-term-items.result.now in
    let rest = drop c.loop-term.term-index items in
    let none : rest ≡ [] = drop_all c.loop-term.term-index items c.loop-term-test.false in
    let inside = c.loop-term.invariant in
    let so_far = subst (λ ts. WordsSoFar inside.start (string_bytes c.loop-term.out) c.args.sum.now.constant ts rest) c.terms-term-items.ensures inside.so_far in
    on_ok_weaker c.put_text-2.result (λ e. words_all c.args.sum.now _ inside.start _ _ rest inside.opened none so_far e) c.put_text-2.ensures
