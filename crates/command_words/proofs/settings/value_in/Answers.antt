use Rattle.std.proofs.Common.{arith, ◌≡◌, ◌∙◌, ◌==◌, false, sym, ap, true≢false}
use Rattle.std.specs.Prelude.{get_or}
use Rattle.command_words.proofs.Numbers.{value_is}
use Rattle.command_words.proofs.settings.value_in.Goals as goal

pub returns-else-starts_with : goal.returns-else-starts_with
returns-else-starts_with c =
    let no_plus : (get_or c.args.word.now 0 0 == 43) ≡ false = sym (c.if-starts_with.ensures.byte (omega arith) (omega arith) (λ w o h. h)) in
    c.ok.ensures.value ∙ value_is c.args.word.now c.parse.result c.parse.ensures.value.0 (λ e. true≢false (sym (ap (λ x. x == 43) e) ∙ no_plus))
