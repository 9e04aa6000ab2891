use Rattle.std.proofs.Common.{rules, ◌≡◌, sym, true}
use Rattle.command_words.specs.Wanted.{is_numeral}
use Rattle.command_words.proofs.Numbers.{size_unread}
use Rattle.command_words.proofs.read.size_in.Goals as goal

pub returns-in_default-3 : goal.returns-in_default-3
returns-in_default-3 c =
    let numeral : is_numeral c.args.word.now ≡ true = search rules in
    sym (size_unread c.args.low c.args.high c.args.word.now c.parse.result _ c.parse.ensures.value.0 numeral c.ranges.high.fits c.in_default.is)
