use Rattle.std.proofs.lemmas.Result.{on_ok_weaker}
use Rattle.c_expressions.proofs.Appending.{named_word_appends}
use Rattle.c_expressions.proofs.Spelled.{loop_name_is}
use Rattle.c_expressions.proofs.text.put_loop_word.Goals as goal

pub returns : goal.returns
returns c = on_ok_weaker c.put_text-2.result (named_word_appends _ _ _ _ _ (loop_name_is c.args.number) c.in_ok-put_text.ensures c.in_ok-put_loop.ensures) c.put_text-2.ensures
