use Rattle.std.proofs.lemmas.Result.{on_ok_weaker}
use Rattle.c_statements.proofs.Writing.{line_written}
use Rattle.c_statements.proofs.lines.put_line.Goals as goal

pub returns : goal.returns
returns c = on_ok_weaker c.put_text-2.result (λ e. line_written c.args.words.now c.in_ok-put_indent.ensures c.in_ok-put_text.ensures e) c.put_text-2.ensures
