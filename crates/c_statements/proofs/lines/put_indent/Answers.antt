use Rattle.c_statements.proofs.Writing.{indent_more, no_indent}
use Rattle.c_statements.proofs.lines.put_indent.Goals as goal

pub loop-init : goal.loop-init
loop-init c = no_indent _

pub loop-preserved : goal.loop-preserved
loop-preserved c = indent_more _ _ _ c.loop.invariant c.in_ok-put_text.ensures
