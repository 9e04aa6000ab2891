use Rattle.std.proofs.Common.{string_bytes}
use Rattle.c_statements.specs.Texts.{Written, indent}
use Rattle.c_statements.proofs.lines.put_indent.Given as goal

abbrev pub invariant-loop : goal.invariant-loop
invariant-loop l = Written indent (string_bytes l.fn.out) (string_bytes l.out)
