use Rattle.std.proofs.Common.{◌≡◌, ◌++◌, string_bytes}
use Rattle.c_expressions.specs.Told.{opens}
use Rattle.c_expressions.proofs.values.put_opens.Given as goal

abbrev pub invariant-loop : goal.invariant-loop
invariant-loop l = string_bytes l.out ≡ string_bytes l.fn.out ++ opens l.word l.counter
