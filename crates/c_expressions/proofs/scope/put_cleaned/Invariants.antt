use Rattle.std.proofs.Common.{◌≡◌, ◌++◌, map, take, string_bytes}
use Rattle.c_expressions.specs.Names.{cleaned}
use Rattle.c_expressions.proofs.scope.put_cleaned.Given as goal

abbrev pub invariant-loop-byte : goal.invariant-loop-byte
invariant-loop-byte l = string_bytes l.out ≡ string_bytes l.fn.out ++ map cleaned (take l.byte-index l.name)
