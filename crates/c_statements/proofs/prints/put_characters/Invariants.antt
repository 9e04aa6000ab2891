use Rattle.std.proofs.Common.{◌≡◌, ◌++◌, codes, string_bytes, take}
use Rattle.std.specs.List.{flat_map}
use Rattle.c_statements.specs.Layout.{escaped}
use Rattle.c_statements.proofs.prints.put_characters.Given as goal

abbrev pub invariant-loop-byte : goal.invariant-loop-byte
invariant-loop-byte l = string_bytes l.out ≡ string_bytes l.fn.out ++ (codes "fputs(\" " ++ flat_map escaped (take l.byte-index l.characters))
