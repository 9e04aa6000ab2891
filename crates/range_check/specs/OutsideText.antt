-- The line that a subscript out of range is shown as, without its line end.
use Rattle.std.specs.Prelude.{ℕ, List, ◌++◌, codes}
use Rattle.std.specs.Fmt.{decimal, signed_decimal}
use Rattle.range_check.specs.declared.outside.OutOfRange.{OutOfRange}

abbrev pub text_of_outside : OutOfRange → List ℕ
text_of_outside o = codes "REFUSED S1 LINE "
    ++ (decimal o.line ++ (codes " DIMENSION "
    ++ (decimal o.dimension ++ (codes " VALUE "
    ++ (signed_decimal o.value ++ (codes " BOUND " ++ signed_decimal o.bound))))))
