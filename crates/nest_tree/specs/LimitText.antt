-- The line that a limit that is passed is shown as, without its line end.
use Rattle.std.specs.Prelude.{ℕ, List, ◌++◌, codes}
use Rattle.std.specs.Fmt.{decimal, signed_decimal}
use Rattle.nest_tree.specs.declared.limits.Limit.{Limit}
use Rattle.nest_tree.specs.declared.limits.Limit.TheVariants.{TooWide, TooMuchWork, TooManyCells}

abbrev pub text_of_limit : Limit → List ℕ
text_of_limit (TooWide line end) =
    codes "REFUSED X1 LINE " ++ decimal line ++ codes " END " ++ signed_decimal end
text_of_limit (TooMuchWork total) = codes "REFUSED X2 WORK " ++ decimal total
text_of_limit (TooManyCells total) = codes "REFUSED X3 CELLS " ++ decimal total
