-- Comparisons: when the one of a logical IF holds.
use Rattle.std.specs.Prelude.{ℤ, int_lt, int_le, Bool, true, Option, Some, None, List}
use Rattle.std.specs.Ordering.{int_eq}
use Rattle.nest_tree.specs.declared.tree.Compare.{Compare}
use Rattle.nest_tree.specs.declared.tree.Compare.TheVariants.{Lt, Le, Eq, Ge, Gt}
use Rattle.nest_tree.specs.declared.tree.Guard.{Guard}
use Rattle.nest_tree.specs.Form.{form_value}

-- the two sides compare as the operator says
abbrev pub compares : Compare → ℤ → ℤ → Bool
compares Lt a b = int_lt a b
compares Le a b = int_le a b
compares Eq a b = int_eq a b
compares Ge a b = int_le b a
compares Gt a b = int_lt b a

-- a comparison holds where the loops and the named constants have these values; where there is none, nothing is in the way
abbrev pub holds : Option Guard → List ℤ → List ℤ → Bool
holds None loops params = true
holds (Some g) loops params =
    compares g.op (form_value g.left loops params) (form_value g.right loops params)
