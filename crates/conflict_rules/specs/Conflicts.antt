-- Which two accesses conflict.
use Rattle.std.specs.Prelude.{◌==◌, Bool, ◌&&◌, ◌||◌}
use Rattle.conflict_rules.specs.References.{Reference, variable_of}

-- two accesses conflict under a plan: they name the same variable, and one of them stores
abbrev pub conflict : Reference → Reference → Bool
conflict a b = variable_of a.what == variable_of b.what && (a.stores || b.stores)
