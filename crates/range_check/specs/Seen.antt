-- Accesses as plain data.
use Rattle.std.specs.Prelude.{List, map}
use Rattle.nest_tree.specs.declared.tree.Access.{Access}
use Rattle.range_check.specs.declared.accesses.Found.{Found}

abbrev pub accesses_seen : List Found → List Access
accesses_seen found = map (λ (f : Found). f.access.now) found
