-- What is looked for in pieces of work.
use Rattle.std.specs.Prelude.{ℕ, Bool}
use Rattle.nest_tree.specs.Tree.{Work}
use Rattle.own_scalars.specs.declared.works.Look.{Look}
use Rattle.own_scalars.specs.declared.works.Look.TheVariants.{Store, Access, Other}
use Rattle.own_scalars.specs.OwnScalars.{has_access, is_other, stores}

abbrev pub passes : Look → ℕ → Work → Bool
passes Store v w = stores v w
passes Access v w = has_access v w
passes Other v w = is_other v w
