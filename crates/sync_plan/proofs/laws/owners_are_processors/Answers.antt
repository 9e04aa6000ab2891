use Rattle.sync_plan.proofs.FitOwners.{owners_below, printers}
use Rattle.sync_plan.proofs.laws.owners_are_processors.Goals as goal

pub returns-clause-below : goal.returns-clause-below
returns-clause-below c = owners_below

pub returns-clause-printers : goal.returns-clause-printers
returns-clause-printers c = printers
