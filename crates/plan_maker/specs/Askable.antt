-- Systems of which elimination can be asked.
use Rattle.std.specs.Prelude.{◌≡◌, ◌-◌, ◌≤◌, ◌<◌, ◌^◌, List, [], length}
use Rattle.farkas_cert.specs.Inequalities.{Inequalities}
use Rattle.farkas_cert.specs.Narrow.{AreNarrow}
use Rattle.owner_partition.specs.declared.anchor.Dist.{Dist}
use Rattle.sync_plan.specs.declared.plan.Plan.{Plan}
use Rattle.comm_system.specs.Subjects.{Subject, of_path, of_slot, of_trips}
use Rattle.comm_system.specs.SystemViews.{kept_columns}
use Rattle.comm_system.specs.declared.in_place.PairSystems.{PairSystems}
use Rattle.plan_maker.specs.Asked.{owners_dealt}
use Rattle.plan_maker.specs.Orders.{unknowns_of}

-- a system whose owners are dealt so: its numbers are narrow, and the owners' unknowns are among its own, of which there are fewer than 2 ^ 32 - 1
pub record IsAskable (system : Inequalities) (dists : List Dist) : Type 0 where
  pub narrow : AreNarrow system.rows
  pub owners : unknowns_of dists ≤ system.vars
  pub room : system.vars < 2 ^ 32 - 1
  pub few : length dists < 2 ^ 20

-- the unknowns of owners that are dealt so are among those that each system of a pair keeps
abbrev pub HasOwners : List Dist → PairSystems → Type 0
HasOwners dists p = unknowns_of dists ≤ length (kept_columns p)

-- the owners of what a subject asks are dealt so: two trips, and a loop on a path, have none
abbrev pub IsDealtSo : Plan → List Dist → Subject → Type 0
IsDealtSo plan dists (of_trips s pair) = dists ≡ []
IsDealtSo plan dists (of_slot slot left right producers pair) =
    dists ≡ owners_dealt plan slot producers
IsDealtSo plan dists (of_path p) = dists ≡ []
