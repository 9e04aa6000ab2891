pub mod Lists
pub mod Places
pub mod ActLists
pub mod MomentActs
pub mod Registers
pub mod Chains
pub mod LastValues
pub mod Keeps
pub mod ActLaws
pub mod Counters
pub mod Unstuck
pub mod Runs
mod Free
pub mod Fair
pub mod Ends
pub mod StateAt
pub mod RoundChains
pub mod RoundCounts
pub mod Quiet
pub mod Shared
pub mod OwnPhases
pub mod Trips
pub mod OwnRuns
pub mod SumForms
pub mod PlannedOrder
pub mod PlannedMemory
pub mod Deeds
pub mod CellsThere
pub mod Parts
pub mod MachineDeeds
pub mod NoOwnDeeds
pub mod MachinePlaces
pub mod MachineSound
pub mod MachineChains
pub mod OwnTexts
pub mod TripOwners
pub mod LastOwners
pub mod LastStores
pub mod Stands
pub mod InstanceJobs
pub mod TripJobs
pub mod PhaseJobs
pub mod OwnClosings
pub mod PhaseMemory
pub mod PhaseEnds
pub mod MachineMemory
pub mod MachineOutput
pub mod MachineLoads
pub mod MachineOrder
mod Examples
pub mod ProtocolLists
mod Passed
mod Arrivals
mod Barriers
mod Gathered
mod Held
mod States
mod PlanBarriers
mod PlanCells
mod PlanHeld
mod OwnValues
