pub mod SameKinds
pub mod Lies
pub mod PairMet
pub mod OwnersMet
pub mod PairOver
pub mod Solved
pub mod Systems
pub mod StationsThere
pub mod GoodReferences
pub mod PairLists
pub mod Meets
pub mod Cells
pub mod Holders
pub mod Zips
pub mod Chains
pub mod Accesses
pub mod Between
pub mod Certain
pub mod CertainLists
pub mod Owners
pub mod Slots
pub mod Different
mod SeenAccesses
pub mod Ordered
pub mod Waiting
pub mod SamePhase
pub mod ObligationOrder
pub mod FirstStores
pub mod FirstAccesses
mod LastTrips
mod FirstWorks
mod PrivateScalars
pub mod NoTrips
pub mod PathRuns
