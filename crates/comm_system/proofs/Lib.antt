pub mod Lists
pub mod Stations
pub mod Contexts
pub mod StationFacts
pub mod StationOrder
pub mod KnownHeads
pub mod Places
pub mod Timeline
pub mod FewLoops
pub mod InPlace
pub mod GroupLists
pub mod PhaseCounts
mod GroupSteps
pub mod ShownLists
mod ListSteps
mod SystemParts
pub mod ShapeParts
mod SmallLoops
mod Steps
mod Looks
mod RowSteps
mod Growings
mod PathRows
mod PathGroups
