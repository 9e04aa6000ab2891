pub mod Places
pub mod Totals
pub mod WordSteps
pub mod Stages
pub mod Seats
pub mod Taking
pub mod Steps
pub mod Runs
pub mod Vain
pub mod Rounds
mod Reached
mod Schedules
mod Keeps
mod Seating
mod Calls
mod Reading
