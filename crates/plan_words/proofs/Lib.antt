mod Counted
mod Refusals
