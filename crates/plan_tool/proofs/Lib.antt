mod Sources
mod Untold
