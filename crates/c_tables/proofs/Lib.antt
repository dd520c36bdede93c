mod Fronts
mod Passing
mod Runs
mod EntryValues
mod EntryParts
mod EntrySlots
mod Pieces
pub mod Gaps
