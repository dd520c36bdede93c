pub mod KeptGaps
pub mod NextPlaces
pub mod NextEdges
pub mod Passing
pub mod InOrder
pub mod FoundPlaces
pub mod TimedSteps
pub mod Walked
