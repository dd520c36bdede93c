pub mod Tells
pub mod Walk
pub mod Phases
