pub mod Texts
pub mod Timescales
pub mod Headers
pub mod Signals
pub mod Sightings
pub mod Values
pub mod Words
