pub mod Sightings
pub mod KeptWords
