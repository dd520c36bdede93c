pub mod Walked
pub mod Lines
pub mod Wholes
pub mod Certified
pub mod Puts
pub mod Openings
pub mod Laws
