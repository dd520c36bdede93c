pub mod Numerals
pub mod Stamps
pub mod LevelsOf
pub mod Captures
pub mod Changes
pub mod Laws
