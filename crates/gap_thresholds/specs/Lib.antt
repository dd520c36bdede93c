pub mod Fractions
pub mod Gaps
pub mod Classes
