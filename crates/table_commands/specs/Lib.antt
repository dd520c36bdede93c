pub mod States
pub mod Size
pub mod Ending
pub mod Laws
