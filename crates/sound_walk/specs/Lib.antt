pub mod Alphabet
pub mod Windows
pub mod Holding
pub mod Laws
