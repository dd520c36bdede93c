pub mod Ends
pub mod EndPlaces
pub mod Memories
pub mod Sets
pub mod Laws
