pub mod Count
pub mod Shelf
