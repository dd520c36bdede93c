pub mod Calls
pub mod Named
pub mod Slots
pub mod MemShelf
pub mod MemSink
