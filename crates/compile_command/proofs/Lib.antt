pub mod Compiling
pub mod CompilesEnd
