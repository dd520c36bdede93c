pub mod DumpCaptures
