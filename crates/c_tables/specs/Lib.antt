pub mod Tokens
pub mod Spans
pub mod Arrays
pub mod Tables
pub mod Kept
pub mod TokenLaws
pub mod Slots
pub mod Gaps
