pub mod Changes
pub mod Files
pub mod FilesOf
pub mod Written
pub mod Tracks
pub mod Merges
