pub mod Scripts
pub mod Playable
pub mod Reading
pub mod Follows
pub mod Examples
