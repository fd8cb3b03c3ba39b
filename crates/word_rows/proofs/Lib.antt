pub mod Pieces
pub mod Acts
pub mod Kept
pub mod Scheduled
pub mod Solutions
