pub mod Views
pub mod Turns
pub mod Frontiers
pub mod Children
pub mod Deeds
pub mod Kept
pub mod Settling
