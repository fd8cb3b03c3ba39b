pub mod Turns
pub mod Kept
pub mod Told
pub mod Closes
pub mod Lock
