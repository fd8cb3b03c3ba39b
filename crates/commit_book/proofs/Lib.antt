pub mod Turns
pub mod Held
pub mod Starts
pub mod Closing
