pub mod Sends
pub mod Leaves
pub mod Ticks
pub mod Few
