pub mod Begins
pub mod Sums
pub mod Stretches
pub mod Moves
pub mod Shares
