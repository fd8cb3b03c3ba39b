pub mod Turns
pub mod Clocks
pub mod Keeping
pub mod Held
pub mod Taking
pub mod Offspring
pub mod Merging
pub mod Renewing
