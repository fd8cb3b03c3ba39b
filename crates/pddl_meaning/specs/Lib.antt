pub mod Terms
pub mod Values
pub mod Conditions
pub mod Changes
pub mod Groups
