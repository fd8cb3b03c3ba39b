pub mod Growth
pub mod Letters
pub mod Unique
pub mod Values
