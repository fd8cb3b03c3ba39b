pub mod Draws
pub mod Places
pub mod Domain
pub mod Texts
pub mod Ranges
pub mod Examples
