pub mod Chain
pub mod Children
pub mod Growing
pub mod Keeping
pub mod Nodes
pub mod Places
pub mod Words
