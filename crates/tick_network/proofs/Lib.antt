pub mod Counting
pub mod Raising
pub mod Looks
pub mod Mirrors
pub mod Answering
