pub mod Outlooks
pub mod Sprouting
