pub mod Nets
pub mod Relaxing
