pub mod Readings
pub mod Summaries
