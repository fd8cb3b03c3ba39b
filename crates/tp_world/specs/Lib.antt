pub mod Contents
pub mod Counts
pub mod Faults
pub mod Loads
pub mod Readings
pub mod Requests
pub mod Sinks
pub mod Views
