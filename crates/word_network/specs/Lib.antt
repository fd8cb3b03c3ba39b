pub mod Conditions
pub mod Deadlines
pub mod Nets
pub mod Parts
pub mod Schedules
pub mod Solutions
