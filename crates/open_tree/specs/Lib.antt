pub mod Views
pub mod Charter
pub mod Turns
pub mod Keeps
pub mod Jobs
pub mod Broods
pub mod Answers
pub mod Steps
