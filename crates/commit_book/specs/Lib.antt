pub mod Commits
pub mod Starts
