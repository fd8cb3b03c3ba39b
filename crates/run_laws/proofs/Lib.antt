pub mod Candidates
pub mod Dispatching
pub mod Committing
pub mod Deadlines
pub mod Starts
pub mod Agreeing
pub mod Covering
pub mod Runs
