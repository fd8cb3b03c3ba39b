pub mod Verdicts
pub mod Acts
pub mod Standings
pub mod Watched
pub mod Course
pub mod Laws
