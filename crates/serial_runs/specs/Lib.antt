pub mod Endings
pub mod OneWorker
pub mod Commands
pub mod Stopping
pub mod Playing
