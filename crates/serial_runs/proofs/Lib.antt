pub mod OneWorker
pub mod Puts
pub mod OneJob
pub mod Turns
pub mod Following
pub mod Playing
pub mod LineByLine
