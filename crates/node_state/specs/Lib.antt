pub mod Growths
pub mod Founds
pub mod Readings
pub mod Candidates
pub mod Judges
pub mod Levels
pub mod Ranks
pub mod Footprints
