pub mod Parts
pub mod Numbers
pub mod Behind
pub mod Played
