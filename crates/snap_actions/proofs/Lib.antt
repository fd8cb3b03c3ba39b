pub mod Building
pub mod Touching
