pub mod Pieces
pub mod Acts
pub mod Files
pub mod Laws
pub mod Rows
