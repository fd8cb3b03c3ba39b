pub mod Ways
pub mod Walks
pub mod Above
pub mod Inside
