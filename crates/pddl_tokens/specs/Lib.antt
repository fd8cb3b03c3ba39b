pub mod Tokens
pub mod Trees
pub mod Faults
pub mod Building
pub mod Looks
pub mod Numbers
