pub mod Commitments
pub mod Histories
