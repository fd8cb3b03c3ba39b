pub mod Regroup
pub mod Tested
pub mod Distinct
