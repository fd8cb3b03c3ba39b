pub mod Building
pub mod Walking
pub mod Relaxing
pub mod WordNets
pub mod Solutions
pub mod ReadBack
pub mod LastClocks
