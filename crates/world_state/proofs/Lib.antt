pub mod RowBits
pub mod RowSets
pub mod Problems
pub mod Bounds
pub mod After
pub mod TimedFacts
pub mod Counts
pub mod AllItems
