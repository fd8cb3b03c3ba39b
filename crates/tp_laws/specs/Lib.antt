pub mod Examples
pub mod Laws
pub mod Clocks
pub mod Plans
pub mod Instants
pub mod InstantExamples
