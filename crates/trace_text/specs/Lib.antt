pub mod Traces
pub mod Examples
pub mod Grammar
pub mod Cuts
pub mod Reading
pub mod Begun
