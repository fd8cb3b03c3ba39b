pub mod Texts
pub mod Grammar
pub mod Reading
pub mod Examples
pub mod Completion
pub mod Filling
