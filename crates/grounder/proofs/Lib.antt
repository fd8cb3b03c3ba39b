pub mod Leaves
pub mod Numbers
pub mod Steps
pub mod Choices
pub mod Rising
pub mod Sorting
pub mod Counting
pub mod Cutting
