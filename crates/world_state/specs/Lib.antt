pub mod Rows
pub mod View
pub mod Exact
pub mod Happenings
