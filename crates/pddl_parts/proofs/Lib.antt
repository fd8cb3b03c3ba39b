pub mod Firsts
pub mod Least
pub mod Tables
pub mod Entries
pub mod Counts
