pub mod Entries
pub mod ReadingsLemmas
pub mod SinksLemmas
