mod Once
mod Tests
mod Ranges
mod Worths
mod Keeps
