pub mod Searches
pub mod Writes
pub mod Whole
