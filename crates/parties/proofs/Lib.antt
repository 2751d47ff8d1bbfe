pub mod Levels
pub mod Enrolling
pub mod Records
