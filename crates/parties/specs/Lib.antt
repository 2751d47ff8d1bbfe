pub mod Levels
pub mod Tables
pub mod Paths
pub mod Directories
pub mod Limits
