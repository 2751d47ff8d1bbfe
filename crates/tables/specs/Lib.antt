pub mod Tables
pub mod Bounded
