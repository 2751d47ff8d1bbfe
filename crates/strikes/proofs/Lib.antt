pub mod Adds
pub mod Places
