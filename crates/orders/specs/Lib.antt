pub mod Resting
pub mod Keeping
pub mod OrderFacts
