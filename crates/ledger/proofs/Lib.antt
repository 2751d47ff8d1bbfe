pub mod Chains
pub mod Below
pub mod Counts
pub mod BookFacts
