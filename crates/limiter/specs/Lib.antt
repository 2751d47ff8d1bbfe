pub mod Changes
pub mod States
pub mod Positions
pub mod Verdicts
pub mod Steps
pub mod Promise
pub mod Sums
