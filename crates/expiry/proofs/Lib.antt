pub mod Numbers
pub mod Sums
pub mod Agree
pub mod Receipts
pub mod Levels
pub mod Bounds
pub mod Choose
pub mod Exact
