pub mod Splits
pub mod Stops
pub mod Digits
pub mod Numbers
pub mod Whole
pub mod Buffers
