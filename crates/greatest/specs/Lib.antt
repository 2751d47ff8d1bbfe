pub mod Greatest
pub mod Headrooms
