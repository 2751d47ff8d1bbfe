pub mod Strikes
pub mod Listed
pub mod Classes
