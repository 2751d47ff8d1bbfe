pub mod Steps
pub mod Listings
pub mod Opening
pub mod Cutting
