pub mod Near
pub mod Sides
pub mod Expiry
pub mod Quantities
pub mod Parties
pub mod Counts
