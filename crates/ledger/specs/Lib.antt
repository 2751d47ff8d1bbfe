pub mod Faults
pub mod Actions
pub mod Checks
pub mod Cells
pub mod Meanings
pub mod Books
pub mod Listing
pub mod Layers
