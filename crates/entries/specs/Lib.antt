pub mod Records
pub mod Books
pub mod Holds
pub mod Orders
pub mod Laws
