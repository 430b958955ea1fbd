pub mod Counts
pub mod Long
pub mod Opened
pub mod Orders
pub mod Steps
pub mod Turns
