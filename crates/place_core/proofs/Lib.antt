pub mod Refusals
pub mod Walks
