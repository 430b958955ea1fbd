pub mod Kept
pub mod Put
