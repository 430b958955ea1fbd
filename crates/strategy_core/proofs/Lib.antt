pub mod Shares
pub mod Peels
pub mod Rows
pub mod Readings
pub mod Tables
