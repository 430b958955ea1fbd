pub mod Found
pub mod Partitions
pub mod Prefixes
