mod Cases
pub mod Additions
pub mod Counts
pub mod Digits
pub mod Lists
pub mod Order
pub mod Padded
pub mod Equality
pub mod Words
pub mod Lemmas
pub mod Partitions
pub mod Separators
