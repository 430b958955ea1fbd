mod Chaining
mod Doublings
mod Entries
mod Fewer
mod Handing
mod Openings
mod Places
pub mod Spoken
mod Untold
