pub mod Heard
pub mod Writing
pub mod Standings
pub mod Steps
pub mod Knowing
pub mod Calls
pub mod Waiting
mod Ending
pub mod Moving
pub mod Joined
